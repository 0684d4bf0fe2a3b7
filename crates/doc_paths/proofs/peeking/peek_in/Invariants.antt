use Rattle.std.proofs.Common.{◌≡◌, drop}
use Rattle.std.specs.Option.{option_copied}
use Rattle.doc_paths.specs.Changes.{peeked, behind}
use Rattle.doc_paths.proofs.peeking.peek_in.Given as goal

abbrev pub invariant-loop-part : goal.invariant-loop-part
invariant-loop-part l = behind (peeked l.parts) (option_copied l.initial.found) ≡ behind (peeked (drop l.part-index l.parts))
    (option_copied l.found)
