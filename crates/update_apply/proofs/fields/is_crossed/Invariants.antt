use Rattle.std.proofs.Common.{◌≡◌, drop}
use Rattle.std.specs.Option.{option_copied}
use Rattle.update_syntax.specs.After.{crossed}
use Rattle.update_apply.proofs.fields.is_crossed.Given as goal

abbrev pub invariant-loop-part : goal.invariant-loop-part
invariant-loop-part l = crossed l.parts (option_copied l.initial.found) ≡ crossed (drop l.part-index l.parts) (option_copied l.found)
