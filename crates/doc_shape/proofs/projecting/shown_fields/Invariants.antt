use Rattle.std.proofs.Common.{◌≡◌, ◌++◌, drop}
use Rattle.doc_shape.specs.Shown.{shown}
use Rattle.doc_shape.proofs.projecting.shown_fields.Given as goal

abbrev pub invariant-loop-pair : goal.invariant-loop-pair
invariant-loop-pair l = l.out ++ shown l.shape (drop l.pair-index l.pair-items) ≡ shown l.shape l.pair-items
