use Rattle.std.proofs.Common.{◌≡◌, map}
use Rattle.doc_shape.specs.declared.sorting.Row.{Row}
use Rattle.doc_shape.proofs.sorting.docs_of.Given as goal

abbrev pub invariant-loop-row : goal.invariant-loop-row
invariant-loop-row l = l.docs ≡ map (λ (row : Row). row.doc) l.yielded
