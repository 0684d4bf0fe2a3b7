use Rattle.std.proofs.Common.{◌≡◌, map, take}
use Rattle.doc_shape.specs.Rows.{row}
use Rattle.doc_shape.proofs.sorting.rows_of.Given as goal

abbrev pub invariant-loop-doc : goal.invariant-loop-doc
invariant-loop-doc l = l.rows ≡ map (row l.ways) (take l.doc-index l.docs)
