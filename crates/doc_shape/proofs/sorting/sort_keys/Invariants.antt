use Rattle.std.proofs.Common.{◌≡◌, map, take}
use Rattle.doc_shape.specs.Rows.{sort_key}
use Rattle.doc_shape.proofs.sorting.sort_keys.Given as goal

abbrev pub invariant-loop-way : goal.invariant-loop-way
invariant-loop-way l = l.keys ≡ map (sort_key l.doc) (take l.way-index l.ways)
