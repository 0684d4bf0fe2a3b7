use Rattle.std.proofs.Common.{◌≡◌, map, take}
use Rattle.doc_shape.specs.Keys.{Way}
use Rattle.doc_shape.proofs.shape.paths_of.Given as goal

abbrev pub invariant-loop-way : goal.invariant-loop-way
invariant-loop-way l = l.paths ≡ map (λ (way : Way). way.0) (take l.way-index l.ways)
