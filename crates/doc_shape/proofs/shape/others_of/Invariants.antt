use Rattle.std.proofs.Common.{◌≡◌, ◌++◌, map, drop}
use Rattle.std.specs.List.{filter}
use Rattle.doc_shape.specs.Keys.{Way}
use Rattle.doc_shape.specs.Reading.{is_other}
use Rattle.doc_shape.proofs.shape.others_of.Given as goal

abbrev pub invariant-loop-way : goal.invariant-loop-way
invariant-loop-way l =
    l.paths ++ map (λ (way : Way). way.0) (filter is_other (drop l.way-index l.ways)) ≡ map (λ (way : Way). way.0) (filter is_other l.ways)
