use Rattle.std.proofs.Common.{◌≡◌, drop}
use Rattle.doc_shape.specs.Answers.{joined}
use Rattle.doc_shape.specs.Reading.{ways_in}
use Rattle.doc_shape.proofs.order.read_ways.Given as goal

abbrev pub invariant-loop-pair : goal.invariant-loop-pair
invariant-loop-pair l = joined l.ways (ways_in l.room (drop l.pair-index l.pair-items)) ≡ ways_in 32 l.pair-items
