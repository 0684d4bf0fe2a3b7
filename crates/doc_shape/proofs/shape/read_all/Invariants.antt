use Rattle.std.proofs.Common.{◌≡◌, drop}
use Rattle.doc_shape.specs.Answers.{joined}
use Rattle.doc_shape.specs.Reading.{shown_paths}
use Rattle.doc_shape.proofs.shape.read_all.Given as goal

abbrev pub invariant-loop-pair : goal.invariant-loop-pair
invariant-loop-pair l = joined l.all (shown_paths (drop l.pair-index l.pair-items)) ≡ shown_paths l.pair-items
