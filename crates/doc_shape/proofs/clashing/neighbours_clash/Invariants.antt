use Rattle.std.proofs.Common.{◌≡◌, length}
use Rattle.doc_shape.specs.Clashes.{neighbours_clash}
use Rattle.doc_shape.proofs.clashing.neighbours_clash.Given as goal

abbrev pub invariant-loop-rest : goal.invariant-loop-rest
invariant-loop-rest l = neighbours_clash l.rest ≡ neighbours_clash l.paths

abbrev pub decreases-loop-rest : goal.decreases-loop-rest
decreases-loop-rest l = length l.rest
