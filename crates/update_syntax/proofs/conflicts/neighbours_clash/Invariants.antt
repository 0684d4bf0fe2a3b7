use Rattle.std.proofs.Common.{◌≡◌, length}
use Rattle.update_syntax.specs.Conflicts.{neighbours_clash}
use Rattle.update_syntax.proofs.conflicts.neighbours_clash.Given as goal

abbrev pub invariant-loop-rest : goal.invariant-loop-rest
invariant-loop-rest l = neighbours_clash l.rest ≡ neighbours_clash l.paths

abbrev pub decreases-loop-rest : goal.decreases-loop-rest
decreases-loop-rest l = length l.rest
