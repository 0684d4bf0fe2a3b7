use Rattle.std.proofs.Common.{length}
use Rattle.update_syntax.proofs.conflicts.+begins.Given as goal

abbrev pub decreases-begins : goal.decreases-begins
decreases-begins l = length l.one.now
