use Rattle.std.proofs.Common.{length}
use Rattle.doc_shape.proofs.clashing.+begins.Given as goal

abbrev pub decreases-begins : goal.decreases-begins
decreases-begins l = length l.one.now
