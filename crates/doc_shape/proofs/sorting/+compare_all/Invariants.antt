use Rattle.std.proofs.Common.{length}
use Rattle.doc_shape.proofs.sorting.+compare_all.Given as goal

abbrev pub decreases-compare_all : goal.decreases-compare_all
decreases-compare_all l = length l.one.now
