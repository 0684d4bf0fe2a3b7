use Rattle.std.proofs.Common.{length}
use Rattle.pushdown.proofs.term.+shapes.Given as goal

-- the parts that are left
abbrev pub decreases-shapes : goal.decreases-shapes
decreases-shapes l = length l.parts.now
