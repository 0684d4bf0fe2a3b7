use Rattle.std.proofs.Common.{take}
use Rattle.update_apply.specs.Ranks.{Tells}
use Rattle.update_apply.proofs.sets.seen_of.Given as goal

abbrev pub invariant-loop-value : goal.invariant-loop-value
invariant-loop-value l = Tells l.seen (take l.value-index l.values)
