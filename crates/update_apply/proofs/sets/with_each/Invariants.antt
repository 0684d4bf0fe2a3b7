use Rattle.std.proofs.Common.{◌≡◌, drop}
use Rattle.update_apply.specs.Ranks.{Tells}
use Rattle.update_syntax.specs.After.{with_each}
use Rattle.update_apply.proofs.sets.with_each.Given as goal

abbrev pub invariant-loop-it : goal.invariant-loop-it
invariant-loop-it l = (with_each l.items l.more ≡ with_each l.all (drop l.it-index l.more)) × Tells l.seen l.all
