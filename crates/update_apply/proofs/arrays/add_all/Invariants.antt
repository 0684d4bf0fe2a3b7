use Rattle.std.proofs.Common.{◌≡◌, ◌++◌, drop}
use Rattle.update_apply.proofs.arrays.add_all.Given as goal

abbrev pub invariant-loop-it : goal.invariant-loop-it
invariant-loop-it l = l.initial.items ++ l.more ≡ l.items ++ drop l.it-index l.more
