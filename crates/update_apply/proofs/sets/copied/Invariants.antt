use Rattle.std.proofs.Common.{◌≡◌, take}
use Rattle.update_apply.proofs.sets.copied.Given as goal

abbrev pub invariant-loop-it : goal.invariant-loop-it
invariant-loop-it l = l.all ≡ take l.it-index l.items
