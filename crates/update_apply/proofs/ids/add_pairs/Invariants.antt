use Rattle.std.proofs.Common.{◌≡◌, ◌++◌, drop}
use Rattle.update_apply.proofs.ids.add_pairs.Given as goal

abbrev pub invariant-loop-pair : goal.invariant-loop-pair
invariant-loop-pair l = l.initial.out ++ l.pairs ≡ l.out ++ drop l.pair-index l.pairs
