use Rattle.std.proofs.Common.{◌≡◌, ◌++◌, drop}
use Rattle.std.specs.List.{flat_map}
use Rattle.pushdown.specs.Pushed.{conjuncts}
use Rattle.pushdown.proofs.push.+push.Given as goal

abbrev pub invariant-push_all-loop-filter : goal.invariant-push_all-loop-filter
invariant-push_all-loop-filter l =
    l.out ++ flat_map conjuncts (drop l.filter-index l.filters) ≡ l.initial.out ++ flat_map conjuncts l.filters
