use Rattle.std.proofs.Common.{◌≡◌, ◌<◌, ◌+◌, ◌-◌, ◌^◌, length, min, drop}
use Rattle.std.specs.List.{flat_map}
use Rattle.pushdown.specs.Pushed.{conjuncts}
use Rattle.pushdown.proofs.count.+count.Given as goal

-- the conjuncts so far and those that are left are all
abbrev pub invariant-pushed_by_all-loop-filter : goal.invariant-pushed_by_all-loop-filter
invariant-pushed_by_all-loop-filter l = record {
  whole : min (l.count + length (flat_map conjuncts (drop l.filter-index l.filters))) (2 ^ 64 - 1)
      ≡ min (length (flat_map conjuncts l.filters)) (2 ^ 64 - 1);
  fits : l.count < 2 ^ 64;
}
