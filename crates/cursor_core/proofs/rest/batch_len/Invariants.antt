use Rattle.std.proofs.Common.{◌≡◌, ◌≤◌, length, map, drop, ◌+◌, ◌-◌}
use Rattle.bson_values.specs.Cut.{further}
use Rattle.cursor_core.proofs.rest.batch_len.Given as goal

abbrev pub invariant-loop-item : goal.invariant-loop-item
invariant-loop-item l = record {
  counts : l.count + further l.bytes (map length (drop l.count l.items.items)) (l.most - l.count)
      ≡ further l.first (map length (drop 1 l.items.items)) (l.most - 1) + 1;
  within : l.count ≤ length l.items.items;
  most : l.count ≤ l.most;
}

abbrev pub decreases-loop-item : goal.decreases-loop-item
decreases-loop-item l = length l.items.items - l.count
