use Rattle.std.proofs.Common.{◌≡◌, ◌≤◌, ◌++◌, length, ◌-◌}
use Rattle.std.specs.Vec.{vec_capacity}
use Rattle.cursor_core.proofs.rest.move_out.Given as goal

abbrev pub invariant-loop-items : goal.invariant-loop-items
invariant-loop-items l = record {
  both : l.batch.items ++ l.items.items ≡ l.fn.items.items;
  few : length l.batch.items ≤ l.count;
  room : l.count ≤ vec_capacity l.batch;
}

abbrev pub decreases-loop-items : goal.decreases-loop-items
decreases-loop-items l = l.count - length l.batch.items
