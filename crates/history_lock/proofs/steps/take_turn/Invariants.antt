use Rattle.std.proofs.Common.{◌≡◌, ℕ, ◌%◌, ◌^◌}
use Rattle.history_lock.proofs.Turns.{Waiting}
use Rattle.history_lock.proofs.steps.take_turn.Given as goal

abbrev pub invariant-loop : goal.invariant-loop
invariant-loop g l = record {
  table : l.place.table_id ≡ l.fn.place.table_id;
  id : l.place.id ≡ l.fn.place.id;
  waits : (t : ℕ) × (l.ticket ≡ t % 2 ^ 64) × Waiting l.fn.place.me t l.place.me;
}
