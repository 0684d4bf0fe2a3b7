use Rattle.std.proofs.Common.{◌≡◌, false}
use Rattle.history_lock.specs.Seats.{moved}
use Rattle.history_tests.proofs.tests.threads.take_turns.Given as goal

abbrev pub invariant-loop-op : goal.invariant-loop-op
invariant-loop-op g l = l.seat ≡ moved l.fn.seat false l.seat.at
