use Rattle.history_lock.proofs.Crossing.{shared}
use Rattle.history_tests.proofs.tests.counter.Counter.TheSendSync as counter
use Rattle.history_tests.proofs.tests.threads.both.Goals as goal

pub join-requires-send-F : goal.join-requires-send-F
join-requires-send-F g c κs within = search (shared, counter.the_send) depth 12

pub join-requires-send-A : goal.join-requires-send-A
join-requires-send-A g c κs within = search (shared, counter.the_send) depth 12
