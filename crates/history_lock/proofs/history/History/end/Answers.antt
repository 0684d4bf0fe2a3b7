use Rattle.history_lock.proofs.history.History.end.Goals as goal

pub pass_turn-requires-clause-sits : goal.pass_turn-requires-clause-sits
pass_turn-requires-clause-sits g c = (_, c.seat.invariant)
