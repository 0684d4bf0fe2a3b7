use Rattle.std.proofs.Common.{◌∙◌, arith, rules}
use Rattle.history_lock.proofs.Waiting.{draws-allowed}
use Rattle.history_lock.proofs.Turns.{may-look, has-turn}
use Rattle.history_lock.proofs.steps.take_turn.Goals as goal

pub fetch_add-ticket-requires : goal.fetch_add-ticket-requires
fetch_add-ticket-requires g c = (search rules, omega arith, draws-allowed _ _ _ _ _ c.requires.free.0 c.requires.sits.2)

pub load-serving-requires : goal.load-serving-requires
load-serving-requires g c =
    let w = c.loop.invariant.waits in
    (search rules, omega arith, may-look _ _ _ _ w.0 _ _ c.requires.sits.0 w.2 c.requires.sits.1 c.requires.free.1)

pub returns-then-serving-ticket-clause-served : goal.returns-then-serving-ticket-clause-served
returns-then-serving-ticket-clause-served g c =
    let w = c.loop.invariant.waits in (w.0, has-turn _ w.0 _ _ _ _ w.2 c.load-serving.ensures.2 (c.if-serving-ticket.true ∙ w.1))
