use Rattle.std.proofs.Common.{arith, rules}
use Rattle.history_lock.proofs.Passing.{passes-allowed}
use Rattle.history_lock.proofs.Turns.{in-turn}
use Rattle.history_lock.proofs.steps.pass_turn.Goals as goal

pub fetch_add-served-requires : goal.fetch_add-served-requires
fetch_add-served-requires g c =
    let sits = c.requires.sits.1 in
    let t = in-turn _ _ _ sits c.requires.turn in
    (search rules, omega arith, passes-allowed _ _ _ _ t.1.ticket _ _ t.0 t.1.serves sits.origin t.1.slot t.1.stands)
