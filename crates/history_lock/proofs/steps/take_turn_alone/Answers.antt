use Rattle.std.proofs.Common.{arith, rules}
use Rattle.history_lock.proofs.Waiting.{draws-allowed}
use Rattle.history_lock.proofs.Turns.{may-look, has-turn-alone, sees-no-more}
use Rattle.history_lock.proofs.steps.take_turn_alone.Goals as goal

pub fetch_add-requires : goal.fetch_add-requires
fetch_add-requires g c = (search rules, omega arith, draws-allowed _ _ _ _ _ c.requires.free.0 c.requires.sits.2)

pub load-requires : goal.load-requires
load-requires g c =
    let d = c.fetch_add.ensures.2 in (
      search rules,
      omega arith,
      may-look _ _ _ _ d.0 c.args.place.now.me _ c.requires.sits.0 record { is = d.2 } c.requires.sits.1
          c.requires.free.1,
    )

pub returns-clause-served : goal.returns-clause-served
returns-clause-served g c =
    let d = c.fetch_add.ensures.2 in
    (d.0, has-turn-alone _ d.0 _ _ _ _ c.requires.sits.0 record { is = d.2 } c.load.ensures.2 c.requires.sits.1 c.requires.sits.3)

pub returns-clause-seen : goal.returns-clause-seen
returns-clause-seen g c =
    let d = c.fetch_add.ensures.2 in
    sees-no-more _ d.0 c.args.place.now.me _ c.requires.sits.0
    (has-turn-alone _ d.0 _ _ _ _ c.requires.sits.0 record { is = d.2 } c.load.ensures.2 c.requires.sits.1 c.requires.sits.3)
    c.requires.sits.1 c.requires.sits.3
