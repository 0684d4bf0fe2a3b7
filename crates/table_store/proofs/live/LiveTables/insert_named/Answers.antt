use Rattle.table_store.proofs.Calls.{ran-as}
use Rattle.table_store.proofs.Creations.{insert-named}
use Rattle.table_store.proofs.live.LiveTables.insert_named.Goals as goal

pub returns-in-Some-clause-ran : goal.returns-in-Some-clause-ran
returns-in-Some-clause-ran g c =
    let live = rw c.deref.ensures.value at c.in-Some.ensures in
    ran-as _ _ _ _ _ _ _ (insert-named _ _ c.args.row _ live.0 c.requires.ready.sound live.1 live.2) c.insert.ensures.ran
