use Rattle.table_store.proofs.Calls.{undone}
use Rattle.table_store.proofs.inserting.add_row.Goals as goal

pub returns-clause-err : goal.returns-clause-err
returns-clause-err g c = undone _ _ _ c.in-Ok-copy.key _ _ c.requires.absent c.in-Ok-copy.ensures c.in-Ok-insert.ensures.ok
    c.remove-gone.ensures.rows
