use Rattle.std.proofs.Common.{◌∙◌, ap}
use Rattle.table_store.proofs.Calls.{undone, done}
use Rattle.table_store.proofs.editing.edit_and_add.Goals as goal

pub returns-in-Ok-apply-clause-ok : goal.returns-in-Ok-apply-clause-ok
returns-in-Ok-apply-clause-ok g c =
    done _ _ _ _ c.args.edits c.in-Ok-copy.key _ _ c.requires.absent c.in-Ok-copy.ensures c.in-Ok-insert.ensures.ok
    c.apply_others.ensures c.set_stamp.ensures

pub returns-in-Err-apply-clause-err : goal.returns-in-Err-apply-clause-err
returns-in-Err-apply-clause-err g c =
    undone _ _ _ c.in-Ok-copy.key _ _ c.requires.absent c.in-Ok-copy.ensures c.in-Ok-insert.ensures.ok c.remove-gone.ensures.rows
