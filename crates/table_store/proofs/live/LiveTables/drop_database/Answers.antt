use Rattle.std.proofs.Common.{ap, length, ◌∙◌}
use Rattle.table_store.specs.Found.{all_shown}
use Rattle.table_store.proofs.Calls.{told-kept}
use Rattle.table_store.proofs.Drops.{count-drops, shown-outside, database-none, database-ran, database-tells, database-refused}
use Rattle.table_store.proofs.live.LiveTables.drop_database.Goals as goal

pub returns-then-count-eq0-clause-ran : goal.returns-then-count-eq0-clause-ran
returns-then-count-eq0-clause-ran g c =
    database-none _ _ _ (c.len-count.ensures ∙ ap length (rw c.deref.ensures.value at c.in-Ok.ensures)
    ∙ count-drops c.args.db.now (all_shown c.args.self.now.live.items)) c.if-count-eq0.true _

pub returns-in-Ok-apply-clause-ran : goal.returns-in-Ok-apply-clause-ran
returns-in-Ok-apply-clause-ran g c =
    database-ran c.args.self.now.live.items _ _ _ _ _ _
    (c.len-count.ensures ∙ ap length (rw c.deref.ensures.value at c.in-Ok.ensures)
    ∙ count-drops c.args.db.now (all_shown c.args.self.now.live.items))
    (ap all_shown c.leave_outside.ensures ∙ shown-outside c.args.db.now c.args.self.now.live.items) c.in-Ok-apply.ensures.cause.kept

pub returns-in-Ok-apply-clause-told : goal.returns-in-Ok-apply-clause-told
returns-in-Ok-apply-clause-told g c =
    database-tells c.args.self.now.live.items _ _ _ _ _ _ _ c.requires.ready.sound (rw c.deref.ensures.value at c.in-Ok.ensures)
    (ap all_shown c.leave_outside.ensures ∙ shown-outside c.args.db.now c.args.self.now.live.items)
    (rw c.as_slice.ensures at c.in-Ok-apply.ensures.told) c.requires.ready.tells

pub returns-clause-ran : goal.returns-clause-ran
returns-clause-ran g c = rw c.refusal_of.ensures
    (database-refused _ _ _ _ _ _ (c.len-count.ensures ∙ ap length (rw c.deref.ensures.value at c.in-Ok.ensures)
    ∙ count-drops c.args.db.now (all_shown c.args.self.now.live.items)) c.if-count-eq0.false c.in-Err.ensures.cause)
