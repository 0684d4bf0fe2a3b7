use Rattle.std.proofs.Common.{refl, sym, ◌∙◌, rules}
use Rattle.table_store.proofs.Calls.{told-kept}
use Rattle.table_store.proofs.Creations.{with-full, with-spent, with-ran, with-tells, with-refused, made-table, pushed}
use Rattle.table_store.proofs.live.LiveTables.create_with.Goals as goal

pub returns-then-as_slice-ge-MOST_TABLES-clause-ran : goal.returns-then-as_slice-ge-MOST_TABLES-clause-ran
returns-then-as_slice-ge-MOST_TABLES-clause-ran g c = with-full c.args.self.now.live.items _ _ c.requires.absent _ (search rules) _

pub returns-then-self-ge-LAST_NUMBER-clause-ran : goal.returns-then-self-ge-LAST_NUMBER-clause-ran
returns-then-self-ge-LAST_NUMBER-clause-ran g c =
    with-spent c.args.self.now.live.items _ _ c.requires.absent _ (search rules) c.if-self-ge-LAST_NUMBER.true _

pub returns-in-Ok-apply-clause-ran : goal.returns-in-Ok-apply-clause-ran
returns-in-Ok-apply-clause-ran g c =
    with-ran c.args.self.now.live.items _ _ c.requires.absent _ _ c.set_stamp.new.self _ _ (search rules) c.if-self-ge-LAST_NUMBER.false
    (made-table _ _ _ _ _ _ c.new-table.ensures c.in-Ok-insert.ensures.ok c.set_stamp.ensures)
    (pushed _ _ _ _ c.push_reserved.ensures.items c.in-Ok-reserve.ensures.items) c.in-Ok-apply.ensures.cause.kept

pub returns-in-Ok-apply-clause-told : goal.returns-in-Ok-apply-clause-told
returns-in-Ok-apply-clause-told g c =
    with-tells c.args.self.now.live.items _ _ _ _ _ _ c.set_stamp.new.self _ _ _ c.requires.ready.sound c.requires.sound c.in-Ok.ensures
    c.in-Ok-put_of.ensures (made-table _ _ _ _ _ _ c.new-table.ensures c.in-Ok-insert.ensures.ok c.set_stamp.ensures)
    (pushed _ _ _ _ c.push_reserved.ensures.items c.in-Ok-reserve.ensures.items) c.in-Ok-apply.ensures.told c.requires.ready.tells

pub returns-in-Err-apply-clause-ran : goal.returns-in-Err-apply-clause-ran
returns-in-Err-apply-clause-ran g c =
    rw (c.refusal_of.ensures, c.in-Ok-reserve.ensures.items)
    (with-refused c.args.self.now.live.items _ _ c.requires.absent _ _ _ _ (search rules) c.if-self-ge-LAST_NUMBER.false
    c.in-Err-apply.ensures.cause)
