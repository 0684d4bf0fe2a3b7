use Rattle.std.proofs.Common.{refl, sym, ◌∙◌, rules}
use Rattle.table_store.proofs.Calls.{told-kept}
use Rattle.table_store.proofs.Creations.{create-full, create-spent, create-ran, create-tells, create-refused, pushed}
use Rattle.table_store.proofs.live.LiveTables.create_new.Goals as goal

pub returns-then-len-ge-MOST_TABLES-clause-ran : goal.returns-then-len-ge-MOST_TABLES-clause-ran
returns-then-len-ge-MOST_TABLES-clause-ran g c = create-full c.args.self.now.live.items _ _ c.requires.absent (search rules) _

pub returns-then-self-gt-LAST_NUMBER-clause-ran : goal.returns-then-self-gt-LAST_NUMBER-clause-ran
returns-then-self-gt-LAST_NUMBER-clause-ran g c =
    create-spent c.args.self.now.live.items _ _ c.requires.absent (search rules) c.if-self-gt-LAST_NUMBER.true _

pub returns-in-Ok-apply-clause-ran : goal.returns-in-Ok-apply-clause-ran
returns-in-Ok-apply-clause-ran g c =
    create-ran c.args.self.now.live.items _ _ c.requires.absent _ _ _ _ (search rules) c.if-self-gt-LAST_NUMBER.false c.new.ensures
    (pushed _ _ _ _ c.push_reserved.ensures.items c.in-Ok-reserve.ensures.items) c.in-Ok-apply.ensures.cause.kept

pub returns-in-Ok-apply-clause-told : goal.returns-in-Ok-apply-clause-told
returns-in-Ok-apply-clause-told g c =
    create-tells c.args.self.now.live.items _ _ c.requires.absent _ _ _ _ _ _ c.in-Ok.ensures c.new.ensures
    (pushed _ _ _ _ c.push_reserved.ensures.items c.in-Ok-reserve.ensures.items) c.in-Ok-apply.ensures.told c.requires.ready.tells

pub returns-in-Err-apply-clause-ran : goal.returns-in-Err-apply-clause-ran
returns-in-Err-apply-clause-ran g c =
    rw (c.refusal_of.ensures, c.in-Ok-reserve.ensures.items)
    (create-refused c.args.self.now.live.items _ _ c.requires.absent _ _ _ (search rules) c.if-self-gt-LAST_NUMBER.false
    c.in-Err-apply.ensures.cause)
