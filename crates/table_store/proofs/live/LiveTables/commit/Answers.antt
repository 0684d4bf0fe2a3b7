use Rattle.std.proofs.Common.{refl, sym, ◌∙◌}
use Rattle.table_store.proofs.Calls.{above-at, commit-ran, change-tells, told-same}
use Rattle.table_store.proofs.live.LiveTables.commit.Goals as goal

pub change_rows-requires-clause-above : goal.change_rows-requires-clause-above
change_rows-requires-clause-above g c =
    above-at _ _ _ _ _ (rw c.deref.ensures.value at c.in-Some.ensures) c.index_mut-kept.ensures.value c.requires.ready.sound

pub returns-in-Ok-clause-ran : goal.returns-in-Ok-clause-ran
returns-in-Ok-clause-ran g c =
    commit-ran _ _ _ _ _ _ _ _ _ _ _ (rw c.deref.ensures.value at c.in-Some.ensures) c.index_mut-kept.ensures.value c.in-Ok.ensures.ok
    (sym c.if-stamp.false ∙ c.stamp.ensures) (sym c.has_added.ensures ∙ c.if-has_added.false) c.if-self-gt-LAST_NUMBER.false
    c.in-Ok.ensures.cause.kept

pub returns-in-Ok-clause-told : goal.returns-in-Ok-clause-told
returns-in-Ok-clause-told g c =
    change-tells _ _ _ _ _ _ c.args.edits c.args.added _ _ _ c.requires.ready.sound c.requires.sound.0 c.requires.sound.1
    (rw c.deref.ensures.value at c.in-Some.ensures) c.index_mut-kept.ensures.value c.in-Ok.ensures.ok
    (sym c.has_added.ensures ∙ c.if-has_added.false) c.in-Ok.ensures.told c.requires.ready.tells

pub returns-in-Err-clause-told : goal.returns-in-Err-clause-told
returns-in-Err-clause-told g c =
    told-same _ _ _ _ _ _ _ _ _ c.in-Err.refused (rw c.deref.ensures.value at c.in-Some.ensures) c.index_mut-kept.ensures.value
    c.in-Err.ensures.err c.in-Err.ensures.told c.requires.ready.tells
