use Rattle.std.proofs.Common.{refl, sym, ◌∙◌, [], Some}
use Rattle.table_store.proofs.Calls.{above-at, insert-ran, change-tells, told-kept}
use Rattle.table_store.proofs.live.LiveTables.insert.Goals as goal

pub add_row-requires-clause-above : goal.add_row-requires-clause-above
add_row-requires-clause-above g c =
    above-at _ _ _ _ _ (rw c.deref.ensures.value at c.in-Some.ensures) c.index_mut-kept.ensures.value c.requires.ready.sound

pub returns-in-Ok-clause-ran : goal.returns-in-Ok-clause-ran
returns-in-Ok-clause-ran g c =
    insert-ran _ _ _ _ _ _ _ _ _ (rw c.deref.ensures.value at c.in-Some.ensures) c.index_mut-kept.ensures.value c.in-Ok.ensures.ok
    (sym c.has.ensures ∙ c.if-has.false) c.if-self-gt-LAST_NUMBER.false c.in-Ok.ensures.cause.kept

pub returns-in-Ok-clause-told : goal.returns-in-Ok-clause-told
returns-in-Ok-clause-told g c =
    change-tells _ _ _ _ _ _ [] (Some c.args.row) _ _ _ c.requires.ready.sound tt c.requires.sound
    (rw c.deref.ensures.value at c.in-Some.ensures) c.index_mut-kept.ensures.value c.in-Ok.ensures.ok
    (sym c.has.ensures ∙ c.if-has.false) c.in-Ok.ensures.told c.requires.ready.tells
