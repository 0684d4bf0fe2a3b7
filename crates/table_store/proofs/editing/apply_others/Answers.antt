use Rattle.std.proofs.Common.{[], ◌∷◌, ◌∙◌, ap, sym}
use Rattle.table_rows.specs.declared.listed.Listed.{Listed}
use Rattle.table_words.specs.Step.{edited}
use Rattle.table_store.specs.Edits.{others}
use Rattle.table_store.proofs.Edited.{others-push}
use Rattle.table_store.proofs.editing.apply_others.Goals as goal

pub loop-edit-preserved : goal.loop-edit-preserved
loop-edit-preserved c =
    c.apply_other.ensures ∙ ap (λ (t : Listed). record t { rows = edited (others c.args.key.now (c.in-Some.edit ∷ [])) t.rows })
    c.loop-edit.invariant
    ∙ ap (λ rows. record c.args.table.now { rows = rows })
    (sym (others-push c.args.key.now c.loop-edit.yielded c.in-Some.edit c.args.table.now.rows))
