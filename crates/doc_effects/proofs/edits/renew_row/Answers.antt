use Rattle.doc_effects.proofs.Editing.{renews_row}
use Rattle.doc_effects.proofs.edits.renew_row.Goals as goal

pub returns-clause-ok : goal.returns-clause-ok
returns-clause-ok c =
    renews_row c.args.update.now c.args.now c.args.doc.now _ c.args.edits.now _ c.in_ok-row.ensures.ok c.in_ok-add_row.ensures
