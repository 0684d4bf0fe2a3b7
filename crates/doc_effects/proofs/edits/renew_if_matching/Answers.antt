use Rattle.doc_effects.proofs.Editing.{renews_nothing}
use Rattle.doc_history.specs.Docs.{doc_of}
use Rattle.doc_effects.proofs.edits.renew_if_matching.Goals as goal

pub returns-in-None-clause-ok : goal.returns-in-None-clause-ok
returns-in-None-clause-ok c =
    renews_nothing c.args.update.now c.args.now c.args.filter.now (doc_of c.args.row.now) c.args.edits.now
    (rw c.in-None.is at c.in_ok-doc.ensures.value)
