use Rattle.doc_model.specs.Step.{matching}
use Rattle.doc_history.specs.Docs.{docs_in_rows}
use Rattle.doc_effects.proofs.Ending.{deleted_ends}
use Rattle.doc_effects.proofs.outcomes.deleted.Goals as goal

pub returns : goal.returns
returns c =
    deleted_ends c.args.one (matching c.args.filter.now (docs_in_rows c.args.rows.now)) c.in_ok-edits.edits c.len.result
    c.in_ok-edits.ensures c.len.ensures
