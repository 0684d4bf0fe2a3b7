use Rattle.std.proofs.Common.{◌≡◌, ◌==◌, ◌&&◌, false}
use Rattle.doc_model.specs.Step.{matching}
use Rattle.doc_history.specs.Docs.{docs_in_rows}
use Rattle.doc_effects.proofs.Ending.{updated_ends, no_upsert, some_matched}
use Rattle.doc_effects.proofs.outcomes.updated.Goals.{
  else-matched-eq0-via-then-matched-eq0+else-upsert,
  else-matched-eq0-via-else-matched-eq0,
}
use Rattle.doc_effects.proofs.outcomes.updated.Goals as goal

pub returns-clause-ok : goal.returns-clause-ok
returns-clause-ok c =
    let none : ((c.in_ok-matched.field-0.matched == 0) && c.args.upsert) ≡ false = elim c.else-matched-eq0.branch [
      | else-matched-eq0-via-then-matched-eq0+else-upsert w ↦ no_upsert c.in_ok-matched.field-0.matched c.args.upsert w.if-upsert.false
      | else-matched-eq0-via-else-matched-eq0 w ↦ some_matched c.in_ok-matched.field-0.matched c.args.upsert w.if-matched-eq0.false
    ] in
    updated_ends c.args.who c.args.now c.args.filter.now c.args.update.now c.args.multi c.args.upsert
    (matching c.args.filter.now (docs_in_rows c.args.rows.now)) c.in_ok-matched.field-0 c.len.result
    c.in_ok-matched.ensures.ok c.len.ensures none
