use Rattle.std.proofs.lemmas.Result.{IfOk-weaker}
use Rattle.doc_effects.proofs.Firsts.{row_is, stored_again, stored_has_id, stored_id_may}
use Rattle.doc_effects.proofs.edits.row_again.Goals as goal

pub unreachable-requires : goal.unreachable-requires
unreachable-requires c = stored_has_id c.args.doc.now c.requires (rw c.in_default.is at c.get.ensures)

pub row_for-requires-clause-may : goal.row_for-requires-clause-may
row_for-requires-clause-may c = stored_id_may c.args.doc.now c.in-Some.id.now c.requires c.in-Some.ensures

pub row_for-requires-clause-stored : goal.row_for-requires-clause-stored
row_for-requires-clause-stored c = stored_again c.args.doc.now c.requires

pub returns : goal.returns
returns c = IfOk-weaker c.row_for.result _ _ (row_is c.in-Some.id.now c.args.doc.now) c.row_for.ensures
