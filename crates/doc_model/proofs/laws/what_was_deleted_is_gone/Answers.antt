use Rattle.doc_model.proofs.Ids.{deleted-gone}
use Rattle.doc_model.proofs.laws.what_was_deleted_is_gone.Goals as goal

pub returns : goal.returns
returns c = deleted-gone
