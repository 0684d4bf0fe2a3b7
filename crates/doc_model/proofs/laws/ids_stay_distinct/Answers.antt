use Rattle.doc_model.proofs.Ids.{runs-own}
use Rattle.doc_model.proofs.laws.ids_stay_distinct.Goals as goal

pub returns : goal.returns
returns c = runs-own
