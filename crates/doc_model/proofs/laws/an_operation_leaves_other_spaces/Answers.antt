use Rattle.doc_model.proofs.Turned.{others-left}
use Rattle.doc_model.proofs.laws.an_operation_leaves_other_spaces.Goals as goal

pub returns : goal.returns
returns c = others-left
