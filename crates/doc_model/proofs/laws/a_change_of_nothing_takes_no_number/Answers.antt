use Rattle.doc_model.proofs.Turned.{no-number}
use Rattle.doc_model.proofs.laws.a_change_of_nothing_takes_no_number.Goals as goal

pub returns : goal.returns
returns c = no-number
