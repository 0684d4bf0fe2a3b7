use Rattle.doc_history.proofs.Parts.{law_grows}
use Rattle.doc_history.proofs.laws.a_part_stays_told.Goals as goal

pub returns : goal.returns
returns c = law_grows
