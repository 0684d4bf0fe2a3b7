use Rattle.doc_history.proofs.Parts.{law_joins}
use Rattle.doc_history.proofs.laws.two_parts_are_one.Goals as goal

pub returns : goal.returns
returns c = law_joins
