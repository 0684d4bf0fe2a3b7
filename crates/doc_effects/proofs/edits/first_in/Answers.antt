use Rattle.doc_effects.proofs.Firsts.{first_stored}
use Rattle.doc_effects.proofs.edits.first_in.Goals as goal

pub row_again-requires : goal.row_again-requires
row_again-requires c = first_stored c.args.docs.now c.in-Some.first.now c.requires c.in-Some.ensures.value
