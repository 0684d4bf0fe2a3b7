use Rattle.doc_effects.proofs.Displaying.{cut_begins}
use Rattle.doc_effects.proofs.answers.cut.Goals as goal

pub returns : goal.returns
returns c =
    cut_begins c.args.docs.now c.in-Some.first.now c.size.result c.args.most _ c.in-Some.ensures.value c.if-most-eq0.false c.size.ensures
    c.batch_len.ensures
