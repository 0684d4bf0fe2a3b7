use Rattle.std.proofs.Common.{ap}
use Rattle.doc_model.specs.declared.op.OpReply.TheVariants.{Selected}
use Rattle.doc_model.specs.Step.{same, selected}
use Rattle.doc_model.proofs.Inserts.{insert-landed}
use Rattle.doc_model.proofs.laws.what_was_inserted_is_found.Goals as goal

pub returns : goal.returns
returns c = λ who other now then' space doc query s t is.
    ap (λ docs. same (Selected (selected query docs)) t) (insert-landed space _ s t _ is).last
