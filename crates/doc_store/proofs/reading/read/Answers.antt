use Rattle.std.proofs.Common.{inl, refl, sym, subst}
use Rattle.doc_history.proofs.Going.{served_unlogged}
use Rattle.doc_store.specs.Replies.{AreComing, Reads, rows_of}
use Rattle.doc_model.specs.declared.op.OpReply.TheVariants as told
use Rattle.doc_store.proofs.Carrying.{aim-carries, carried-call, carried-none}
use Rattle.doc_store.proofs.Found.{read-comes, rows-come}
use Rattle.doc_store.proofs.Performed.{performed, came-of}
use Rattle.doc_store.proofs.reading.read.Goals as goal

pub returns-in_default-clause-served : goal.returns-in_default-clause-served
returns-in_default-clause-served g c = served_unlogged _ _ _ (inl refl)

pub returns-in_default-clause-carries : goal.returns-in_default-clause-carries
returns-in_default-clause-carries g c = carried-none _ _

pub answered-requires : goal.answered-requires
answered-requires g c =
    let come = came-of (λ r. AreComing (rows_of r)) c.call-reply.ensures.called
    (λ t before after sound step. rows-come t _ _ _ before after sound step) in
    rw c.as_slice.ensures (subst AreComing (sym c.in-Some.ensures) come)

pub returns-in-Some-clause-served : goal.returns-in-Some-clause-served
returns-in-Some-clause-served g c =
    let called = rw (c.call-reply.ensures.opening, c.in-Ok.ensures) at c.call-reply.ensures.called in
    let answers = rw c.as_slice.ensures at c.answered.ensures.answers in
    let reads = subst (λ x. Reads c.args.aim.now c.args.filter.now x c.answered.result) c.in-Some.ensures answers in
    performed _ called (λ t before after sound step.
    read-comes c.filtering_selected_rows_is_filtering_all.ensures c.args.who c.args.now c.args.aim.now _ _ t _ before after _ sound step reads)

pub returns-in-None-clause-served : goal.returns-in-None-clause-served
returns-in-None-clause-served g c =
    let called = rw (c.call-reply.ensures.opening, c.in-Ok.ensures) at c.call-reply.ensures.called in
    let reads = subst (λ x. Reads c.args.aim.now c.args.filter.now x told.NoMemory) c.in-None.ensures refl in
    performed _ called (λ t before after sound step.
    read-comes c.filtering_selected_rows_is_filtering_all.ensures c.args.who c.args.now c.args.aim.now _ _ t _ before after _ sound step reads)

pub returns-in-Some-clause-carries : goal.returns-in-Some-clause-carries
returns-in-Some-clause-carries g c = carried-call _ c.call-reply.ensures.called (aim-carries c.args.aim.now _ _ _ c.in-Ok.ensures)

pub returns-in-None-clause-carries : goal.returns-in-None-clause-carries
returns-in-None-clause-carries g c = carried-call _ c.call-reply.ensures.called (aim-carries c.args.aim.now _ _ _ c.in-Ok.ensures)
