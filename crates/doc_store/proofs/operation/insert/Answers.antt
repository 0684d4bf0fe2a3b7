use Rattle.doc_history.proofs.Going.{served_unlogged}
use Rattle.doc_store.proofs.Carrying.{carried-call, carried-none}
use Rattle.doc_store.proofs.Declined.{declined}
use Rattle.doc_store.proofs.Performed.{performed}
use Rattle.doc_store.proofs.Steps.{insert-comes}
use Rattle.doc_store.proofs.operation.insert.Goals as goal

pub returns-in-Err-clause-served : goal.returns-in-Err-clause-served
returns-in-Err-clause-served g c = served_unlogged _ _ _ (declined _ _ c.in-Err.ensures.err)

pub returns-clause-served : goal.returns-clause-served
returns-clause-served g c =
    let called = rw c.call.ensures.opening at c.call.ensures.called in
    rw c.added_reply.ensures (performed _ called (λ t before after sound step.
    insert-comes c.args.who c.args.now _ c.args.doc _ t _ before after sound c.in-Ok.ensures.ok.1 c.in-Ok.ensures.ok.0 step))

pub returns-in-Err-clause-carries : goal.returns-in-Err-clause-carries
returns-in-Err-clause-carries g c = carried-none _ _

pub returns-clause-carries : goal.returns-clause-carries
returns-clause-carries g c = carried-call _ c.call.ensures.called tt
