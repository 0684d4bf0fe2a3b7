use Rattle.doc_store.proofs.Carrying.{carried-longer, carried-on}
use Rattle.doc_store.proofs.Exits.{ended-longer}
use Rattle.doc_store.proofs.changing.in_turn.Goals as goal

pub returns-clause-tells : goal.returns-clause-tells
returns-clause-tells g c =
    let tells = rw c.hold.ensures.opening at c.settle-reply.ensures.tells in
    rw c.release.ensures.same (ended-longer _ _ _ _ _ 1 c.hold.ensures.longer tells)

pub returns-clause-carries : goal.returns-clause-carries
returns-clause-carries g c =
    rw c.release.ensures.same
    (carried-on _ _ _ _ (carried-longer _ _ _ c.hold.ensures.longer.more c.hold.ensures.longer.seen c.hold.ensures.longer.own)
    c.settle-reply.ensures.carries)
