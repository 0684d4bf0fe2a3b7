use Rattle.std.proofs.Common.{◌≡◌, inl, refl, sym, subst, arith}
use Rattle.doc_history.proofs.Going.{served_unlogged}
use Rattle.doc_store.specs.Attempts.{Tells}
use Rattle.doc_store.proofs.Carrying.{carried-none, carried-on}
use Rattle.doc_store.proofs.Performed.{ended-few}
use Rattle.doc_store.proofs.Trying.{ended-on, ended-served}
use Rattle.doc_store.proofs.changing.change.Goals as goal

pub returns-in_default-clause-served : goal.returns-in_default-clause-served
returns-in_default-clause-served g c = served_unlogged _ _ _ (inl refl)

pub returns-in_default-clause-carries : goal.returns-in_default-clause-carries
returns-in_default-clause-carries g c = carried-none _ _

pub returns-in-Ends-clause-served : goal.returns-in-Ends-clause-served
returns-in-Ends-clause-served g c =
    let tells = rw c.in-Ok.ensures.0 at c.attempt.ensures.tells in
    ended-served _ _ _ _ 1 (subst (Tells _ _ _ _ _ _) c.in-Ends.is tells)

pub returns-in-Again-clause-served : goal.returns-in-Again-clause-served
returns-in-Again-clause-served g c =
    let tells = rw c.in-Ok.ensures.0 at c.attempt.ensures.tells in
    let ends = rw c.attempt.ensures.opening at c.in_turn.ensures.tells in
    ended-served _ _ _ _ 3 (ended-on _ _ _ _ _ 2 1 (subst (Tells _ _ _ _ _ _) c.in-Again.is tells) ends)

pub returns-in-Again-clause-carries : goal.returns-in-Again-clause-carries
returns-in-Again-clause-carries g c =
    let carried = rw c.in-Ok.ensures.0 at c.attempt.ensures.carries in
    carried-on _ _ _ _ carried c.in_turn.ensures.carries
