use Rattle.std.proofs.Common.{ap}
use Rattle.history_lock.proofs.Joining.{was-joined}
use Rattle.history_lock.proofs.history.History.join.Goals as goal

pub returns-clause-joined : goal.returns-clause-joined
returns-clause-joined g c =
    was-joined _ _ _ c.seat.inside.place.me.0.at c.other.inside.place.me.0.at (ap (λ v. v.at) c.seat.view_is)
    (ap (λ v. v.at) c.other.view_is) (ap (λ z. z.0.at) c.merge.ensures.merged) c.merge.ensures.told
