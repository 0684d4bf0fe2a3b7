use Rattle.history_lock.proofs.Histories.{legal-accepted}
use Rattle.history_lock.proofs.laws.legal_calls_might_be_made.Goals as goal

pub returns : goal.returns
returns g c = legal-accepted _ _ _ g.met.O.Object.only_accepted
