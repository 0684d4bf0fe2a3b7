use Rattle.dispatcher.proofs.Starved.{starved_is}
use Rattle.dispatcher.proofs.telling.starved.Goals as goal

pub returns : goal.returns
returns c = starved_is
