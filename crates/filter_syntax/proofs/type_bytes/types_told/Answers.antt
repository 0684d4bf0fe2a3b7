use Rattle.filter_syntax.proofs.Loops.{from_nothing}
use Rattle.filter_syntax.proofs.type_bytes.types_told.Goals as goal

pub returns-in-Ok : goal.returns-in-Ok
returns-in-Ok c = from_nothing _ _ _ c.new-all.ensures c.in-Ok.ensures
