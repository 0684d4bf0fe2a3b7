use Rattle.std.proofs.Common.{sym}
use Rattle.doc_shape.proofs.Placed.{told_past}
use Rattle.doc_shape.proofs.place.place_of.Goals as goal

pub returns-in-Err : goal.returns-in-Err
returns-in-Err c = told_past _ c.args.part.now c.in-Err.field-0 (sym c.if-not-tells_a_place.ensures) c.in-Err.ensures.value.0
