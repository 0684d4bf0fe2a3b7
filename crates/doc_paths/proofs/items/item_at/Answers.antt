use Rattle.std.proofs.Common.{◌∙◌, ◌<◌, ◌^◌, length, sym, arith}
use Rattle.doc_paths.proofs.Digits.{place_read, place_past}
use Rattle.doc_paths.proofs.items.item_at.Goals as goal

pub returns-in-Ok : goal.returns-in-Ok
returns-in-Ok c = c.get.ensures.value ∙ place_read (Unit {0}) c.args.part.now c.args.items.now c.in-Ok.place (sym c.if-not-tells_a_place.ensures) c.in-Ok.ensures.value.0

pub returns-in-Err : goal.returns-in-Err
returns-in-Err c =
    let few : length c.args.items.now < 2 ^ 64 = omega arith in
    place_past _ c.args.part.now c.args.items.now c.in-Err.field-0 (sym c.if-not-tells_a_place.ensures) c.in-Err.ensures.value.0 few
