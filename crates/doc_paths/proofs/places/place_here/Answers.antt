use Rattle.std.proofs.Common.{◌<◌, ◌^◌, length, sym, arith}
use Rattle.doc_paths.proofs.Digits.{not_there}
use Rattle.doc_paths.proofs.places.place_here.Goals as goal

pub returns-in-Err : goal.returns-in-Err
returns-in-Err c =
    let few : length c.args.items.now < 2 ^ 64 = omega arith in
    not_there _ c.args.part.now c.args.items.now c.in-Err.field-0 (sym c.if-not-tells_a_place.ensures) c.in-Err.ensures.value.0 few
