use Rattle.std.proofs.Common.{◌≡◌, ◌∙◌, codes, ap}
use Rattle.jsonb_contain.specs.declared.value.Json.TheVariants as json
use Rattle.typed_json.specs.Row.{alone, kind_of}
use Rattle.typed_json.proofs.Shows.{kind_Id}
use Rattle.typed_json.proofs.schemas.+kind.Goals as goal

pub kind-returns-in-Id : goal.kind-returns-in-Id
kind-returns-in-Id t c =
    let is : kind_of c.args.value.now ≡ json.Object (alone (codes "objectId")) = ap kind_of c.in-Id.is ∙ kind_Id _ in
    rw is c.alone-in-Id.ensures
