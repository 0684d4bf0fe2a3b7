use Rattle.std.proofs.Common.{◌≡◌, take, map}
use Rattle.bson_values.specs.Names.{names}
use Rattle.jsonb_contain.specs.declared.value.Json.TheVariants as json
use Rattle.typed_json.proofs.schemas.listed.Given as goal

abbrev pub invariant-loop-pair : goal.invariant-loop-pair
invariant-loop-pair l = l.listed ≡ map json.Text (names (take l.pair-index l.pair-items))
