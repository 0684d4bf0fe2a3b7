use Rattle.std.proofs.Common.{◌≡◌, take, map}
use Rattle.typed_json.specs.Plain.{each}
use Rattle.typed_json.specs.Row.{kind_of}
use Rattle.typed_json.proofs.schemas.+kind.Given as goal

abbrev pub invariant-array_kind-loop-item : goal.invariant-array_kind-loop-item
invariant-array_kind-loop-item l = l.kinds ≡ map kind_of (take l.item-index l.item-items)

abbrev pub invariant-kind_fields-loop-pair : goal.invariant-kind_fields-loop-pair
invariant-kind_fields-loop-pair l = l.fields ≡ each kind_of (take l.pair-index l.pair-items)
