use Rattle.std.proofs.Common.{◌≡◌, drop}
use Rattle.std.specs.List.{list_any, list_all}
use Rattle.jsonb_contain.specs.Rising.{value_at}
use Rattle.bson_values.specs.declared.pairs.Pair.{Pair}
use Rattle.jsonb_contain.specs.Containment.{passes, inside}
use Rattle.jsonb_contain.specs.declared.value.Json.{Json}
use Rattle.jsonb_contain.proofs.containing.+inside.Given as goal

abbrev pub invariant-any_has_inside-loop-it : goal.invariant-any_has_inside-loop-it
invariant-any_has_inside-loop-it l =
    let test = λ (it : Json). inside it l.item in
    list_any test l.all ≡ list_any test (drop l.it-index l.all)

abbrev pub invariant-items_are_inside-loop-item : goal.invariant-items_are_inside-loop-item
invariant-items_are_inside-loop-item l =
    let test = λ (item : Json). list_any (λ (it : Json). inside it item) l.all in
    list_all test l.items ≡ list_all test (drop l.item-index l.items)

abbrev pub invariant-fields_are_inside-loop-pair : goal.invariant-fields_are_inside-loop-pair
invariant-fields_are_inside-loop-pair l =
    let test = λ (pair : Pair Json). passes (λ (it : Json). inside it pair.value) (value_at pair.name l.all) in
    list_all test l.fields ≡ list_all test (drop l.pair-index l.fields)
