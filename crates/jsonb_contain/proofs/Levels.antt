-- What is inside, one level at a time.
use Rattle.std.proofs.Common.{◌≡◌, Bool, List, refl, ap, ◌∙◌}
use Rattle.std.specs.List.{list_any, list_all}
use Rattle.std.proofs.lemmas.List.Folds.{list_all-map}
use Rattle.bson_values.specs.declared.pairs.Pair.{Pair}
use Rattle.jsonb_contain.specs.Rising.{value_at}
use Rattle.jsonb_contain.specs.Containment.{same_scalar, passes, inside_in, inside}
use Rattle.jsonb_contain.specs.declared.value.Json.{Json, out-Json, map-Json}
use Rattle.jsonb_contain.specs.declared.value.Json.TheOpen.{Json-F}
use Rattle.jsonb_contain.specs.declared.value.Json.TheFolds.{fold_out-Json}
use Rattle.jsonb_contain.specs.declared.value.Json.TheVariants as json_of

-- the level of what is inside, beside that of what has it
abbrev pub inside_layer : Json-F Json → Json-F Json → Bool
inside_layer (Json-F.Object pairs) (Json-F.Object all) =
    list_all (λ (pair : Pair Json). passes (λ (it : Json). inside it pair.value) (value_at pair.name all)) pairs
inside_layer (Json-F.Array items) (Json-F.Array all) = list_all (λ (item : Json). list_any (λ (it : Json). inside it item) all) items
inside_layer one all = same_scalar one all

abbrev within : Json → Json → Bool
within one all = inside all one

layer_is : (one all : Json-F Json) → inside_in (map-Json Json (Json → Bool) within one) all ≡ inside_layer one all
layer_is (Json-F.Object pairs) (Json-F.Object all) =
    list_all-map (λ (pair : Pair (Json → Bool)). passes pair.value (value_at pair.name all))
    (λ (pair : Pair Json). record { name = pair.name; value = within pair.value }) pairs
layer_is (Json-F.Array items) (Json-F.Array all) = list_all-map (λ (item : Json → Bool). list_any item all) within items
layer_is one all = refl

pub inside_is : (all one : Json) → inside all one ≡ inside_layer (out-Json one) (out-Json all)
inside_is all one =
    ap (λ (test : Json → Bool). test all) (fold_out-Json (Json → Bool) (λ layer it. inside_in layer (out-Json it)) one)
    ∙ layer_is (out-Json one) (out-Json all)

pub inside_objects : (all pairs : List (Pair Json))
    → inside (json_of.Object all) (json_of.Object pairs) ≡ list_all
    (λ (pair : Pair Json). passes (λ (it : Json). inside it pair.value) (value_at pair.name all)) pairs
inside_objects all pairs =
    inside_is (json_of.Object all) (json_of.Object pairs)
    ∙ ap (λ (layer : Json-F Json). inside_layer layer (out-Json (json_of.Object all))) (json_of.outs-Object pairs)
    ∙ ap (inside_layer (Json-F.Object pairs)) (json_of.outs-Object all)

pub inside_arrays : (all items : List Json)
    → inside (json_of.Array all) (json_of.Array items) ≡ list_all (λ (item : Json). list_any (λ (it : Json). inside it item) all) items
inside_arrays all items =
    inside_is (json_of.Array all) (json_of.Array items)
    ∙ ap (λ (layer : Json-F Json). inside_layer layer (out-Json (json_of.Array all))) (json_of.outs-Array items)
    ∙ ap (inside_layer (Json-F.Array items)) (json_of.outs-Array all)
