-- Where the names of each object rise.
use Rattle.std.proofs.Common.{◌≡◌, ◌∙◌, ◌&&◌, ℕ, Bool, true, List, map, sym, ap}
use Rattle.std.specs.List.{list_all}
use Rattle.std.proofs.lemmas.List.Folds.{list_all-map}
use Rattle.bson_values.specs.Names.{names}
use Rattle.bson_values.specs.Named.{along, names_along}
use Rattle.bson_values.specs.declared.pairs.Pair.{Pair}
use Rattle.jsonb_contain.specs.Rising.{is_rising}
use Rattle.jsonb_contain.specs.Texts.{rises_in, rises}
use Rattle.jsonb_contain.specs.declared.value.Json.{Json}
use Rattle.jsonb_contain.specs.declared.value.Json.TheOpen.{Json-F}
use Rattle.jsonb_contain.specs.declared.value.Json.TheFolds.{fold-roll-Json}
use Rattle.jsonb_contain.specs.declared.value.Json.TheVariants as json

pub rises-Array : (items : List Json) → rises (json.Array items) ≡ list_all rises items
rises-Array items =
    ap rises (sym (json.rolls-Array items)) ∙ fold-roll-Json Bool rises_in (Json-F.Array items)
    ∙ list_all-map (λ (it : Bool). it) rises items

pub rises-Object : (pairs : List (Pair Json))
    → rises (json.Object pairs) ≡ (is_rising (names pairs) && list_all (λ (pair : Pair Json). rises pair.value) pairs)
rises-Object pairs =
    ap rises (sym (json.rolls-Object pairs)) ∙ fold-roll-Json Bool rises_in (Json-F.Object pairs)
    ∙ ap (λ (ns : List (List ℕ)). is_rising ns && list_all (λ (pair : Pair Bool). pair.value) (map (along rises) pairs))
    (names_along Json Bool rises pairs)
    ∙ ap (λ (rest : Bool). is_rising (names pairs) && rest) (list_all-map (λ (pair : Pair Bool). pair.value) (along rises) pairs)

-- the items are those of a slice, each of which rises
pub items_rise : (items xs : List Json) → xs ≡ items → list_all rises xs ≡ true → rises (json.Array items) ≡ true
items_rise items xs same all = rises-Array items ∙ ap (list_all rises) (sym same) ∙ all

pub fields_rise : (pairs xs : List (Pair Json)) → xs ≡ pairs → is_rising (names pairs) ≡ true
    → list_all (λ (pair : Pair Json). rises pair.value) xs ≡ true → rises (json.Object pairs) ≡ true
fields_rise pairs xs same rising all =
    rises-Object pairs ∙ ap (λ (b : Bool). b && list_all (λ (pair : Pair Json). rises pair.value) pairs) rising
    ∙ ap (list_all (λ (pair : Pair Json). rises pair.value)) (sym same) ∙ all
