-- What a JSON sends to a `Serializer`.
use Rattle.std.proofs.Common.{◌≡◌, ◌∙◌, ℤ, suc, Bool, true, false, ◌||◌, List, [], ◌∷◌, length, map, refl, sym, ap, subst}
use Rattle.std.specs.Prelude.{pos, int_lt, unsigned_abs, if◌then◌else◌}
use Rattle.serde_json.specs.Find.{is_float}
use Rattle.serde_json.specs.Data.{negative, unsigned, Data, array, object, Items, Members}
use Rattle.serde_json.specs.Events.{items_len, members_len}
use Rattle.serde_json.specs.View.{items_of}
use Rattle.serde_json.specs.Written.{has_float, items_have_float, members_have_float}
use Rattle.bson_values.specs.declared.pairs.Pair.{Pair}
use Rattle.jsonb_contain.specs.declared.value.Json.{Json, map-Json}
use Rattle.jsonb_contain.specs.declared.value.Json.TheOpen.{Json-F}
use Rattle.jsonb_contain.specs.declared.value.Json.TheFolds.{fold-roll-Json, ind-Json}
use Rattle.jsonb_contain.specs.declared.value.Json.TheVariants as json
use Rattle.jsonb_contain.specs.Texts.{members_of, data_in, data_of}

-- a pair with its value in the words of `serde_json`
abbrev pub along : Pair Json → Pair Data
along pair = record { name = pair.name; value = data_of pair.value }

abbrev pub items_data : List Json → Items
items_data items = items_of (map data_of items)

abbrev pub members_data : List (Pair Json) → Members
members_data pairs = members_of (map along pairs)

pub data-Array : (items : List Json) → data_of (json.Array items) ≡ array (items_data items)
data-Array items = ap data_of (sym (json.rolls-Array items)) ∙ fold-roll-Json Data data_in (Json-F.Array items)

pub data-Object : (pairs : List (Pair Json)) → data_of (json.Object pairs) ≡ object (members_data pairs)
data-Object pairs = ap data_of (sym (json.rolls-Object pairs)) ∙ fold-roll-Json Data data_in (Json-F.Object pairs)

pub items_len-items_data : (items : List Json) → items_len (items_data items) ≡ length items
items_len-items_data [] = refl
items_len-items_data (item ∷ items) = ap suc (items_len-items_data items)

pub members_len-members_data : (pairs : List (Pair Json)) → members_len (members_data pairs) ≡ length pairs
members_len-members_data [] = refl
members_len-members_data (pair ∷ pairs) = ap suc (members_len-members_data pairs)

-- ---- a JSON has no float

abbrev IsWhole : Json → Type 0
IsWhole it = has_float (data_of it) ≡ false

abbrev Known : Type 0
Known = (it : Json) × IsWhole it

abbrev bare : Known → Json
bare known = known.0

abbrev bare_pair : Pair Known → Pair Json
bare_pair pair = record { name = pair.name; value = pair.value.0 }

items_whole : (items : List Known) → items_have_float (items_data (map bare items)) ≡ false
items_whole [] = refl
items_whole (item ∷ items) = ap (λ (b : Bool). b || items_have_float (items_data (map bare items))) item.1 ∙ items_whole items

members_whole : (pairs : List (Pair Known)) → members_have_float (members_data (map bare_pair pairs)) ≡ false
members_whole [] = refl
members_whole (pair ∷ pairs) =
    ap (λ (b : Bool). b || members_have_float (members_data (map bare_pair pairs))) pair.value.1 ∙ members_whole pairs

abbrev LayerIsWhole : Json-F Json → Type 0
LayerIsWhole layer = has_float (data_in (map-Json Json Data data_of layer)) ≡ false

number_whole : (below : Bool) (n : ℤ) → is_float (if below then negative n else unsigned (unsigned_abs n)) ≡ false
number_whole true n = refl
number_whole false n = refl

layer_whole : (layer : Json-F Known) → LayerIsWhole (map-Json Known Json bare layer)
layer_whole (Json-F.Array items) = items_whole items
layer_whole (Json-F.Object pairs) = members_whole pairs
layer_whole (Json-F.Whole n) = number_whole (int_lt n (pos 0)) n
layer_whole Json-F.Null = refl
layer_whole (Json-F.Bool truth) = refl
layer_whole (Json-F.Text text) = refl

pub has_no_float : (it : Json) → has_float (data_of it) ≡ false
has_no_float =
    ind-Json IsWhole (λ layer known is. ap has_float (fold-roll-Json Data data_in layer) ∙ subst LayerIsWhole is (layer_whole known))
