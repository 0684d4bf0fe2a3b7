-- The JSON of a text, and the text of a JSON, by way of the values of `serde_json`.
use Rattle.std.specs.Prelude.{ℕ, ℤ, pos, negsuc, ◌^◌, nat_lt, int_lt, unsigned_abs, if◌then◌else◌, Bool, true, ◌&&◌, List, [], ◌∷◌, Option, None, Some, option_map, option_and_then}
use Rattle.std.specs.List.{list_all}
use Rattle.serde_json.specs.Data.{Num, unsigned, negative, float, Data, null, boolean, number, string, array, object, Items, no_items, item, Members, no_members, member}
use Rattle.serde_json.specs.Read.{read}
use Rattle.serde_json.specs.View.{items_of}
use Rattle.bson_values.specs.declared.pairs.Pair.{Pair}
use Rattle.bson_values.specs.Names.{names}
use Rattle.jsonb_contain.specs.Rising.{is_rising}
use Rattle.jsonb_contain.specs.declared.value.Json.{Json}
use Rattle.jsonb_contain.specs.declared.value.Json.TheOpen.{Json-F}
use Rattle.jsonb_contain.specs.declared.value.Json.TheFolds.{fold-Json}
use Rattle.jsonb_contain.specs.declared.value.Json.TheVariants as json

-- ---- from JSON

-- a whole number: what is not below zero has no sign
abbrev pub number_of : ℤ → Num
number_of n = if int_lt n (pos 0) then negative n else unsigned (unsigned_abs n)

abbrev pub number_data : ℤ → Data
number_data n = number (number_of n)

-- pairs as members
abbrev pub members_of : List (Pair Data) → Members
members_of [] = no_members
members_of (pair ∷ pairs) = member pair.name pair.value (members_of pairs)

abbrev pub data_in : Json-F Data → Data
data_in Json-F.Null = null
data_in (Json-F.Bool truth) = boolean truth
data_in (Json-F.Whole n) = number_data n
data_in (Json-F.Text text) = string text
data_in (Json-F.Array items) = array (items_of items)
data_in (Json-F.Object pairs) = object (members_of pairs)

-- the same value in the words of `serde_json`
abbrev pub data_of : Json → Data
data_of = fold-Json Data data_in

-- ---- to JSON

-- a number that is no float
abbrev pub whole_of : Num → Option Json
whole_of (unsigned n) = Some (json.Whole (pos n))
whole_of (negative z) = Some (json.Whole z)
whole_of (float x) = None

abbrev mutual
  -- the JSON of a value that has no float
  pub json_of : Data → Option Json
  json_of null = Some json.Null
  json_of (boolean truth) = Some (json.Bool truth)
  json_of (number n) = whole_of n
  json_of (string text) = Some (json.Text text)
  json_of (array items) = option_map json.Array (list_of items)
  json_of (object members) = option_map json.Object (fields_of members)

  pub list_of : Items → Option (List Json)
  list_of no_items = Some []
  list_of (item one more) = option_and_then (λ (it : Json). option_map (λ (items : List Json). it ∷ items) (list_of more)) (json_of one)

  pub fields_of : Members → Option (List (Pair Json))
  fields_of no_members = Some []
  fields_of (member name one more) =
      option_and_then
      (λ (it : Json). option_map (λ (pairs : List (Pair Json)). (record { name = name; value = it }) ∷ pairs) (fields_of more))
      (json_of one)

-- the JSON that a text is, where `serde_json` reads it and it has no float
abbrev pub read_json : List ℕ → Option Json
read_json text = option_and_then json_of (read text)

-- ---- what is read back

-- the names of each object rise, as those of `Fields` do
abbrev pub rises_in : Json-F Bool → Bool
rises_in (Json-F.Array items) = list_all (λ (rises : Bool). rises) items
rises_in (Json-F.Object pairs) = is_rising (names pairs) && list_all (λ (pair : Pair Bool). pair.value) pairs
rises_in layer = true

abbrev pub rises : Json → Bool
rises = fold-Json Bool rises_in

-- the number is an `i64` or a `u64`; `negsuc n` is -(n + 1)
abbrev pub number_fits : ℤ → Bool
number_fits (pos n) = nat_lt n (2 ^ 64)
number_fits (negsuc n) = nat_lt n (2 ^ 63)

-- each number fits
abbrev pub fits_in : Json-F Bool → Bool
fits_in (Json-F.Whole n) = number_fits n
fits_in (Json-F.Array items) = list_all (λ (fits : Bool). fits) items
fits_in (Json-F.Object pairs) = list_all (λ (pair : Pair Bool). pair.value) pairs
fits_in layer = true

abbrev pub fits : Json → Bool
fits = fold-Json Bool fits_in
