-- The value that a tag and a plain JSON tell, where it holds no others.
use Rattle.std.specs.Prelude.{ℕ, ℤ, codes, ◌&&◌, Bool, false, if◌then◌else◌, Option, None, Some, option_map, option_and_then}
use Rattle.std.specs.Prelude.{List, [], ◌∷◌, Result, Ok, Err, unsigned_abs}
use Rattle.std.specs.Str.{bytes_eq}
use Rattle.base64.specs.Engines.{standard}
use Rattle.base64.specs.GeneralPurpose.{decode_of}
use Rattle.hex.specs.Hex.{decode_sized}
use Rattle.bson_values.specs.declared.pairs.Pair.{Pair}
use Rattle.bson_values.specs.declared.value.Value.{Value}
use Rattle.bson_values.specs.declared.value.Value.TheVariants as value
use Rattle.jsonb_contain.specs.declared.value.Json.{Json}
use Rattle.jsonb_contain.specs.declared.value.Json.TheViews.{out-Json}
use Rattle.jsonb_contain.specs.declared.value.Json.TheOpen.{Json-F}
use Rattle.typed_json.specs.Plain.{base64_text, hex_text}
use Rattle.typed_json.specs.Row.{Tag}
use Rattle.typed_json.specs.Typed.{are_bytes, is_i32, is_i64, is_u8, is_u64}

-- ---- one level of a JSON

abbrev pub text_in : Json-F Json → Option (List ℕ)
text_in (Json-F.Text text) = Some text
text_in layer = None

abbrev pub whole_in : Json-F Json → Option ℤ
whole_in (Json-F.Whole number) = Some number
whole_in layer = None

abbrev pub items_in : Json-F Json → Option (List Json)
items_in (Json-F.Array items) = Some items
items_in layer = None

abbrev pub pairs_in : Json-F Json → Option (List (Pair Json))
pairs_in (Json-F.Object pairs) = Some pairs
pairs_in layer = None

-- the text, number, items or pairs that a JSON is
abbrev pub text_of : Json → Option (List ℕ)
text_of it = text_in (out-Json it)

abbrev pub whole_of : Json → Option ℤ
whole_of it = whole_in (out-Json it)

abbrev pub items_of : Json → Option (List Json)
items_of it = items_in (out-Json it)

abbrev pub pairs_of : Json → Option (List (Pair Json))
pairs_of it = pairs_in (out-Json it)

-- ---- tags

-- it is this text
abbrev pub is_this : List ℕ → Option (List ℕ) → Bool
is_this text None = false
is_this text (Some other) = bytes_eq other text

-- the field tells this type
abbrev pub tells : List ℕ → Pair Json → Bool
tells name pair = bytes_eq pair.name (codes "t") && is_this name (text_of pair.value)

-- the tag is that of this type, and has nothing beside it
abbrev pub is_alone : List ℕ → Tag → Bool
is_alone name (last ∷ []) = tells name last
is_alone name tag = false

-- what a tag of this type has beside it, under this name
abbrev pub part_of : List ℕ → List ℕ → Tag → Option Json
part_of name part (first ∷ last ∷ []) = if bytes_eq first.name part && tells name last then Some first.value else None
part_of name part tag = None

-- ---- values

-- where the test holds
abbrev pub only_if : {A : Type 0} → Bool → A → Option A
only_if test it = if test then Some it else None

abbrev pub number_value : Tag → ℤ → Option Value
number_value tag number =
    if is_alone (codes "int") tag then only_if (is_i32 number) (value.Int number)
    else if is_alone (codes "long") tag then only_if (is_i64 number) (value.Long number)
    else if is_alone (codes "date") tag then only_if (is_i64 number) (value.Date number)
    else if is_alone (codes "timestamp") tag then only_if (is_u64 number) (value.Stamp (unsigned_abs number))
    else None

-- twelve bytes whose hex text, in lower case, is this
abbrev pub id_in : {E : Type 0} → List ℕ → Result (List ℕ) E → Option Value
id_in text (Ok id) = only_if (bytes_eq (hex_text id) text) (value.Id id)
id_in text (Err e) = None

-- bytes whose base64 text, with its padding, is this
abbrev pub bytes_in : {E : Type 0} → List ℕ → Result (List ℕ) E → Option (List ℕ)
bytes_in text (Ok bytes) = only_if (bytes_eq (base64_text bytes) text && are_bytes bytes) bytes
bytes_in text (Err e) = None

abbrev pub id_value : List ℕ → Option Value
id_value text = id_in text (decode_sized text 12)

abbrev pub bytes_value : List ℕ → Option (List ℕ)
bytes_value text = bytes_in text (decode_of standard text)

abbrev pub binary_value : List ℕ → Json → Option Value
binary_value text more =
    option_and_then (λ (number : ℤ).
    option_and_then (λ (bytes : List ℕ). only_if (is_u8 number) (value.Bin (record { subtype = unsigned_abs number; bytes = bytes })))
    (bytes_value text))
    (whole_of more)

abbrev pub regex_value : List ℕ → Json → Option Value
regex_value text more = option_map (λ (options : List ℕ). value.Regex (record { pattern = text; options = options })) (text_of more)

-- a text whose type has a part beside it: a subtype, or options
abbrev pub parted_value : List ℕ → Option Json → Option Json → Option Value
parted_value text (Some more) options = binary_value text more
parted_value text None (Some more) = regex_value text more
parted_value text None None = None

-- the same, by the tag
abbrev pub tagged_value : Tag → List ℕ → Option Value
tagged_value tag text = parted_value text (part_of (codes "binData") (codes "s") tag) (part_of (codes "regex") (codes "o") tag)

abbrev pub text_value : Tag → List ℕ → Option Value
text_value tag text =
    if is_alone (codes "string") tag then Some (value.Str text)
    else if is_alone (codes "objectId") tag then id_value text
    else tagged_value tag text

-- the value of this type that is so as plain JSON
abbrev pub leaf_of : Tag → Json-F Json → Option Value
leaf_of tag Json-F.Null = only_if (is_alone (codes "null") tag) value.Null
leaf_of tag (Json-F.Bool truth) = only_if (is_alone (codes "bool") tag) (value.Bool truth)
leaf_of tag (Json-F.Whole number) = number_value tag number
leaf_of tag (Json-F.Text text) = text_value tag text
leaf_of tag layer = None
