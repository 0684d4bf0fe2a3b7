-- The plain JSON of a value: what it holds, without the types.
use Rattle.std.specs.Prelude.{ℕ, pos, List, [], map}
use Rattle.base64.specs.Engines.{standard}
use Rattle.base64.specs.GeneralPurpose.{encode_of}
use Rattle.hex.specs.Hex.{encode_lower}
use Rattle.bson_values.specs.declared.pairs.Pair.{Pair}
use Rattle.bson_values.specs.declared.value.Value.{Value}
use Rattle.bson_values.specs.declared.value.Value.TheOpen.{Value-F}
use Rattle.bson_values.specs.declared.value.Value.TheFolds.{fold-Value}
use Rattle.jsonb_contain.specs.declared.value.Json.{Json}
use Rattle.jsonb_contain.specs.declared.value.Json.TheVariants as json
use Rattle.jsonb_contain.specs.Rising.{put_all}

-- the same names, with something else at each
abbrev pub each : {V W : Type 0} → (V → W) → List (Pair V) → List (Pair W)
each {V} made pairs = map (λ (pair : Pair V). record { name = pair.name; value = made pair.value }) pairs

-- the base64 text of bytes, with its padding (RFC 4648, section 4)
unfoldable pub base64_text : List ℕ → List ℕ
base64_text bytes = encode_of standard bytes

-- two hex digits for each byte, in lower case
unfoldable pub hex_text : List ℕ → List ℕ
hex_text bytes = encode_lower bytes

-- a value's plain JSON, made of that of the values within
abbrev pub plain_in : Value-F Json → Json
plain_in (Value-F.Str text) = json.Text text
plain_in (Value-F.Doc pairs) = json.Object (put_all [] pairs)
plain_in (Value-F.Arr items) = json.Array items
plain_in (Value-F.Bin it) = json.Text (base64_text it.bytes)
plain_in (Value-F.Id id) = json.Text (hex_text id)
plain_in (Value-F.Bool truth) = json.Bool truth
plain_in (Value-F.Date moment) = json.Whole moment
plain_in Value-F.Null = json.Null
plain_in (Value-F.Regex regex) = json.Text regex.pattern
plain_in (Value-F.Int number) = json.Whole number
plain_in (Value-F.Stamp stamp) = json.Whole (pos stamp)
plain_in (Value-F.Long number) = json.Whole number

-- the plain JSON of a value
abbrev pub plain_of : Value → Json
plain_of = fold-Value Json plain_in

-- the fields of a document, each with its plain JSON, by their names
abbrev pub plains : List (Pair Value) → List (Pair Json)
plains doc = put_all [] (each plain_of doc)
