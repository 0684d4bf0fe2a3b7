-- The row of a document: the plain JSON of each field under its name, and under `$s` the schema, which has the order of the fields and
-- the types of all values.
use Rattle.std.specs.Prelude.{ℕ, pos, codes, List, [], ◌∷◌, map}
use Rattle.bson_values.specs.declared.pairs.Pair.{Pair}
use Rattle.bson_values.specs.declared.value.Value.{Value}
use Rattle.bson_values.specs.declared.value.Value.TheOpen.{Value-F}
use Rattle.bson_values.specs.declared.value.Value.TheFolds.{fold-Value}
use Rattle.bson_values.specs.Names.{names}
use Rattle.jsonb_contain.specs.declared.value.Json.{Json}
use Rattle.jsonb_contain.specs.declared.value.Json.TheVariants as json
use Rattle.jsonb_contain.specs.Rising.{put, put_all}
use Rattle.typed_json.specs.Plain.{each, plains}

-- ---- types

-- a field of an object
abbrev pub field : List ℕ → Json → Pair Json
field name value = record { name = name; value = value }

-- the fields that tell a type: its name under `t`, and before it whatever the type has beside its name
abbrev pub Tag : Type 0
Tag = List (Pair Json)

abbrev pub alone : List ℕ → Tag
alone name = field (codes "t") (json.Text name) ∷ []

abbrev pub parted : List ℕ → List ℕ → Json → Tag
parted name part more = field part more ∷ alone name

-- the tag of a value: a binary has its subtype beside the name, a regular expression its options
abbrev pub tag_in : {V : Type 0} → Value-F V → Tag
tag_in (Value-F.Str text) = alone (codes "string")
tag_in (Value-F.Doc pairs) = alone (codes "object")
tag_in (Value-F.Arr items) = alone (codes "array")
tag_in (Value-F.Bin it) = parted (codes "binData") (codes "s") (json.Whole (pos it.subtype))
tag_in (Value-F.Id id) = alone (codes "objectId")
tag_in (Value-F.Bool truth) = alone (codes "bool")
tag_in (Value-F.Date moment) = alone (codes "date")
tag_in Value-F.Null = alone (codes "null")
tag_in (Value-F.Regex regex) = parted (codes "regex") (codes "o") (json.Text regex.options)
tag_in (Value-F.Int number) = alone (codes "int")
tag_in (Value-F.Stamp stamp) = alone (codes "timestamp")
tag_in (Value-F.Long number) = alone (codes "long")

-- ---- the schema

-- the names of fields in order under `$k`, and what is at each of them under `p`
abbrev pub schema : List (Pair Json) → Json
schema kinds =
    json.Object (field (codes "$k") (json.Array (map json.Text (names kinds))) ∷ field (codes "p") (json.Object (put_all [] kinds)) ∷ [])

-- what a value is, made of what those within are: its tag, in which a document has its schema, and an array the list of its items'
abbrev pub kind_in : Value-F Json → Json
kind_in (Value-F.Doc kinds) = json.Object (parted (codes "object") (codes "$s") (schema kinds))
kind_in (Value-F.Arr kinds) = json.Object (parted (codes "array") (codes "i") (json.Array kinds))
kind_in layer = json.Object (tag_in layer)

-- what a value is
abbrev pub kind_of : Value → Json
kind_of = fold-Value Json kind_in

-- the schema of a document
abbrev pub schema_of : List (Pair Value) → Json
schema_of doc = schema (each kind_of doc)

-- ---- the row

-- the row of a document
abbrev pub row_of : List (Pair Value) → Json
row_of doc = json.Object (put (codes "$s") (schema_of doc) (plains doc))
