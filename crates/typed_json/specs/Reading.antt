-- The document of which a JSON is the row, read strictly: what no row has is refused.
use Rattle.std.specs.Prelude.{ℕ, zero, suc, codes, ◌&&◌, ◌==◌, ◌+◌, if◌then◌else◌, Option, None, Some, option_map, option_and_then}
use Rattle.std.specs.Prelude.{List, [], ◌∷◌, length}
use Rattle.std.specs.Str.{bytes_eq}
use Rattle.bson_values.specs.declared.pairs.Pair.{Pair}
use Rattle.bson_values.specs.declared.value.Value.{Value}
use Rattle.bson_values.specs.declared.value.Value.TheVariants as value
use Rattle.bson_values.specs.Names.{names}
use Rattle.jsonb_contain.specs.declared.value.Json.{Json}
use Rattle.jsonb_contain.specs.declared.value.Json.TheViews.{out-Json}
use Rattle.jsonb_contain.specs.declared.value.Json.TheOpen.{Json-F}
use Rattle.jsonb_contain.specs.Rising.{value_at, is_rising}
use Rattle.typed_json.specs.Leaf.{text_of, items_of, pairs_of, part_of, leaf_of}
use Rattle.typed_json.specs.Row.{Tag}

module _ (items : List Json → List Json → Option (List Value)) (doc : Json → List (Pair Json) → ℕ → Option (List (Pair Value))) where
  -- the value of a tag and a plain JSON, by what reads items and documents
  abbrev pub value_in : Tag → Json-F Json → Option Value
  value_in tag (Json-F.Array plains) =
      option_and_then (λ (kinds : List Json). option_map (λ (all : List Value). value.Arr all) (items kinds plains))
      (option_and_then items_of (part_of (codes "array") (codes "i") tag))
  value_in tag (Json-F.Object fields) =
      option_and_then (λ (schema : Json). option_map (λ (all : List (Pair Value)). value.Doc all) (doc schema fields 0))
      (part_of (codes "object") (codes "$s") tag)
  value_in tag layer = leaf_of tag layer

  -- the value that is this, and holds that
  abbrev pub value_of : Json → Json → Option Value
  value_of kind plain = option_and_then (λ (tag : Tag). value_in tag (out-Json plain)) (pairs_of kind)

module _ (value : Json → Json → Option Value) where
  abbrev pub items_with : List Json → List Json → Option (List Value)
  items_with [] [] = Some []
  items_with (kind ∷ kinds) (plain ∷ plains) =
      option_and_then (λ (it : Value). option_map (λ (all : List Value). it ∷ all) (items_with kinds plains)) (value kind plain)
  items_with kinds plains = None

  -- the value of that name in both tables
  abbrev pub value_for : List (Pair Json) → List (Pair Json) → List ℕ → Option Value
  value_for kinds fields name =
      option_and_then (λ (kind : Json). option_and_then (λ (plain : Json). value kind plain) (value_at name fields)) (value_at name kinds)

  -- the fields that are listed, in this order
  abbrev pub pairs_with : List (Pair Json) → List (Pair Json) → List Json → Option (List (Pair Value))
  pairs_with kinds fields [] = Some []
  pairs_with kinds fields (listed ∷ more) =
      option_and_then (λ (name : List ℕ).
      option_and_then (λ (it : Value). option_map (λ (all : List (Pair Value)). (record { name = name; value = it }) ∷ all)
      (pairs_with kinds fields more))
      (value_for kinds fields name)) (text_of listed)

-- the names and the kinds of a schema
abbrev pub schema_in : List (Pair Json) → Option (List Json × List (Pair Json))
schema_in (first ∷ last ∷ []) =
    if bytes_eq first.name (codes "$k") && bytes_eq last.name (codes "p") then
    option_and_then (λ (names : List Json). option_map (λ (kinds : List (Pair Json)). (names, kinds)) (pairs_of last.value))
    (items_of first.value)
    else None
schema_in pairs = None

abbrev pub schema_parts : Json → Option (List Json × List (Pair Json))
schema_parts it = option_and_then schema_in (pairs_of it)

-- a document: as many kinds as names, and as many fields beside so many others
abbrev pub doc_with : (Json → Json → Option Value) → Json → List (Pair Json) → ℕ → Option (List (Pair Value))
doc_with value schema fields others =
    option_and_then (λ (parts : List Json × List (Pair Json)).
    if length parts.0 == length parts.1 && length fields == length parts.0 + others &&
    (is_rising (names parts.1) && is_rising (names fields)) then
    pairs_with value parts.1 fields parts.0
    else None) (schema_parts schema)

abbrev mutual
  -- items, with at most so many levels of containers
  pub items_at : ℕ → List Json → List Json → Option (List Value)
  items_at zero kinds plains = None
  items_at (suc levels) kinds plains =
      if length kinds == length plains then items_with (value_of (items_at levels) (doc_at levels)) kinds plains else None

  -- a document with at most so many
  pub doc_at : ℕ → Json → List (Pair Json) → ℕ → Option (List (Pair Value))
  doc_at zero schema fields others = None
  doc_at (suc levels) schema fields others = doc_with (value_of (items_at levels) (doc_at levels)) schema fields others

-- a value with at most so many, by its tag and one level of its plain JSON, and by what it is and holds
abbrev pub held_within : ℕ → Tag → Json-F Json → Option Value
held_within levels = value_in (items_at levels) (doc_at levels)

abbrev pub value_within : ℕ → Json → Json → Option Value
value_within levels = value_of (items_at levels) (doc_at levels)

-- the document of which a JSON is the row: its schema, and beside it the fields
abbrev pub row_read : Json → Option (List (Pair Value))
row_read it =
    option_and_then (λ (fields : List (Pair Json)). option_and_then (λ (schema : Json). doc_at 32 schema fields 1)
    (value_at (codes "$s") fields)) (pairs_of it)
