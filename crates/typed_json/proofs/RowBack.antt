-- What is read of a JSON is the document of which it is the row.
use Rattle.std.proofs.Common.{◌≡◌, ◌∙◌, ◌+◌, ◌&&◌, ◌==◌, ℕ, zero, suc, true, not, Option, None, Some, option_map}
use Rattle.std.proofs.Common.{option_and_then}
use Rattle.std.proofs.Common.{List, [], ◌∷◌, ◌++◌, length, map, refl, sym, ap, subst, arith}
use Rattle.std.specs.Prelude.{codes, if◌then◌else◌, Ok}
use Rattle.std.specs.declared.cmp.Ordering.{Ordering}
use Rattle.std.specs.declared.cmp.Ordering.TheVariants.{Less, Equal, Greater}
use Rattle.std.specs.Ordering.{is_eq, ordering_reverse}
use Rattle.std.specs.Str.{bytes_eq}
use Rattle.std.proofs.lemmas.Bool.{eqb-true}
use Rattle.std.proofs.lemmas.Cmp.{nat_list_cmp_total}
use Rattle.std.proofs.lemmas.List.{length-append}
use Rattle.bson_values.specs.declared.pairs.Pair.{Pair}
use Rattle.bson_values.specs.declared.value.Value.{Value}
use Rattle.bson_values.specs.declared.value.Value.TheOpen.{Value-F}
use Rattle.bson_values.specs.declared.value.Value.TheVariants as value
use Rattle.bson_values.specs.Allowed.{is_sound}
use Rattle.bson_values.specs.Names.{names}
use Rattle.bson_values.specs.Storable.{storable}
use Rattle.jsonb_contain.specs.declared.value.Json.{Json, roll-Json}
use Rattle.jsonb_contain.specs.declared.value.Json.TheViews.{out-Json, roll-out-Json}
use Rattle.jsonb_contain.specs.declared.value.Json.TheOpen.{Json-F}
use Rattle.jsonb_contain.specs.declared.value.Json.TheVariants as json
use Rattle.jsonb_contain.specs.Rising.{put, value_at, is_rising}
use Rattle.std_words.proofs.Tests.{and-both}
use Rattle.typed_json.specs.Plain.{each, plain_of, plains}
use Rattle.typed_json.specs.Row.{Tag, parted, field, kind_of, schema, schema_of, row_of}
use Rattle.typed_json.specs.Leaf.{text_of, items_of, pairs_of, part_of}
use Rattle.typed_json.specs.Reading.{value_in, value_within, items_at, doc_at, items_with, value_for, pairs_with, schema_in}
use Rattle.typed_json.specs.Reading.{schema_parts, doc_with, row_read}
use Rattle.typed_json.specs.Typed.{is_typed, has_types}
use Rattle.typed_json.proofs.Puts.{Order, AllFound, put_last}
use Rattle.typed_json.proofs.Distinct.{is_none_of, are_distinct, and_true, bytes_same}
use Rattle.typed_json.proofs.Back.{table_is}
use Rattle.typed_json.proofs.Equations.{hold, are, typed_Doc, sound_Arr, names_each, length-each, length-all}
use Rattle.typed_json.proofs.Layers.{text_back, items_back, pairs_back, both_gave, passed}
use Rattle.typed_json.proofs.LeafBack.{IsOf, of_layer, map_gave, part_back, pair_is, leaf_back}
use Rattle.typed_json.proofs.Again.{within_sound, names_distinct, names_others, stored_parts}

-- values of so many levels are what they were read of
abbrev ReadsBack : ℕ → Type 0
ReadsBack levels = (kind plain : Json) (it : Value) → value_within levels kind plain ≡ Some it → is_sound it ≡ true → IsOf kind plain it

-- ---- items

pub record ItemsOf (kinds plains : List Json) (items : List Value) : Type 0 where
  pub kinds_are : map kind_of items ≡ kinds
  pub plains_are : map plain_of items ≡ plains
  pub typed : are (map is_typed items) ≡ true

one_more : (kind plain : Json) (kinds plains : List Json) (it : Value) (items : List Value) → IsOf kind plain it
    → ItemsOf kinds plains items
    → ItemsOf (kind ∷ kinds) (plain ∷ plains) (it ∷ items)
one_more kind plain kinds plains it items one all = record {
  kinds_are = λ i. one.kind_is i ∷ all.kinds_are i;
  plains_are = λ i. one.plain_is i ∷ all.plains_are i;
  typed = and_true (is_typed it) (are (map is_typed items)) one.typed all.typed;
}

all_back : (levels : ℕ) → ReadsBack levels → (kinds plains : List Json) (items : List Value)
    → items_with (value_within levels) kinds plains ≡ Some items
    → are (map is_sound items) ≡ true → ItemsOf kinds plains items
all_back levels back [] [] items is sound =
    let none : [] ≡ items = cc is in
    subst (ItemsOf [] []) none (record { kinds_are = refl; plains_are = refl; typed = refl })
all_back levels back [] (plain ∷ plains) items is sound = absurd (cc is)
all_back levels back (kind ∷ kinds) [] items is sound = absurd (cc is)
all_back levels back (kind ∷ kinds) (plain ∷ plains) items is sound =
    let first = both_gave (value_within levels kind plain)
    (λ (it : Value). option_map (λ (all : List Value). it ∷ all) (items_with (value_within levels) kinds plains)) items is in
    let rest = map_gave (λ (all : List Value). first.0 ∷ all) (items_with (value_within levels) kinds plains) items first.2 in
    let sounds = and-both (is_sound first.0) (are (map is_sound rest.0)) (ap (λ (all : List Value). are (map is_sound all)) rest.2
    ∙ sound) in
    subst (ItemsOf (kind ∷ kinds) (plain ∷ plains)) rest.2
    (one_more kind plain kinds plains first.0 rest.0 (back kind plain first.0 first.1 sounds.0)
    (all_back levels back kinds plains rest.0 rest.1 sounds.1))

-- ---- fields

pub record PairsOf (kinds fields : List (Pair Json)) (listed : List Json) (doc : List (Pair Value)) : Type 0 where
  pub listed_are : map json.Text (names doc) ≡ listed
  pub in_kinds : AllFound kinds (each kind_of doc)
  pub in_fields : AllFound fields (each plain_of doc)
  pub typed : hold (each is_typed doc) ≡ true

module _ (kinds fields : List (Pair Json)) where
  -- one field, found in both tables
  value_back : (levels : ℕ) → ReadsBack levels → (name : List ℕ) (it : Value)
      → value_for (value_within levels) kinds fields name ≡ Some it → is_sound it ≡ true
      → (value_at name kinds ≡ Some (kind_of it)) × (value_at name fields ≡ Some (plain_of it)) × (is_typed it ≡ true)
  value_back levels back name it is sound =
      let first = both_gave (value_at name kinds)
      (λ (kind : Json). option_and_then (λ (plain : Json). value_within levels kind plain) (value_at name fields)) it is in
      let second = both_gave (value_at name fields) (λ (plain : Json). value_within levels first.0 plain) it first.2 in
      let one = back first.0 second.0 it second.2 sound in
      (first.1 ∙ ap Some (sym one.kind_is), second.1 ∙ ap Some (sym one.plain_is), one.typed)

  one_field : (levels : ℕ) → ReadsBack levels → (listed : Json) (more : List Json) (name : List ℕ) (it : Value) (doc : List (Pair Value))
      → text_of listed ≡ Some name
      → value_for (value_within levels) kinds fields name ≡ Some it → is_sound it ≡ true → PairsOf kinds fields more doc
      → PairsOf kinds fields (listed ∷ more) ((record { name = name; value = it }) ∷ doc)
  one_field levels back listed more name it doc named is sound all =
      let one = value_back levels back name it is sound in
      record {
        listed_are = λ i. sym (text_back listed name named) i ∷ all.listed_are i;
        in_kinds = (one.0, all.in_kinds);
        in_fields = (one.1, all.in_fields);
        typed = and_true (is_typed it) (hold (each is_typed doc)) one.2 all.typed;
      }

  fields_back : (levels : ℕ) → ReadsBack levels → (listed : List Json) (doc : List (Pair Value))
      → pairs_with (value_within levels) kinds fields listed ≡ Some doc
      → hold (each is_sound doc) ≡ true → PairsOf kinds fields listed doc
  fields_back levels back [] doc is sound =
      let none : [] ≡ doc = cc is in
      subst (PairsOf kinds fields []) none (record { listed_are = refl; in_kinds = tt; in_fields = tt; typed = refl })
  fields_back levels back (listed ∷ more) doc is sound =
      let rest_of : Option (List (Pair Value)) = pairs_with (value_within levels) kinds fields more in
      let name = both_gave (text_of listed) (λ (name : List ℕ).
      option_and_then (λ (it : Value). option_map (λ (all : List (Pair Value)). (record { name = name; value = it }) ∷ all) rest_of)
      (value_for (value_within levels) kinds fields name)) doc is in
      let first = both_gave (value_for (value_within levels) kinds fields name.0)
      (λ (it : Value). option_map (λ (all : List (Pair Value)). (record { name = name.0; value = it }) ∷ all) rest_of) doc name.2 in
      let rest = map_gave (λ (all : List (Pair Value)). (record { name = name.0; value = first.0 }) ∷ all) rest_of doc first.2 in
      let sounds = and-both (is_sound first.0) (hold (each is_sound rest.0))
      (ap (λ (all : List (Pair Value)). hold (each is_sound all)) rest.2 ∙ sound) in
      subst (PairsOf kinds fields (listed ∷ more)) rest.2
      (one_field levels back listed more name.0 first.0 rest.0 name.1 first.1 sounds.0
      (fields_back levels back more rest.0 rest.1 sounds.1))

-- ---- documents

-- a document of this schema, whose fields are in a table beside so many others
pub record DocOf (schema : Json) (fields : List (Pair Json)) (others : ℕ) (doc : List (Pair Value)) : Type 0 where
  pub schema_is : schema_of doc ≡ schema
  pub in_fields : AllFound fields (each plain_of doc)
  pub many : length fields ≡ length doc + others
  pub rising : is_rising (names fields) ≡ true
  pub typed : is_typed (value.Doc doc) ≡ true

schema_back_in : (pairs : List (Pair Json)) (listed : List Json) (kinds : List (Pair Json)) → schema_in pairs ≡ Some (listed, kinds)
    → json.Object (field (codes "$k") (json.Array listed) ∷ field (codes "p") (json.Object kinds) ∷ []) ≡ json.Object pairs
schema_back_in [] listed kinds is = absurd (cc is)
schema_back_in (last ∷ []) listed kinds is = absurd (cc is)
schema_back_in (first ∷ (last ∷ [])) listed kinds is =
    let gave = passed (bytes_eq first.name (codes "$k") && bytes_eq last.name (codes "p"))
    (option_and_then (λ (ns : List Json). option_map (λ (ks : List (Pair Json)). (ns, ks)) (pairs_of last.value))
    (items_of first.value)) (listed, kinds) is in
    let tests = and-both (bytes_eq first.name (codes "$k")) (bytes_eq last.name (codes "p")) gave.0 in
    let items = both_gave (items_of first.value)
    (λ (ns : List Json). option_map (λ (ks : List (Pair Json)). (ns, ks)) (pairs_of last.value)) (listed, kinds) gave.1 in
    let pairs = map_gave (λ (ks : List (Pair Json)). (items.0, ks)) (pairs_of last.value) (listed, kinds) items.2 in
    let same : items.0 ≡ listed = ap (λ (p : List Json × List (Pair Json)). p.0) pairs.2 in
    let same_too : pairs.0 ≡ kinds = ap (λ (p : List Json × List (Pair Json)). p.1) pairs.2 in
    let one = pair_is first (codes "$k") (json.Array listed) (bytes_same first.name (codes "$k") tests.0)
    (items_back first.value items.0 items.1 ∙ ap json.Array same) in
    let other = pair_is last (codes "p") (json.Object kinds) (bytes_same last.name (codes "p") tests.1)
    (pairs_back last.value pairs.0 pairs.1 ∙ ap json.Object same_too) in
    sym (ap json.Object (λ i. one i ∷ other i ∷ []))
schema_back_in (first ∷ (last ∷ (next ∷ more))) listed kinds is = absurd (cc is)

schema_back : (it : Json) (listed : List Json) (kinds : List (Pair Json)) → schema_parts it ≡ Some (listed, kinds)
    → json.Object (field (codes "$k") (json.Array listed) ∷ field (codes "p") (json.Object kinds) ∷ []) ≡ it
schema_back it listed kinds is =
    let steps = both_gave (pairs_of it) schema_in (listed, kinds) is in
    schema_back_in steps.0 listed kinds steps.2 ∙ sym (pairs_back it steps.0 steps.1)

-- a document, by its fields and its tables
of_parts : (it : Json) (fields : List (Pair Json)) (others : ℕ) (listed : List Json) (kinds : List (Pair Json)) (doc : List (Pair Value))
    → schema_parts it ≡ Some (listed, kinds) → length listed ≡ length kinds → length fields ≡ length listed + others
    → is_rising (names kinds) ≡ true
    → is_rising (names fields) ≡ true → is_sound (value.Doc doc) ≡ true → PairsOf kinds fields listed doc → DocOf it fields others doc
of_parts it fields others listed kinds doc parts as_many fields_as_many kinds_rise fields_rise sound all =
    let count : length listed ≡ length doc = sym (ap length all.listed_are) ∙ length-all json.Text (names doc)
    ∙ length-all (λ (pair : Pair Value). pair.name) doc in
    let distinct : are_distinct (names (each kind_of doc)) ≡ true = ap are_distinct (names_each kind_of doc) ∙ names_distinct doc sound in
    let table = table_is (each kind_of doc) kinds kinds_rise distinct all.in_kinds
    (omega (arith, as_many, count, length-each kind_of doc)) in
    let names_are : map json.Text (names (each kind_of doc)) ≡ listed = ap (map json.Text) (names_each kind_of doc) ∙ all.listed_are in
    record {
      schema_is = (λ i. json.Object (field (codes "$k") (json.Array (names_are i)) ∷ field (codes "p") (json.Object (table i)) ∷ []))
          ∙ schema_back it listed kinds parts;
      in_fields = all.in_fields;
      many = omega (arith, fields_as_many, count);
      rising = fields_rise;
      typed = typed_Doc doc ∙ all.typed;
    }

doc_back : (levels : ℕ) → ReadsBack levels → (it : Json) (fields : List (Pair Json)) (others : ℕ) (doc : List (Pair Value))
    → doc_with (value_within levels) it fields others ≡ Some doc → is_sound (value.Doc doc) ≡ true → DocOf it fields others doc
doc_back levels back it fields others doc is sound =
    let parts = both_gave (schema_parts it) (λ (parts : List Json × List (Pair Json)).
    if length parts.0 == length parts.1 && length fields == length parts.0 + others &&
    (is_rising (names parts.1) && is_rising (names fields)) then
    pairs_with (value_within levels) parts.1 fields parts.0
    else None) doc is in
    let listed = parts.0.0 in
    let kinds = parts.0.1 in
    let gave = passed (length listed == length kinds && length fields == length listed + others &&
    (is_rising (names kinds) && is_rising (names fields)))
    (pairs_with (value_within levels) kinds fields listed) doc parts.2 in
    let tests = and-both (length listed == length kinds && length fields == length listed + others)
    (is_rising (names kinds) && is_rising (names fields)) gave.0 in
    let counts = and-both (length listed == length kinds) (length fields == length listed + others) tests.0 in
    let rise = and-both (is_rising (names kinds)) (is_rising (names fields)) tests.1 in
    of_parts it fields others listed kinds doc parts.1 (eqb-true _ _ counts.0) (eqb-true _ _ counts.1) rise.0 rise.1 sound
    (fields_back kinds fields levels back listed doc gave.1 (within_sound doc sound))

-- ---- one level

abbrev Below : ℕ → Type 0
Below zero = Unit {0}
Below (suc levels) = ReadsBack levels

module _ (levels : ℕ) (below : Below levels) where
  items_within : (levels : ℕ) → Below levels → (kinds plains : List Json) (items : List Value) → items_at levels kinds plains ≡ Some items
      → are (map is_sound items) ≡ true → ItemsOf kinds plains items
  items_within zero below kinds plains items is sound = absurd (cc is)
  items_within (suc levels) below kinds plains items is sound =
      let gave = passed (length kinds == length plains) (items_with (value_within levels) kinds plains) items is in
      all_back levels below kinds plains items gave.1 sound

  doc_within : (levels : ℕ) → Below levels → (it : Json) (fields : List (Pair Json)) (others : ℕ) (doc : List (Pair Value))
      → doc_at levels it fields others ≡ Some doc
      → is_sound (value.Doc doc) ≡ true → DocOf it fields others doc
  doc_within zero below it fields others doc is sound = absurd (cc is)
  doc_within (suc levels) below it fields others doc is sound = doc_back levels below it fields others doc is sound

  -- the fields of a document alone
  fields_are : (it : Json) (fields : List (Pair Json)) (doc : List (Pair Value)) → is_sound (value.Doc doc) ≡ true → DocOf it fields 0 doc
      → plains doc ≡ fields
  fields_are it fields doc sound of =
      table_is (each plain_of doc) fields of.rising (ap are_distinct (names_each plain_of doc) ∙ names_distinct doc sound) of.in_fields
      (omega (arith, of.many, length-each plain_of doc))

  array_back : (tag : Tag) (plains : List Json) (it : Value)
      → value_in (items_at levels) (doc_at levels) tag (Json-F.Array plains) ≡ Some it → is_sound it ≡ true
      → IsOf (json.Object tag) (roll-Json (Json-F.Array plains)) it
  array_back tag plains it is sound =
      let kinds = both_gave (option_and_then items_of (part_of (codes "array") (codes "i") tag))
      (λ (kinds : List Json). option_map (λ (all : List Value). value.Arr all) (items_at levels kinds plains)) it is in
      let part = both_gave (part_of (codes "array") (codes "i") tag) items_of kinds.0 kinds.1 in
      let items = map_gave (λ (all : List Value). value.Arr all) (items_at levels kinds.0 plains) it kinds.2 in
      let all = items_within levels below kinds.0 plains items.0 items.1 (sym (sound_Arr items.0) ∙ ap is_sound items.2 ∙ sound) in
      of_layer (Value-F.Arr items.0) (value.Arr items.0) it _ _ (value.rolls-Arr items.0) items.2
      (ap (λ (ks : List Json). json.Object (parted (codes "array") (codes "i") (json.Array ks))) all.kinds_are
      ∙ ap (λ (more : Json). json.Object (parted (codes "array") (codes "i") more)) (sym (items_back part.0 kinds.0 part.2))
      ∙ ap json.Object (part_back (codes "array") (codes "i") tag part.0 part.1))
      (ap json.Array all.plains_are ∙ sym (json.rolls-Array plains)) all.typed

  object_back : (tag : Tag) (fields : List (Pair Json)) (it : Value)
      → value_in (items_at levels) (doc_at levels) tag (Json-F.Object fields) ≡ Some it → is_sound it ≡ true
      → IsOf (json.Object tag) (roll-Json (Json-F.Object fields)) it
  object_back tag fields it is sound =
      let part = both_gave (part_of (codes "object") (codes "$s") tag)
      (λ (schema : Json). option_map (λ (all : List (Pair Value)). value.Doc all) (doc_at levels schema fields 0)) it is in
      let doc = map_gave (λ (all : List (Pair Value)). value.Doc all) (doc_at levels part.0 fields 0) it part.2 in
      let sound_too : is_sound (value.Doc doc.0) ≡ true = ap is_sound doc.2 ∙ sound in
      let of = doc_within levels below part.0 fields 0 doc.0 doc.1 sound_too in
      of_layer (Value-F.Doc doc.0) (value.Doc doc.0) it _ _ (value.rolls-Doc doc.0) doc.2
      (ap (λ (schema : Json). json.Object (parted (codes "object") (codes "$s") schema)) of.schema_is
      ∙ ap json.Object (part_back (codes "object") (codes "$s") tag part.0 part.1))
      (ap json.Object (fields_are part.0 fields doc.0 sound_too of) ∙ sym (json.rolls-Object fields)) (sym (typed_Doc doc.0) ∙ of.typed)

  layer_back : (tag : Tag) (layer : Json-F Json) (it : Value) → value_in (items_at levels) (doc_at levels) tag layer ≡ Some it
      → is_sound it ≡ true
      → IsOf (json.Object tag) (roll-Json layer) it
  layer_back tag (Json-F.Array plains) it is sound = array_back tag plains it is sound
  layer_back tag (Json-F.Object fields) it is sound = object_back tag fields it is sound
  layer_back tag Json-F.Null it is sound = leaf_back tag Json-F.Null it is
  layer_back tag (Json-F.Bool truth) it is sound = leaf_back tag (Json-F.Bool truth) it is
  layer_back tag (Json-F.Whole n) it is sound = leaf_back tag (Json-F.Whole n) it is
  layer_back tag (Json-F.Text text) it is sound = leaf_back tag (Json-F.Text text) it is

  by_layer : (kind plain : Json) (it : Value) → value_within levels kind plain ≡ Some it → is_sound it ≡ true → IsOf kind plain it
  by_layer kind plain it is sound =
      let tag = both_gave (pairs_of kind) (λ (tag : Tag). value_in (items_at levels) (doc_at levels) tag (out-Json plain)) it is in
      let one = layer_back tag.0 (out-Json plain) it tag.2 sound in
      record {
        kind_is = one.kind_is ∙ sym (pairs_back kind tag.0 tag.1);
        plain_is = one.plain_is ∙ roll-out-Json plain;
        typed = one.typed;
      }

-- what is read of a kind and a plain JSON is this, and holds that
pub values_back : (levels : ℕ) → ReadsBack levels
values_back zero kind plain it is sound = by_layer zero tt kind plain it is sound
values_back (suc levels) kind plain it is sound = by_layer (suc levels) (values_back levels) kind plain it is sound

-- ---- rows

-- the fields with one behind them
behind_names : (pairs : List (Pair Json)) (pair : Pair Json) → names (pairs ++ pair ∷ []) ≡ names pairs ++ pair.name ∷ []
behind_names [] pair = refl
behind_names (first ∷ pairs) pair = ap (λ (more : List (List ℕ)). first.name ∷ more) (behind_names pairs pair)

turned : (o : Ordering) → not (is_eq o) ≡ true → not (is_eq (ordering_reverse o)) ≡ true
turned Less is = refl
turned Equal is = absurd (cc is)
turned Greater is = refl

none_behind : (name last : List ℕ) (these : List (List ℕ)) → is_none_of name these ≡ true → not (is_eq (Order last name)) ≡ true
    → is_none_of name (these ++ last ∷ []) ≡ true
none_behind name last [] none apart =
    and_true (not (is_eq (Order name last))) true (ap (λ (o : Ordering). not (is_eq o)) (nat_list_cmp_total.antisymm name last)
    ∙ turned (Order last name) apart) refl
none_behind name last (other ∷ these) none apart =
    let parts = and-both (not (is_eq (Order name other))) (is_none_of name these) none in
    and_true (not (is_eq (Order name other))) (is_none_of name (these ++ last ∷ [])) parts.0 (none_behind name last these parts.1 apart)

distinct_behind : (last : List ℕ) (these : List (List ℕ)) → are_distinct these ≡ true → is_none_of last these ≡ true
    → are_distinct (these ++ last ∷ []) ≡ true
distinct_behind last [] distinct none = refl
distinct_behind last (name ∷ these) distinct none =
    let parts = and-both (is_none_of name these) (are_distinct these) distinct in
    let apart = and-both (not (is_eq (Order last name))) (is_none_of last these) none in
    and_true (is_none_of name (these ++ last ∷ [])) (are_distinct (these ++ last ∷ [])) (none_behind name last these parts.0 apart.0)
    (distinct_behind last these parts.1 apart.1)

found_behind : (table pairs : List (Pair Json)) (pair : Pair Json) → AllFound table pairs → value_at pair.name table ≡ Some pair.value
    → AllFound table (pairs ++ pair ∷ [])
found_behind table [] pair all last = (last, tt)
found_behind table (first ∷ pairs) pair all last = (all.0, found_behind table pairs pair all.1 last)

-- the fields of a row are those of the document, and its schema
row_fields : (it : Json) (fields : List (Pair Json)) (doc : List (Pair Value)) → is_sound (value.Doc doc) ≡ true
    → value_at (codes "$s") fields ≡ Some it → DocOf it fields 1 doc
    → put (codes "$s") (schema_of doc) (plains doc) ≡ fields
row_fields it fields doc sound at of =
    let shown = each plain_of doc in
    let last : Pair Json = field (codes "$s") it in
    let apart : is_none_of (codes "$s") (names shown) ≡ true = ap (is_none_of (codes "$s")) (names_each plain_of doc)
    ∙ names_others doc sound in
    let distinct : are_distinct (names shown) ≡ true = ap are_distinct (names_each plain_of doc) ∙ names_distinct doc sound in
    let all : are_distinct (names (shown ++ last ∷ [])) ≡ true = ap are_distinct (behind_names shown last)
    ∙ distinct_behind (codes "$s") (names shown) distinct apart in
    ap (λ (schema : Json). put (codes "$s") schema (plains doc)) of.schema_is
    ∙ sym (put_last shown [] last)
    ∙ table_is (shown ++ last ∷ []) fields of.rising all (found_behind fields shown last of.in_fields at)
    (omega (arith, of.many, length-each plain_of doc, length-append shown (last ∷ [])))

-- a document that may be stored, and of which this is the row
pub record ReadAs (row : Json) (doc : List (Pair Value)) : Type 0 where
  pub row_is : row_of doc ≡ row
  pub typed : has_types doc ≡ true

pub row_back : (row : Json) (doc : List (Pair Value)) → row_read row ≡ Some doc → storable doc ≡ Ok tt → ReadAs row doc
row_back row doc is stored =
    let sound = (stored_parts doc stored).0 in
    let fields = both_gave (pairs_of row)
    (λ (fields : List (Pair Json)). option_and_then (λ (schema : Json). doc_at 32 schema fields 1)
    (value_at (codes "$s") fields)) doc is in
    let schema = both_gave (value_at (codes "$s") fields.0) (λ (schema : Json). doc_at 32 schema fields.0 1) doc fields.2 in
    let of = doc_back 31 (values_back 31) schema.0 fields.0 1 doc schema.2 sound in
    record {
      row_is = ap json.Object (row_fields schema.0 fields.0 doc sound schema.1 of) ∙ sym (pairs_back row fields.0 fields.1);
      typed = of.typed;
    }
