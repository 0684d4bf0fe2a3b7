-- A row is read as its document.
use Rattle.std.proofs.Common.{◌≡◌, ◌∙◌, ◌+◌, ◌≤◌, ◌&&◌, ◌==◌, ℕ, zero, suc, Bool, true, None, Some, option_and_then}
use Rattle.std.proofs.Common.{List, [], ◌∷◌, length, map, refl, sym, ap, subst, arith}
use Rattle.std.specs.Prelude.{ℤ, pos, codes, Ok, is_ok, nat_le}
use Rattle.std.proofs.lemmas.Bool.{eq-eqb, eqb-true, leb-true}
use Rattle.bson_values.specs.declared.pairs.Pair.{Pair}
use Rattle.bson_values.specs.declared.value.Value.{Value, map-Value, roll-Value}
use Rattle.bson_values.specs.declared.value.Value.TheViews.{out-Value, roll-out-Value}
use Rattle.bson_values.specs.declared.value.Value.TheOpen.{Value-F}
use Rattle.bson_values.specs.declared.value.Value.TheFolds.{fold_out-Value}
use Rattle.bson_values.specs.declared.value.Value.TheVariants as value
use Rattle.bson_values.specs.Allowed.{are_allowed, sound_in, is_sound, can_be_stored}
use Rattle.bson_values.specs.Measures.{greatest, depth_in, value_depth, depth, size}
use Rattle.bson_values.specs.Names.{names}
use Rattle.bson_values.specs.Storable.{MOST_BYTES, MOST_LEVELS, storable}
use Rattle.bson_values.proofs.Soundness.{storable_where}
use Rattle.jsonb_contain.specs.declared.value.Json.{Json}
use Rattle.jsonb_contain.specs.declared.value.Json.TheViews.{out-Json}
use Rattle.jsonb_contain.specs.declared.value.Json.TheOpen.{Json-F}
use Rattle.jsonb_contain.specs.declared.value.Json.TheVariants as json
use Rattle.jsonb_contain.specs.Rising.{put, put_all, value_at, is_rising}
use Rattle.jsonb_contain.proofs.Orders.{put_all_rises}
use Rattle.jsonb_contain.proofs.Places.{put_rises}
use Rattle.std_words.proofs.Tests.{and-both}
use Rattle.typed_json.specs.Plain.{each, plain_in, plain_of, plains, base64_text, hex_text}
use Rattle.typed_json.specs.Row.{Tag, alone, parted, kind_in, kind_of, schema, schema_of, row_of}
use Rattle.typed_json.specs.Leaf.{items_of, part_of, leaf_of}
use Rattle.typed_json.specs.Reading.{value_in, value_within, items_at, doc_at, items_with, value_for, pairs_with, schema_in}
use Rattle.typed_json.specs.Reading.{schema_parts, row_read}
use Rattle.typed_json.specs.Typed.{typed_in, is_typed, is_u8, are_bytes, has_types}
use Rattle.typed_json.proofs.Puts.{IsNoneOf, AreDistinct, AllFound, NoneFound, put_found, put_other, put_longer}
use Rattle.typed_json.proofs.Puts.{put_all_found, put_all_other, put_all_length, two_back, two_from}
use Rattle.typed_json.proofs.Distinct.{is_none_of, are_distinct, allowed_distinct, allowed_others}
use Rattle.typed_json.proofs.Equations.{hold, are, deepest, typed_Arr, typed_Doc, sound_Arr, sound_Doc, deep_Arr, deep_Doc, names_each}
use Rattle.typed_json.proofs.Equations.{length-each, length-all}
use Rattle.typed_json.proofs.Layers.{out_text, out_null, out_bool, out_whole, text_is, pairs_is, items_is}
use Rattle.typed_json.proofs.LeafAgain.{null_again, bool_again, int_again, long_again, date_again, stamp_again, str_again, id_again}
use Rattle.typed_json.proofs.LeafAgain.{bin_again, regex_again}

-- ---- names as tests

none_from : (name : List ℕ) (more : List (List ℕ)) → is_none_of name more ≡ true → IsNoneOf name more
none_from name [] test = tt
none_from name (other ∷ more) test = let parts = and-both _ (is_none_of name more) test in
    (two_from name other parts.0, none_from name more parts.1)

distinct_from : (all : List (List ℕ)) → are_distinct all ≡ true → AreDistinct all
distinct_from [] test = tt
distinct_from (name ∷ more) test =
    let parts = and-both (is_none_of name more) (are_distinct more) test in
    (none_from name more parts.0, distinct_from more parts.1)

none_at : (all : List (List ℕ)) → NoneFound {V = Json} [] all
none_at [] = tt
none_at (name ∷ more) = (refl, none_at more)

-- ---- a document that is sound

-- names of a document, each another and none `$s`
module _ (doc : List (Pair Value)) (sound : is_sound (value.Doc doc) ≡ true) where
  allowed : are_allowed [] (names doc) ≡ true
  allowed = ap (are_allowed []) (sym (names_each is_sound doc))
      ∙ (and-both (are_allowed [] (names (each is_sound doc))) (hold (each is_sound doc)) (sym (sound_Doc doc) ∙ sound)).0

  pub within_sound : hold (each is_sound doc) ≡ true
  within_sound = (and-both (are_allowed [] (names (each is_sound doc))) (hold (each is_sound doc)) (sym (sound_Doc doc) ∙ sound)).1

  pub names_distinct : are_distinct (names doc) ≡ true
  names_distinct = allowed_distinct [] (names doc) allowed

  pub names_others : is_none_of (codes "$s") (names doc) ≡ true
  names_others = allowed_others [] (names doc) allowed

  pub others_of : IsNoneOf (codes "$s") (names doc)
  others_of = none_from (codes "$s") (names doc) names_others

  -- the same of the tables made of it
  pub distinct_each : (made : Value → Json) → AreDistinct (names (each made doc))
  distinct_each made = subst AreDistinct (sym (names_each made doc)) (distinct_from (names doc) names_distinct)

  pub others_each : (made : Value → Json) → IsNoneOf (codes "$s") (names (each made doc))
  others_each made = subst (IsNoneOf (codes "$s")) (sym (names_each made doc)) others_of

  pub table_length : (made : Value → Json) → length (put_all [] (each made doc)) ≡ length doc
  table_length made =
      omega (arith, put_all_length (each made doc) [] (distinct_each made) (none_at (names (each made doc))), length-each made doc)

  pub table_found : (made : Value → Json) → AllFound (put_all [] (each made doc)) (each made doc)
  table_found made = put_all_found (each made doc) [] (distinct_each made)

-- ---- values within

-- values of so many levels are read again
abbrev ReadsAgain : ℕ → Type 0
ReadsAgain levels =
    (it : Value) → is_typed it ≡ true → is_sound it ≡ true → value_depth it ≤ levels
    → value_within levels (kind_of it) (plain_of it) ≡ Some it

items_again : (levels : ℕ) → ReadsAgain levels → (items : List Value) → are (map is_typed items) ≡ true → are (map is_sound items) ≡ true
    → greatest (map value_depth items) ≤ levels → items_with (value_within levels) (map kind_of items) (map plain_of items) ≡ Some items
items_again levels again [] typed sound deep = refl
items_again levels again (item ∷ items) typed sound deep =
    let types = and-both (is_typed item) (are (map is_typed items)) typed in
    let sounds = and-both (is_sound item) (are (map is_sound items)) sound in
    let first = again item types.0 sounds.0 (omega arith) in
    let rest = items_again levels again items types.1 sounds.1 (omega arith) in
    rw (first, rest) refl

-- a field, found in both tables
pair_again : (levels : ℕ) → ReadsAgain levels → (pair : Pair Value) (kinds fields : List (Pair Json)) → is_typed pair.value ≡ true
    → is_sound pair.value ≡ true → value_depth pair.value ≤ levels
    → value_at pair.name kinds ≡ Some (kind_of pair.value) → value_at pair.name fields ≡ Some (plain_of pair.value)
    → value_for (value_within levels) kinds fields pair.name ≡ Some pair.value
pair_again levels again pair kinds fields typed sound deep kind_is field_is = let one = again pair.value typed sound deep in rw
    (kind_is, field_is) one

pairs_again : (levels : ℕ) → ReadsAgain levels → (doc : List (Pair Value)) (kinds fields : List (Pair Json))
    → hold (each is_typed doc) ≡ true
    → hold (each is_sound doc) ≡ true → deepest (each value_depth doc) ≤ levels → AllFound kinds (each kind_of doc)
    → AllFound fields (each plain_of doc)
    → pairs_with (value_within levels) kinds fields (map json.Text (names (each kind_of doc))) ≡ Some doc
pairs_again levels again [] kinds fields typed sound deep in_kinds in_fields = refl
pairs_again levels again (pair ∷ doc) kinds fields typed sound deep in_kinds in_fields =
    let types = and-both (is_typed pair.value) (hold (each is_typed doc)) typed in
    let sounds = and-both (is_sound pair.value) (hold (each is_sound doc)) sound in
    let first = pair_again levels again pair kinds fields types.0 sounds.0 (omega arith) in_kinds.0 in_fields.0 in
    let rest = pairs_again levels again doc kinds fields types.1 sounds.1 (omega arith) in_kinds.1 in_fields.1 in
    rw (text_is pair.name, first, rest) refl

schema_is : (kinds : List (Pair Json)) → schema_parts (schema kinds) ≡ Some (map json.Text (names kinds), put_all [] kinds)
schema_is kinds = ap (option_and_then schema_in) (pairs_is _)
    ∙ rw (items_is (map json.Text (names kinds)), pairs_is (put_all [] kinds)) refl

-- a document's schema is read beside a table that has its fields, and so many others
doc_found : (levels : ℕ) → ReadsAgain levels → (doc : List (Pair Value)) → is_typed (value.Doc doc) ≡ true → is_sound (value.Doc doc) ≡ true
    → value_depth (value.Doc doc) ≤ suc levels → (fields : List (Pair Json)) (others : ℕ) → AllFound fields (each plain_of doc)
    → length fields ≡ length doc + others → is_rising (names fields) ≡ true → doc_at (suc levels) (schema_of doc) fields others ≡ Some doc
doc_found levels again doc typed sound deep fields others in_fields many fields_rise =
    let kinds = each kind_of doc in
    let within : deepest (each value_depth doc) ≤ levels = omega (arith, deep, deep_Doc doc) in
    let all = pairs_again levels again doc (put_all [] kinds) fields (sym (typed_Doc doc)
    ∙ typed) (within_sound doc sound) within (table_found doc sound kind_of) in_fields in
    let listed : length (map json.Text (names kinds)) ≡ length doc =
    omega (arith, length-all json.Text (names kinds), length-all (λ (pair : Pair Json). pair.name) kinds, length-each kind_of doc) in
    let as_many : (length (map json.Text (names kinds)) == length (put_all [] kinds)) ≡ true = eq-eqb _ _
    (omega (arith, table_length doc sound kind_of, listed)) in
    let fields_as_many : (length fields == length (map json.Text (names kinds)) + others) ≡ true = eq-eqb _ _
    (omega (arith, many, listed)) in
    rw (schema_is kinds) (rw (as_many, fields_as_many, put_all_rises [] kinds refl, fields_rise) all)

-- a document's schema and fields are read as the document
doc_again : (levels : ℕ) → ReadsAgain levels → (doc : List (Pair Value)) → is_typed (value.Doc doc) ≡ true → is_sound (value.Doc doc) ≡ true
    → value_depth (value.Doc doc) ≤ suc levels → doc_at (suc levels) (schema_of doc) (plains doc) 0 ≡ Some doc
doc_again levels again doc typed sound deep =
    doc_found levels again doc typed sound deep (plains doc) 0 (table_found doc sound plain_of)
    (omega (arith, table_length doc sound plain_of))
    (put_all_rises [] (each plain_of doc) refl)

items_within : (levels : ℕ) → ReadsAgain levels → (items : List Value) → is_typed (value.Arr items) ≡ true
    → is_sound (value.Arr items) ≡ true
    → value_depth (value.Arr items) ≤ suc levels → items_at (suc levels) (map kind_of items) (map plain_of items) ≡ Some items
items_within levels again items typed sound deep =
    let as_many : (length (map kind_of items) == length (map plain_of items)) ≡ true =
    eq-eqb _ _ (omega (arith, length-all kind_of items, length-all plain_of items)) in
    rw as_many (items_again levels again items (sym (typed_Arr items) ∙ typed) (sym (sound_Arr items)
    ∙ sound) (omega (arith, deep, deep_Arr items)))

-- ---- each variant

-- values of fewer levels are known
abbrev Below : ℕ → Type 0
Below zero = Unit {0}
Below (suc levels) = ReadsAgain levels

-- a value by its tag, and one level of what it holds
read_by : (levels : ℕ) (tag : Tag) (plain : Json) (layer : Json-F Json) → out-Json plain ≡ layer
    → value_within levels (json.Object tag) plain ≡ value_in (items_at levels) (doc_at levels) tag layer
read_by levels tag plain layer held =
    ap (option_and_then (λ (t : Tag). value_in (items_at levels) (doc_at levels) t (out-Json plain))) (pairs_is tag)
    ∙ ap (value_in (items_at levels) (doc_at levels) tag) held

module _ (levels : ℕ) where
  doc_part : (schema : Json) → part_of (codes "object") (codes "$s") (parted (codes "object") (codes "$s") schema) ≡ Some schema
  doc_part it = rw (out_text (codes "object")) refl

  doc_held : (it : Json) (fields : List (Pair Json)) (doc : List (Pair Value)) → doc_at levels it fields 0 ≡ Some doc
      → value_within levels (json.Object (parted (codes "object") (codes "$s") it)) (json.Object fields) ≡ Some (value.Doc doc)
  doc_held it fields doc is =
      read_by levels (parted (codes "object") (codes "$s") it) (json.Object fields) (Json-F.Object fields) (json.outs-Object fields)
      ∙ rw (doc_part it) (rw is refl)

  arr_part : (all : List Json) → option_and_then items_of
      (part_of (codes "array") (codes "i") (parted (codes "array") (codes "i") (json.Array all))) ≡ Some all
  arr_part all = rw (out_text (codes "array")) (items_is all)

  arr_held : (kinds plain : List Json) (items : List Value) → items_at levels kinds plain ≡ Some items
      → value_within levels (json.Object (parted (codes "array") (codes "i") (json.Array kinds))) (json.Array plain) ≡ Some
      (value.Arr items)
  arr_held kinds plain items is =
      read_by levels (parted (codes "array") (codes "i") (json.Array kinds)) (json.Array plain) (Json-F.Array plain) (json.outs-Array plain)
      ∙ rw (arr_part kinds) (rw is refl)

  text_held : (tag : Tag) (text : List ℕ) (it : Value) → leaf_of tag (Json-F.Text text) ≡ Some it
      → value_within levels (json.Object tag) (json.Text text) ≡ Some it
  text_held tag text it is = read_by levels tag (json.Text text) (Json-F.Text text) (out_text text) ∙ is

  whole_held : (tag : Tag) (n : ℤ) (it : Value) → leaf_of tag (Json-F.Whole n) ≡ Some it
      → value_within levels (json.Object tag) (json.Whole n) ≡ Some it
  whole_held tag n it is = read_by levels tag (json.Whole n) (Json-F.Whole n) (out_whole n) ∙ is

-- by the layer of a value
abbrev ByLayer : ℕ → Value-F Value → Type 0
ByLayer levels layer =
    typed_in (map-Value Value Bool is_typed layer) ≡ true → sound_in (map-Value Value Bool is_sound layer) ≡ true
    → depth_in (map-Value Value ℕ value_depth layer) ≤ levels
    → value_within levels (kind_in (map-Value Value Json kind_of layer)) (plain_in (map-Value Value Json plain_of layer)) ≡ Some
    (roll-Value layer)

doc_layer : (levels : ℕ) → Below levels → (doc : List (Pair Value)) → ByLayer levels (Value-F.Doc doc)
doc_layer zero below doc typed sound deep = absurd (omega (arith, deep))
doc_layer (suc levels) below doc typed sound deep =
    doc_held (suc levels) (schema_of doc) (plains doc) doc
    (doc_again levels below doc (typed_Doc doc ∙ typed) (sound_Doc doc ∙ sound) (omega (arith, deep, deep_Doc doc)))
    ∙ ap Some (sym (value.rolls-Doc doc))

arr_layer : (levels : ℕ) → Below levels → (items : List Value) → ByLayer levels (Value-F.Arr items)
arr_layer zero below items typed sound deep = absurd (omega (arith, deep))
arr_layer (suc levels) below items typed sound deep =
    arr_held (suc levels) (map kind_of items) (map plain_of items) items
    (items_within levels below items (typed_Arr items ∙ typed) (sound_Arr items ∙ sound) (omega (arith, deep, deep_Arr items)))
    ∙ ap Some (sym (value.rolls-Arr items))

id_layer : (levels : ℕ) (id : List ℕ) → (length id == 12 && are_bytes id) ≡ true
    → value_within levels (json.Object (alone (codes "objectId"))) (json.Text (hex_text id)) ≡ Some (value.Id id)
id_layer levels id typed =
    let parts = and-both (length id == 12) (are_bytes id) typed in
    text_held levels (alone (codes "objectId")) (hex_text id) (value.Id id) (id_again id (eqb-true _ _ parts.0) parts.1)

layer_again : (levels : ℕ) → Below levels → (layer : Value-F Value) → ByLayer levels layer
layer_again levels below (Value-F.Doc doc) typed sound deep = doc_layer levels below doc typed sound deep
layer_again levels below (Value-F.Arr items) typed sound deep = arr_layer levels below items typed sound deep
layer_again levels below (Value-F.Str text) typed sound deep =
    text_held levels (alone (codes "string")) text (value.Str text) (str_again text) ∙ ap Some (sym (value.rolls-Str text))
layer_again levels below (Value-F.Bin it) typed sound deep =
    let parts = and-both (is_u8 (pos it.subtype)) (are_bytes it.bytes) typed in
    text_held levels (parted (codes "binData") (codes "s") (json.Whole (pos it.subtype))) (base64_text it.bytes) (value.Bin it)
    (bin_again it parts.0 parts.1)
    ∙ ap Some (sym (value.rolls-Bin it))
layer_again levels below (Value-F.Id id) typed sound deep = id_layer levels id typed ∙ ap Some (sym (value.rolls-Id id))
layer_again levels below (Value-F.Bool truth) typed sound deep =
    read_by levels (alone (codes "bool")) (json.Bool truth) (Json-F.Bool truth) (out_bool truth) ∙ bool_again truth
    ∙ ap Some (sym (value.rolls-Bool truth))
layer_again levels below (Value-F.Date moment) typed sound deep =
    whole_held levels (alone (codes "date")) moment (value.Date moment) (date_again moment typed) ∙ ap Some (sym (value.rolls-Date moment))
layer_again levels below Value-F.Null typed sound deep =
    read_by levels (alone (codes "null")) json.Null Json-F.Null out_null ∙ null_again ∙ ap Some (sym value.rolls-Null)
layer_again levels below (Value-F.Regex it) typed sound deep =
    text_held levels (parted (codes "regex") (codes "o") (json.Text it.options)) it.pattern (value.Regex it) (regex_again it)
    ∙ ap Some (sym (value.rolls-Regex it))
layer_again levels below (Value-F.Int number) typed sound deep =
    whole_held levels (alone (codes "int")) number (value.Int number) (int_again number typed) ∙ ap Some (sym (value.rolls-Int number))
layer_again levels below (Value-F.Stamp stamp) typed sound deep =
    whole_held levels (alone (codes "timestamp")) (pos stamp) (value.Stamp stamp) (stamp_again stamp typed)
    ∙ ap Some (sym (value.rolls-Stamp stamp))
layer_again levels below (Value-F.Long number) typed sound deep =
    whole_held levels (alone (codes "long")) number (value.Long number) (long_again number typed) ∙ ap Some (sym (value.rolls-Long number))

by_layer : (levels : ℕ) → Below levels → (it : Value) → is_typed it ≡ true → is_sound it ≡ true → value_depth it ≤ levels
    → value_within levels (kind_of it) (plain_of it) ≡ Some it
by_layer levels below it typed sound deep =
    let layer = layer_again levels below (out-Value it) (sym (fold_out-Value Bool typed_in it)
    ∙ typed) (sym (fold_out-Value Bool sound_in it) ∙ sound)
    (omega (arith, deep, fold_out-Value ℕ depth_in it)) in
    ap (λ (kind : Json). value_within levels kind (plain_of it)) (fold_out-Value Json kind_in it)
    ∙ ap (λ (plain : Json). value_within levels (kind_in (map-Value Value Json kind_of (out-Value it))) plain)
    (fold_out-Value Json plain_in it)
    ∙ layer ∙ ap Some (roll-out-Value it)

-- what a value is and holds is read as the value
pub value_again : (levels : ℕ) → ReadsAgain levels
value_again zero it typed sound deep = by_layer zero tt it typed sound deep
value_again (suc levels) it typed sound deep = by_layer (suc levels) (value_again levels) it typed sound deep

-- ---- rows

still_found : {V : Type 0} (name : List ℕ) (it : V) (table pairs : List (Pair V)) → IsNoneOf name (names pairs) → AllFound table pairs
    → AllFound (put name it table) pairs
still_found name it table [] other found = tt
still_found name it table (pair ∷ pairs) other found =
    (put_other name it pair.name (two_back name pair.name other.0) table ∙ found.0, still_found name it table pairs other.1 found.1)

row_sound : (doc : List (Pair Value)) → has_types doc ≡ true → is_sound (value.Doc doc) ≡ true → value_depth (value.Doc doc) ≤ 32
    → row_read (row_of doc) ≡ Some doc
row_sound doc typed sound deep =
    let fields = each plain_of doc in
    let it = schema_of doc in
    let others = others_each doc sound plain_of in
    let absent : value_at (codes "$s") (plains doc) ≡ None = put_all_other (codes "$s") fields [] others in
    let many : length (put (codes "$s") it (plains doc)) ≡ length doc + 1 = omega
    (arith, put_longer (codes "$s") it (plains doc) absent, table_length doc sound plain_of) in
    let whole = doc_found 31 (value_again 31) doc typed sound deep (put (codes "$s") it (plains doc)) 1
    (still_found (codes "$s") it (plains doc) fields others (table_found doc sound plain_of)) many
    (put_rises (codes "$s") it (plains doc) (put_all_rises [] fields refl)) in
    rw (pairs_is (put (codes "$s") it (plains doc))) (rw (put_found (codes "$s") it (plains doc)) whole)

-- what storing asks for
pub stored_parts : (doc : List (Pair Value)) → storable doc ≡ Ok tt → (is_sound (value.Doc doc) ≡ true) × (value_depth (value.Doc doc) ≤ 32)
stored_parts doc stored =
    let can : can_be_stored doc ≡ true = sym (storable_where doc) ∙ ap is_ok stored in
    let first = and-both (nat_le (size doc) MOST_BYTES && nat_le (depth doc) MOST_LEVELS) (is_sound (value.Doc doc)) can in
    let second = and-both (nat_le (size doc) MOST_BYTES) (nat_le (depth doc) MOST_LEVELS) first.0 in
    (first.1, leb-true (depth doc) MOST_LEVELS second.1)

-- the row of a document that may be stored is read as the document
pub row_again : (doc : List (Pair Value)) → has_types doc ≡ true → storable doc ≡ Ok tt → row_read (row_of doc) ≡ Some doc
row_again doc typed stored = let parts = stored_parts doc stored in row_sound doc typed parts.0 parts.1
