-- The text of a row is read again as the row.
use Rattle.std.proofs.Common.{◌≡◌, ◌∙◌, ◌*◌, ◌≤◌, ◌^◌, ℕ, zero, suc, Bool, true, List, [], ◌∷◌, map}
use Rattle.std.proofs.Common.{refl, sym, ap, subst, arith}
use Rattle.std.specs.Prelude.{ℤ, pos, negsuc, codes, int_le}
use Rattle.std.specs.declared.cmp.Ordering.{Ordering}
use Rattle.std.specs.declared.cmp.Ordering.TheVariants.{Less, Equal, Greater}
use Rattle.std.specs.Ordering.{nat_cmp, match_ordering}
use Rattle.std.specs.Cmp.Lexicographic.{slice_cmp}
use Rattle.std.proofs.lemmas.Bool.{lt-ltb}
use Rattle.std.proofs.lemmas.Grind.{common_steps}
use Rattle.serde_json.specs.Data.{Data, depth, items_depth, members_depth}
use Rattle.serde_json.specs.View.{items_of}
use Rattle.bson_values.specs.declared.pairs.Pair.{Pair}
use Rattle.bson_values.specs.declared.value.Value.{Value, map-Value}
use Rattle.bson_values.specs.declared.value.Value.TheViews.{out-Value}
use Rattle.bson_values.specs.declared.value.Value.TheOpen.{Value-F}
use Rattle.bson_values.specs.declared.value.Value.TheFolds.{fold_out-Value}
use Rattle.bson_values.specs.declared.value.Value.TheVariants as value
use Rattle.bson_values.specs.Measures.{greatest, depth_in, value_depth}
use Rattle.bson_values.specs.Names.{names}
use Rattle.jsonb_contain.specs.declared.value.Json.{Json, map-Json, roll-Json}
use Rattle.jsonb_contain.specs.declared.value.Json.TheOpen.{Json-F}
use Rattle.jsonb_contain.specs.declared.value.Json.TheFolds.{fold-roll-Json}
use Rattle.jsonb_contain.specs.declared.value.Json.TheVariants as json
use Rattle.jsonb_contain.specs.Rising.{put, put_all, is_rising}
use Rattle.jsonb_contain.specs.Texts.{members_of, data_in, data_of, rises_in, rises, number_fits, fits_in, fits}
use Rattle.jsonb_contain.proofs.Again.{read_again}
use Rattle.jsonb_contain.proofs.Orders.{put_all_rises}
use Rattle.jsonb_contain.proofs.Places.{put_rises}
use Rattle.std_words.proofs.Tests.{and-both}
use Rattle.typed_json.specs.Laws.{RowsAreReadAgain}
use Rattle.typed_json.specs.Plain.{each, plain_in, plain_of, plains, base64_text, hex_text}
use Rattle.typed_json.specs.Row.{alone, parted, kind_in, kind_of, schema, schema_of, row_of}
use Rattle.typed_json.specs.Typed.{typed_in, is_typed, is_i32, is_i64, is_u64, is_u8, are_bytes, has_types}
use Rattle.typed_json.proofs.Again.{stored_parts}
use Rattle.typed_json.proofs.Distinct.{and_true}
use Rattle.typed_json.proofs.Equations.{hold, are, deepest, typed_Doc, deep_Doc, names_each}

-- ---- what reading its text again asks of a JSON

-- names rise, numbers fit, and it has at most so many levels
record IsReadable (levels : ℕ) (it : Json) : Type 0 where
  rising : rises it ≡ true
  fitting : fits it ≡ true
  shallow : depth (data_of it) ≤ levels

abbrev AreReadable : ℕ → List Json → Type 0
AreReadable levels [] = Unit {0}
AreReadable levels (item ∷ items) = IsReadable levels item × AreReadable levels items

abbrev HoldReadable : ℕ → List (Pair Json) → Type 0
HoldReadable levels [] = Unit {0}
HoldReadable levels (pair ∷ pairs) = IsReadable levels pair.value × HoldReadable levels pairs

-- more levels may be allowed
wider : (levels more : ℕ) (it : Json) → levels ≤ more → IsReadable levels it → IsReadable more it
wider levels more it below one = record { rising = one.rising; fitting = one.fitting; shallow = omega (arith, below, one.shallow) }

hold_wider : (levels more : ℕ) (pairs : List (Pair Json)) → levels ≤ more → HoldReadable levels pairs → HoldReadable more pairs
hold_wider levels more [] below all = tt
hold_wider levels more (pair ∷ pairs) below all = (wider levels more pair.value below all.0, hold_wider levels more pairs below all.1)

-- ---- one level

by_layer : (levels : ℕ) (layer : Json-F Json) → rises_in (map-Json Json Bool rises layer) ≡ true
    → fits_in (map-Json Json Bool fits layer) ≡ true
    → depth (data_in (map-Json Json Data data_of layer)) ≤ levels → IsReadable levels (roll-Json layer)
by_layer levels layer rising fitting shallow = record {
  rising = fold-roll-Json Bool rises_in layer ∙ rising;
  fitting = fold-roll-Json Bool fits_in layer ∙ fitting;
  shallow = omega (arith, shallow, ap depth (fold-roll-Json Data data_in layer));
}

readable_Null : (levels : ℕ) → IsReadable levels json.Null
readable_Null levels = subst (IsReadable levels) json.rolls-Null (by_layer levels Json-F.Null refl refl (omega arith))

readable_Bool : (levels : ℕ) (truth : Bool) → IsReadable levels (json.Bool truth)
readable_Bool levels truth = subst (IsReadable levels) (json.rolls-Bool truth)
    (by_layer levels (Json-F.Bool truth) refl refl (omega arith))

readable_Text : (levels : ℕ) (text : List ℕ) → IsReadable levels (json.Text text)
readable_Text levels text = subst (IsReadable levels) (json.rolls-Text text)
    (by_layer levels (Json-F.Text text) refl refl (omega arith))

readable_Whole : (levels : ℕ) (n : ℤ) → number_fits n ≡ true → IsReadable levels (json.Whole n)
readable_Whole levels n fitting = subst (IsReadable levels) (json.rolls-Whole n)
    (by_layer levels (Json-F.Whole n) refl fitting (omega arith))

items_rise : (levels : ℕ) (items : List Json) → AreReadable levels items → are (map rises items) ≡ true
items_rise levels [] all = refl
items_rise levels (item ∷ items) all = and_true (rises item) (are (map rises items)) all.0.rising (items_rise levels items all.1)

items_fit : (levels : ℕ) (items : List Json) → AreReadable levels items → are (map fits items) ≡ true
items_fit levels [] all = refl
items_fit levels (item ∷ items) all = and_true (fits item) (are (map fits items)) all.0.fitting (items_fit levels items all.1)

items_shallow : (levels : ℕ) (items : List Json) → AreReadable levels items → items_depth (items_of (map data_of items)) ≤ levels
items_shallow levels [] all = omega arith
items_shallow levels (item ∷ items) all = omega (arith, all.0.shallow, items_shallow levels items all.1)

readable_Array : (levels : ℕ) (items : List Json) → AreReadable levels items → IsReadable (suc levels) (json.Array items)
readable_Array levels items all = subst (IsReadable (suc levels)) (json.rolls-Array items)
    (by_layer (suc levels) (Json-F.Array items) (items_rise levels items all) (items_fit levels items all)
    (omega (arith, items_shallow levels items all)))

pairs_rise : (levels : ℕ) (pairs : List (Pair Json)) → HoldReadable levels pairs → hold (each rises pairs) ≡ true
pairs_rise levels [] all = refl
pairs_rise levels (pair ∷ pairs) all =
    and_true (rises pair.value) (hold (each rises pairs)) all.0.rising (pairs_rise levels pairs all.1)

pairs_fit : (levels : ℕ) (pairs : List (Pair Json)) → HoldReadable levels pairs → hold (each fits pairs) ≡ true
pairs_fit levels [] all = refl
pairs_fit levels (pair ∷ pairs) all =
    and_true (fits pair.value) (hold (each fits pairs)) all.0.fitting (pairs_fit levels pairs all.1)

pairs_shallow : (levels : ℕ) (pairs : List (Pair Json)) → HoldReadable levels pairs
    → members_depth (members_of (each data_of pairs)) ≤ levels
pairs_shallow levels [] all = omega arith
pairs_shallow levels (pair ∷ pairs) all = omega (arith, all.0.shallow, pairs_shallow levels pairs all.1)

readable_Object : (levels : ℕ) (pairs : List (Pair Json)) → is_rising (names pairs) ≡ true → HoldReadable levels pairs
    → IsReadable (suc levels) (json.Object pairs)
readable_Object levels pairs rising all = subst (IsReadable (suc levels)) (json.rolls-Object pairs)
    (by_layer (suc levels) (Json-F.Object pairs)
    (and_true (is_rising (names (each rises pairs))) (hold (each rises pairs)) (ap is_rising (names_each rises pairs) ∙ rising)
    (pairs_rise levels pairs all))
    (pairs_fit levels pairs all) (omega (arith, pairs_shallow levels pairs all)))

-- ---- pairs put by their names

module _ (levels : ℕ) where
  put_by : (o : Ordering) (name : List ℕ) (it : Json) (pair : Pair Json) (pairs : List (Pair Json)) → IsReadable levels it
      → HoldReadable levels (pair ∷ pairs) → HoldReadable levels (put name it pairs)
      → HoldReadable levels (match_ordering o ((record { name = name; value = it }) ∷ pair ∷ pairs)
      ((record { name = name; value = it }) ∷ pairs) (pair ∷ put name it pairs))
  put_by Less name it pair pairs one all rest = (one, all)
  put_by Equal name it pair pairs one all rest = (one, all.1)
  put_by Greater name it pair pairs one all rest = (all.0, rest)

  put_readable : (name : List ℕ) (it : Json) (pairs : List (Pair Json)) → IsReadable levels it → HoldReadable levels pairs
      → HoldReadable levels (put name it pairs)
  put_readable name it [] one all = (one, tt)
  put_readable name it (pair ∷ pairs) one all =
      put_by (slice_cmp nat_cmp name pair.name) name it pair pairs one all (put_readable name it pairs one all.1)

  put_all_readable : (pairs so_far : List (Pair Json)) → HoldReadable levels so_far → HoldReadable levels pairs
      → HoldReadable levels (put_all so_far pairs)
  put_all_readable [] so_far before all = before
  put_all_readable (pair ∷ pairs) so_far before all =
      put_all_readable pairs (put pair.name pair.value so_far) (put_readable pair.name pair.value so_far all.0 before) all.1

  table_readable : (pairs : List (Pair Json)) → HoldReadable levels pairs → IsReadable (suc levels) (json.Object (put_all [] pairs))
  table_readable pairs all = readable_Object levels (put_all [] pairs) (put_all_rises [] pairs refl) (put_all_readable pairs [] tt all)

  texts_readable : (texts : List (List ℕ)) → AreReadable levels (map json.Text texts)
  texts_readable [] = tt
  texts_readable (text ∷ texts) = (readable_Text levels text, texts_readable texts)

  -- ---- tags and schemas

  alone_readable : (name : List ℕ) → IsReadable (suc levels) (json.Object (alone name))
  alone_readable name = readable_Object levels (alone name) refl (readable_Text levels name, tt)

  parted_readable : (name part : List ℕ) (more : Json) → is_rising (part ∷ codes "t" ∷ []) ≡ true → IsReadable levels more
      → IsReadable (suc levels) (json.Object (parted name part more))
  parted_readable name part more rising one = readable_Object levels (parted name part more) rising (one, (readable_Text levels name, tt))

schema_readable : (levels : ℕ) (kinds : List (Pair Json)) → HoldReadable levels kinds → IsReadable (suc (suc levels)) (schema kinds)
schema_readable levels kinds all =
    readable_Object (suc levels) _ refl
    (readable_Array levels (map json.Text (names kinds)) (texts_readable levels (names kinds)), (table_readable levels kinds all, tt))

-- ---- numbers

i64_fits : (n : ℤ) → is_i64 n ≡ true → number_fits n ≡ true
i64_fits (pos n) is =
    let parts = and-both (int_le (negsuc 9223372036854775807) (pos n)) (int_le (pos n) (pos 9223372036854775807)) is in
    lt-ltb n (2 ^ 64) (grind (arith, common_steps))
i64_fits (negsuc n) is =
    let parts = and-both (int_le (negsuc 9223372036854775807) (negsuc n)) (int_le (negsuc n) (pos 9223372036854775807)) is in
    lt-ltb n (2 ^ 63) (grind (arith, common_steps))

i32_fits : (n : ℤ) → is_i32 n ≡ true → number_fits n ≡ true
i32_fits (pos n) is =
    let parts = and-both (int_le (negsuc 2147483647) (pos n)) (int_le (pos n) (pos 2147483647)) is in
    lt-ltb n (2 ^ 64) (grind (arith, common_steps))
i32_fits (negsuc n) is =
    let parts = and-both (int_le (negsuc 2147483647) (negsuc n)) (int_le (negsuc n) (pos 2147483647)) is in
    lt-ltb n (2 ^ 63) (grind (arith, common_steps))

u64_fits : (n : ℕ) → is_u64 (pos n) ≡ true → number_fits (pos n) ≡ true
u64_fits n is =
    let parts = and-both (int_le (pos 0) (pos n)) (int_le (pos n) (pos 18446744073709551615)) is in
    lt-ltb n (2 ^ 64) (grind (arith, common_steps))

u8_fits : (n : ℕ) → is_u8 (pos n) ≡ true → number_fits (pos n) ≡ true
u8_fits n is =
    let parts = and-both (int_le (pos 0) (pos n)) (int_le (pos n) (pos 255)) is in
    lt-ltb n (2 ^ 64) (grind (arith, common_steps))

-- ---- values

-- a level of a value is at most three of what it is, whose tag is one more, and one of its plain JSON
record AreBoth (levels : ℕ) (kind plain : Json) : Type 0 where
  of_kind : IsReadable (suc (3 * levels)) kind
  of_plain : IsReadable levels plain

abbrev ValuesReadable : ℕ → Type 0
ValuesReadable levels = (it : Value) → is_typed it ≡ true → value_depth it ≤ levels → AreBoth levels (kind_of it) (plain_of it)

record ItemsBoth (levels : ℕ) (items : List Value) : Type 0 where
  of_kinds : AreReadable (suc (3 * levels)) (map kind_of items)
  of_plains : AreReadable levels (map plain_of items)

items_both : (levels : ℕ) → ValuesReadable levels → (items : List Value) → are (map is_typed items) ≡ true
    → greatest (map value_depth items) ≤ levels → ItemsBoth levels items
items_both levels known [] typed deep = record { of_kinds = tt; of_plains = tt }
items_both levels known (item ∷ items) typed deep =
    let types = and-both (is_typed item) (are (map is_typed items)) typed in
    let first = known item types.0 (omega arith) in
    let rest = items_both levels known items types.1 (omega arith) in
    record { of_kinds = (first.of_kind, rest.of_kinds); of_plains = (first.of_plain, rest.of_plains) }

record FieldsBoth (levels : ℕ) (doc : List (Pair Value)) : Type 0 where
  of_kinds : HoldReadable (suc (3 * levels)) (each kind_of doc)
  of_plains : HoldReadable levels (each plain_of doc)

fields_both : (levels : ℕ) → ValuesReadable levels → (doc : List (Pair Value)) → hold (each is_typed doc) ≡ true
    → deepest (each value_depth doc) ≤ levels → FieldsBoth levels doc
fields_both levels known [] typed deep = record { of_kinds = tt; of_plains = tt }
fields_both levels known (pair ∷ doc) typed deep =
    let types = and-both (is_typed pair.value) (hold (each is_typed doc)) typed in
    let first = known pair.value types.0 (omega arith) in
    let rest = fields_both levels known doc types.1 (omega arith) in
    record { of_kinds = (first.of_kind, rest.of_kinds); of_plains = (first.of_plain, rest.of_plains) }

-- values of fewer levels are known
abbrev Below : ℕ → Type 0
Below zero = Unit {0}
Below (suc levels) = ValuesReadable levels

abbrev LayerBoth : ℕ → Value-F Value → Type 0
LayerBoth levels layer =
    typed_in (map-Value Value Bool is_typed layer) ≡ true → depth_in (map-Value Value ℕ value_depth layer) ≤ levels
    → AreBoth levels (kind_in (map-Value Value Json kind_of layer)) (plain_in (map-Value Value Json plain_of layer))

doc_both : (levels : ℕ) → Below levels → (doc : List (Pair Value)) → LayerBoth levels (Value-F.Doc doc)
doc_both zero below doc typed deep = absurd (omega (arith, deep))
doc_both (suc levels) below doc typed deep =
    let within : deepest (each value_depth doc) ≤ levels = omega (arith, deep) in
    let all = fields_both levels below doc typed within in
    let own = parted_readable (suc (suc (suc (3 * levels)))) (codes "object") (codes "$s") (schema (each kind_of doc)) refl
    (schema_readable (suc (3 * levels)) (each kind_of doc) all.of_kinds) in
    let kind = json.Object (parted (codes "object") (codes "$s") (schema (each kind_of doc))) in
    record {
      of_kind = wider (suc (suc (suc (suc (3 * levels))))) (suc (3 * suc levels)) kind (omega arith) own;
      of_plain = table_readable levels (each plain_of doc) all.of_plains;
    }

arr_both : (levels : ℕ) → Below levels → (items : List Value) → LayerBoth levels (Value-F.Arr items)
arr_both zero below items typed deep = absurd (omega (arith, deep))
arr_both (suc levels) below items typed deep =
    let within : greatest (map value_depth items) ≤ levels = omega (arith, deep) in
    let all = items_both levels below items typed within in
    let own = parted_readable (suc (suc (3 * levels))) (codes "array") (codes "i") (json.Array (map kind_of items)) refl
    (readable_Array (suc (3 * levels)) (map kind_of items) all.of_kinds) in
    let kind = json.Object (parted (codes "array") (codes "i") (json.Array (map kind_of items))) in
    record {
      of_kind = wider (suc (suc (suc (3 * levels)))) (suc (3 * suc levels)) kind (omega arith) own;
      of_plain = readable_Array levels (map plain_of items) all.of_plains;
    }

-- a value that holds no others
leaf_both : (levels : ℕ) (name : List ℕ) (plain : Json) → IsReadable levels plain → AreBoth levels (json.Object (alone name)) plain
leaf_both levels name plain one = record { of_kind = alone_readable (3 * levels) name; of_plain = one }

layer_both : (levels : ℕ) → Below levels → (layer : Value-F Value) → LayerBoth levels layer
layer_both levels below (Value-F.Doc doc) typed deep = doc_both levels below doc typed deep
layer_both levels below (Value-F.Arr items) typed deep = arr_both levels below items typed deep
layer_both levels below (Value-F.Str text) typed deep = leaf_both levels (codes "string") (json.Text text) (readable_Text levels text)
layer_both levels below (Value-F.Bin it) typed deep =
    let parts = and-both (is_u8 (pos it.subtype)) (are_bytes it.bytes) typed in
    record {
      of_kind = parted_readable (3 * levels) (codes "binData") (codes "s") (json.Whole (pos it.subtype)) refl
          (readable_Whole (3 * levels) (pos it.subtype) (u8_fits it.subtype parts.0));
      of_plain = readable_Text levels (base64_text it.bytes);
    }
layer_both levels below (Value-F.Id id) typed deep =
    leaf_both levels (codes "objectId") (json.Text (hex_text id)) (readable_Text levels (hex_text id))
layer_both levels below (Value-F.Bool truth) typed deep = leaf_both levels (codes "bool") (json.Bool truth) (readable_Bool levels truth)
layer_both levels below (Value-F.Date moment) typed deep =
    leaf_both levels (codes "date") (json.Whole moment) (readable_Whole levels moment (i64_fits moment typed))
layer_both levels below Value-F.Null typed deep = leaf_both levels (codes "null") json.Null (readable_Null levels)
layer_both levels below (Value-F.Regex it) typed deep = record {
  of_kind = parted_readable (3 * levels) (codes "regex") (codes "o") (json.Text it.options) refl (readable_Text (3 * levels) it.options);
  of_plain = readable_Text levels it.pattern;
}
layer_both levels below (Value-F.Int number) typed deep =
    leaf_both levels (codes "int") (json.Whole number) (readable_Whole levels number (i32_fits number typed))
layer_both levels below (Value-F.Stamp stamp) typed deep =
    leaf_both levels (codes "timestamp") (json.Whole (pos stamp)) (readable_Whole levels (pos stamp) (u64_fits stamp typed))
layer_both levels below (Value-F.Long number) typed deep =
    leaf_both levels (codes "long") (json.Whole number) (readable_Whole levels number (i64_fits number typed))

by_out : (levels : ℕ) → Below levels → ValuesReadable levels
by_out levels below it typed deep =
    let layer = layer_both levels below (out-Value it) (sym (fold_out-Value Bool typed_in it) ∙ typed)
    (omega (arith, deep, fold_out-Value ℕ depth_in it)) in
    subst (λ (kind : Json). AreBoth levels kind (plain_of it)) (sym (fold_out-Value Json kind_in it))
    (subst (λ (plain : Json). AreBoth levels (kind_in (map-Value Value Json kind_of (out-Value it))) plain)
    (sym (fold_out-Value Json plain_in it)) layer)

values_readable : (levels : ℕ) → ValuesReadable levels
values_readable zero it typed deep = by_out zero tt it typed deep
values_readable (suc levels) it typed deep = by_out (suc levels) (values_readable levels) it typed deep

-- ---- rows

-- a document of 32 levels has a row of at most 97
row_readable : (doc : List (Pair Value)) → has_types doc ≡ true → value_depth (value.Doc doc) ≤ 32 → IsReadable 97 (row_of doc)
row_readable doc typed deep =
    let within : deepest (each value_depth doc) ≤ 31 = omega (arith, deep, deep_Doc doc) in
    let all = fields_both 31 (values_readable 31) doc (sym (typed_Doc doc) ∙ typed) within in
    let fields = put_all_readable 31 (each plain_of doc) [] tt all.of_plains in
    readable_Object 96 (put (codes "$s") (schema_of doc) (plains doc))
    (put_rises (codes "$s") (schema_of doc) (plains doc) (put_all_rises [] (each plain_of doc) refl))
    (put_readable 96 (codes "$s") (schema_of doc) (plains doc) (schema_readable 94 (each kind_of doc) all.of_kinds)
    (hold_wider 31 96 (plains doc) (omega arith) fields))

pub rows_read_again : RowsAreReadAgain
rows_read_again doc stored typed =
    let parts = stored_parts doc stored in
    let it = wider 97 127 (row_of doc) (omega arith) (row_readable doc typed parts.1) in
    record {
      fitting = it.fitting;
      shallow = it.shallow;
      again = read_again (row_of doc) it.rising it.fitting it.shallow;
    }
