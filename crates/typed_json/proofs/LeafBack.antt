-- A value that is read of a tag and a plain JSON is told by them.
use Rattle.std.proofs.Common.{◌≡◌, ◌∙◌, ℕ, Bool, true, false, ◌&&◌, ◌==◌, ◌⊎◌, inl, inr, Option, None, Some, List}
use Rattle.std.proofs.Common.{[], ◌∷◌, length, refl, sym, ap, subst, arith}
use Rattle.std.specs.Prelude.{ℤ, codes, pos, negsuc, if◌then◌else◌, option_and_then, option_map, Result, Ok, Err, int_le}
use Rattle.std.specs.Prelude.{unsigned_abs}
use Rattle.std.specs.Str.{bytes_eq}
use Rattle.std.proofs.lemmas.Bool.{eq-eqb}
use Rattle.base64.specs.Engines.{standard}
use Rattle.base64.specs.GeneralPurpose.{decode_of}
use Rattle.hex.specs.Hex.{decode_sized}
use Rattle.hex.specs.declared.error.FromHexError.{FromHexError}
use Rattle.hex.proofs.HexLemmas.{decode_sized-ok, decode_sized-twice, decode_of-ok}
use Rattle.bson_values.specs.declared.pairs.Pair.{Pair}
use Rattle.bson_values.specs.declared.value.Value.{Value, map-Value, roll-Value}
use Rattle.bson_values.specs.declared.value.Value.TheOpen.{Value-F}
use Rattle.bson_values.specs.declared.value.Value.TheFolds.{fold-roll-Value}
use Rattle.bson_values.specs.declared.value.Value.TheVariants as value
use Rattle.jsonb_contain.specs.declared.value.Json.{Json, roll-Json}
use Rattle.jsonb_contain.specs.declared.value.Json.TheOpen.{Json-F}
use Rattle.jsonb_contain.specs.declared.value.Json.TheVariants as json
use Rattle.std_words.proofs.Tests.{and-both}
use Rattle.typed_json.specs.Plain.{base64_text, hex_text, plain_in, plain_of}
use Rattle.typed_json.specs.Row.{Tag, alone, parted, field, kind_in, kind_of}
use Rattle.typed_json.specs.Typed.{is_i32, is_i64, is_u64, is_u8, are_bytes, typed_in, is_typed}
use Rattle.typed_json.specs.Leaf.{only_if, number_value, text_value, parted_value, id_in, id_value, bytes_in, bytes_value, binary_value}
use Rattle.typed_json.specs.Leaf.{regex_value, is_this, tells, is_alone, part_of, leaf_of, text_of, whole_of}
use Rattle.typed_json.proofs.Distinct.{bytes_same, and_true}
use Rattle.typed_json.proofs.LeafAgain.{below_bytes}
use Rattle.typed_json.proofs.Layers.{text_back, whole_back, both_gave, passed}

-- a value that is this, and holds that, with its parts of their types
pub record IsOf (kind plain : Json) (it : Value) : Type 0 where
  pub kind_is : kind_of it ≡ kind
  pub plain_is : plain_of it ≡ plain
  pub typed : is_typed it ≡ true

-- a value by its layer
pub of_layer : (layer : Value-F Value) (made it : Value) (kind plain : Json) → roll-Value layer ≡ made → made ≡ it
    → kind_in (map-Value Value Json kind_of layer) ≡ kind → plain_in (map-Value Value Json plain_of layer) ≡ plain
    → typed_in (map-Value Value Bool is_typed layer) ≡ true → IsOf kind plain it
of_layer layer made it kind plain rolled is kind_is plain_is typed =
    subst (IsOf kind plain) (rolled ∙ is) (record {
      kind_is = fold-roll-Value Json kind_in layer ∙ kind_is;
      plain_is = fold-roll-Value Json plain_in layer ∙ plain_is;
      typed = fold-roll-Value Bool typed_in layer ∙ typed;
    })

-- ---- steps

only_gave : {A : Type 0} (test : Bool) (it last : A) → only_if test it ≡ Some last → (test ≡ true) × (it ≡ last)
only_gave true it last is = (refl, cc is)
only_gave false it last is = absurd (cc is)

branch_gave : {A : Type 0} (test : Bool) (one other : Option A) (last : A) → (if test then one else other) ≡ Some last
    → ((test ≡ true) × (one ≡ Some last)) ⊎ (other ≡ Some last)
branch_gave true one other last is = inl (refl, is)
branch_gave false one other last is = inr is

pub map_gave : {A B : Type 0} (made : A → B) (found : Option A) (last : B) → option_map made found ≡ Some last
    → (it : A) × (found ≡ Some it) × (made it ≡ last)
map_gave made None last is = absurd (cc is)
map_gave made (Some it) last is = (it, refl, cc is)

-- ---- tags

is_this_back : (name : List ℕ) (found : Option (List ℕ)) → is_this name found ≡ true → found ≡ Some name
is_this_back name None is = absurd (cc is)
is_this_back name (Some other) is = ap Some (bytes_same other name is)

pub pair_is : (pair : Pair Json) (name : List ℕ) (held : Json) → pair.name ≡ name → pair.value ≡ held → pair ≡ field name held
pair_is pair name held named holds = λ i. record { name = named i; value = holds i }

tells_back : (name : List ℕ) (pair : Pair Json) → tells name pair ≡ true → pair ≡ field (codes "t") (json.Text name)
tells_back name pair is =
    let parts = and-both (bytes_eq pair.name (codes "t")) (is_this name (text_of pair.value)) is in
    pair_is pair (codes "t") (json.Text name) (bytes_same pair.name (codes "t") parts.0)
    (text_back pair.value name (is_this_back name (text_of pair.value) parts.1))

pub alone_back : (name : List ℕ) (tag : Tag) → is_alone name tag ≡ true → alone name ≡ tag
alone_back name [] is = absurd (cc is)
alone_back name (last ∷ []) is = ap (λ (pair : Pair Json). pair ∷ []) (sym (tells_back name last is))
alone_back name (first ∷ (last ∷ more)) is = absurd (cc is)

pub part_back : (name part : List ℕ) (tag : Tag) (more : Json) → part_of name part tag ≡ Some more → parted name part more ≡ tag
part_back name part [] more is = absurd (cc is)
part_back name part (last ∷ []) more is = absurd (cc is)
part_back name part (first ∷ (last ∷ [])) more is =
    let gave = passed (bytes_eq first.name part && tells name last) (Some first.value) more is in
    let tests = and-both (bytes_eq first.name part) (tells name last) gave.0 in
    let held : first.value ≡ more = cc gave.1 in
    sym (ap (λ (pair : Pair Json). pair ∷ last ∷ []) (pair_is first part more (bytes_same first.name part tests.0) held)
    ∙ ap (λ (pair : Pair Json). field part more ∷ pair ∷ []) (tells_back name last tests.1))
part_back name part (first ∷ (last ∷ (next ∷ more))) it is = absurd (cc is)

-- ---- numbers

unsigned_back : (n : ℤ) → int_le (pos 0) n ≡ true → pos (unsigned_abs n) ≡ n
unsigned_back (pos n) is = refl
unsigned_back (negsuc n) is = absurd (cc is)

u64_back : (n : ℤ) → is_u64 n ≡ true → pos (unsigned_abs n) ≡ n
u64_back n is = unsigned_back n (and-both (int_le (pos 0) n) (int_le n (pos 18446744073709551615)) is).0

u8_back : (n : ℤ) → is_u8 n ≡ true → pos (unsigned_abs n) ≡ n
u8_back n is = unsigned_back n (and-both (int_le (pos 0) n) (int_le n (pos 255)) is).0

module _ (tag : Tag) (n : ℤ) (it : Value) where
  int_back : is_alone (codes "int") tag ≡ true → only_if (is_i32 n) (value.Int n) ≡ Some it
      → IsOf (json.Object tag) (roll-Json (Json-F.Whole n)) it
  int_back type is =
      let gave = only_gave (is_i32 n) (value.Int n) it is in
      of_layer (Value-F.Int n) (value.Int n) it _ _ (value.rolls-Int n) gave.1 (ap json.Object (alone_back (codes "int") tag type))
      (sym (json.rolls-Whole n)) gave.0

  long_back : is_alone (codes "long") tag ≡ true → only_if (is_i64 n) (value.Long n) ≡ Some it
      → IsOf (json.Object tag) (roll-Json (Json-F.Whole n)) it
  long_back type is =
      let gave = only_gave (is_i64 n) (value.Long n) it is in
      of_layer (Value-F.Long n) (value.Long n) it _ _ (value.rolls-Long n) gave.1 (ap json.Object (alone_back (codes "long") tag type))
      (sym (json.rolls-Whole n)) gave.0

  date_back : is_alone (codes "date") tag ≡ true → only_if (is_i64 n) (value.Date n) ≡ Some it
      → IsOf (json.Object tag) (roll-Json (Json-F.Whole n)) it
  date_back type is =
      let gave = only_gave (is_i64 n) (value.Date n) it is in
      of_layer (Value-F.Date n) (value.Date n) it _ _ (value.rolls-Date n) gave.1 (ap json.Object (alone_back (codes "date") tag type))
      (sym (json.rolls-Whole n)) gave.0

  stamp_back : is_alone (codes "timestamp") tag ≡ true → only_if (is_u64 n) (value.Stamp (unsigned_abs n)) ≡ Some it
      → IsOf (json.Object tag) (roll-Json (Json-F.Whole n)) it
  stamp_back type is =
      let gave = only_gave (is_u64 n) (value.Stamp (unsigned_abs n)) it is in
      let same = u64_back n gave.0 in
      of_layer (Value-F.Stamp (unsigned_abs n)) (value.Stamp (unsigned_abs n)) it _ _ (value.rolls-Stamp (unsigned_abs n)) gave.1
      (ap json.Object (alone_back (codes "timestamp") tag type)) (ap json.Whole same ∙ sym (json.rolls-Whole n)) (ap is_u64 same ∙ gave.0)

  pub number_back : number_value tag n ≡ Some it → IsOf (json.Object tag) (roll-Json (Json-F.Whole n)) it
  number_back is =
      elim (branch_gave (is_alone (codes "int") tag) _ _ it is) [
        | inl int ↦ int_back int.0 int.1
        | inr no_int ↦
            elim (branch_gave (is_alone (codes "long") tag) _ _ it no_int) [
              | inl long ↦ long_back long.0 long.1
              | inr no_long ↦
                  elim (branch_gave (is_alone (codes "date") tag) _ _ it no_long) [
                    | inl date ↦ date_back date.0 date.1
                    | inr no_date ↦
                        let last = passed (is_alone (codes "timestamp") tag)
                        (only_if (is_u64 n) (value.Stamp (unsigned_abs n))) it no_date in
                        stamp_back last.0 last.1
                  ]
            ]
      ]

-- ---- texts

id_typed : (text id : List ℕ) → decode_sized text 12 ≡ Ok id → (length id == 12 && are_bytes id) ≡ true
id_typed text id is =
    let twice = decode_sized-ok text 12 id is in
    let told = decode_of-ok text id (sym (decode_sized-twice text 12 twice) ∙ is) in
    and_true (length id == 12) (are_bytes id) (eq-eqb (length id) 12 (omega (arith, twice, told.2))) (below_bytes id told.3)

id_gave : (text : List ℕ) (found : Result (List ℕ) FromHexError) (it : Value) → id_in text found ≡ Some it
    → (id : List ℕ) × (found ≡ Ok id) × (bytes_eq (hex_text id) text ≡ true) × (value.Id id ≡ it)
id_gave text (Ok id) it is = let gave = only_gave (bytes_eq (hex_text id) text) (value.Id id) it is in (id, refl, gave.0, gave.1)
id_gave text (Err e) it is = absurd (cc is)

bytes_gave : {E : Type 0} (text : List ℕ) (found : Result (List ℕ) E) (bytes : List ℕ) → bytes_in text found ≡ Some bytes
    → (base64_text bytes ≡ text) × (are_bytes bytes ≡ true)
bytes_gave text (Ok found) bytes is =
    let gave = only_gave (bytes_eq (base64_text found) text && are_bytes found) found bytes is in
    let tests = and-both (bytes_eq (base64_text found) text) (are_bytes found) gave.0 in
    (ap base64_text (sym gave.1) ∙ bytes_same (base64_text found) text tests.0, ap are_bytes (sym gave.1) ∙ tests.1)
bytes_gave text (Err e) bytes is = absurd (cc is)

parted_gave : (text : List ℕ) (one other : Option Json) (it : Value) → parted_value text one other ≡ Some it
    → ((more : Json) × (one ≡ Some more) × (binary_value text more ≡ Some it)) ⊎
    ((more : Json) × (other ≡ Some more) × (regex_value text more ≡ Some it))
parted_gave text (Some more) other it is = inl (more, refl, is)
parted_gave text None (Some more) it is = inr (more, refl, is)
parted_gave text None None it is = absurd (cc is)

module _ (tag : Tag) (text : List ℕ) (it : Value) where
  str_back : is_alone (codes "string") tag ≡ true → Some (value.Str text) ≡ Some it
      → IsOf (json.Object tag) (roll-Json (Json-F.Text text)) it
  str_back type is =
      let same : value.Str text ≡ it = cc is in
      of_layer (Value-F.Str text) (value.Str text) it _ _ (value.rolls-Str text) same
      (ap json.Object (alone_back (codes "string") tag type)) (sym (json.rolls-Text text)) refl

  id_back : is_alone (codes "objectId") tag ≡ true → id_value text ≡ Some it → IsOf (json.Object tag) (roll-Json (Json-F.Text text)) it
  id_back type is =
      let gave = id_gave text (decode_sized text 12) it is in
      of_layer (Value-F.Id gave.0) (value.Id gave.0) it _ _ (value.rolls-Id gave.0) gave.3
      (ap json.Object (alone_back (codes "objectId") tag type))
      (ap json.Text (bytes_same (hex_text gave.0) text gave.2) ∙ sym (json.rolls-Text text)) (id_typed text gave.0 gave.1)

  bin_back : (more : Json) → part_of (codes "binData") (codes "s") tag ≡ Some more → binary_value text more ≡ Some it
      → IsOf (json.Object tag) (roll-Json (Json-F.Text text)) it
  bin_back more part is =
      let number = both_gave (whole_of more) (λ (n : ℤ).
      option_and_then (λ (all : List ℕ). only_if (is_u8 n) (value.Bin (record { subtype = unsigned_abs n; bytes = all })))
      (bytes_value text)) it is in
      let bytes = both_gave (bytes_value text)
      (λ (all : List ℕ). only_if (is_u8 number.0) (value.Bin (record { subtype = unsigned_abs number.0; bytes = all }))) it number.2 in
      let gave = only_gave (is_u8 number.0) (value.Bin (record { subtype = unsigned_abs number.0; bytes = bytes.0 })) it bytes.2 in
      let told = bytes_gave text (decode_of standard text) bytes.0 bytes.1 in
      let same = u8_back number.0 gave.0 in
      let more_is : json.Whole (pos (unsigned_abs number.0)) ≡ more = ap json.Whole same ∙ sym (whole_back more number.0 number.1) in
      of_layer (Value-F.Bin (record { subtype = unsigned_abs number.0; bytes = bytes.0 }))
      (value.Bin (record { subtype = unsigned_abs number.0; bytes = bytes.0 })) it _ _
      (value.rolls-Bin (record { subtype = unsigned_abs number.0; bytes = bytes.0 })) gave.1
      (ap (λ (m : Json). json.Object (parted (codes "binData") (codes "s") m)) more_is
      ∙ ap json.Object (part_back (codes "binData") (codes "s") tag more part))
      (ap json.Text told.0 ∙ sym (json.rolls-Text text))
      (and_true (is_u8 (pos (unsigned_abs number.0))) (are_bytes bytes.0) (ap is_u8 same ∙ gave.0) told.1)

  regex_back : (more : Json) → part_of (codes "regex") (codes "o") tag ≡ Some more → regex_value text more ≡ Some it
      → IsOf (json.Object tag) (roll-Json (Json-F.Text text)) it
  regex_back more part is =
      let gave = map_gave (λ (options : List ℕ). value.Regex (record { pattern = text; options = options })) (text_of more) it is in
      of_layer (Value-F.Regex (record { pattern = text; options = gave.0 }))
      (value.Regex (record { pattern = text; options = gave.0 })) it _ _
      (value.rolls-Regex (record { pattern = text; options = gave.0 })) gave.2
      (ap (λ (m : Json). json.Object (parted (codes "regex") (codes "o") m)) (sym (text_back more gave.0 gave.1))
      ∙ ap json.Object (part_back (codes "regex") (codes "o") tag more part))
      (sym (json.rolls-Text text)) refl

  pub value_back : text_value tag text ≡ Some it → IsOf (json.Object tag) (roll-Json (Json-F.Text text)) it
  value_back is =
      elim (branch_gave (is_alone (codes "string") tag) _ _ it is) [
        | inl string ↦ str_back string.0 string.1
        | inr no_string ↦
            elim (branch_gave (is_alone (codes "objectId") tag) _ _ it no_string) [
              | inl id ↦ id_back id.0 id.1
              | inr no_id ↦
                  elim (parted_gave text (part_of (codes "binData") (codes "s") tag) (part_of (codes "regex") (codes "o") tag) it no_id) [
                    | inl binary ↦ bin_back binary.0 binary.1 binary.2
                    | inr regex ↦ regex_back regex.0 regex.1 regex.2
                  ]
            ]
      ]

-- ---- all

null_back : (tag : Tag) (it : Value) → only_if (is_alone (codes "null") tag) value.Null ≡ Some it
    → IsOf (json.Object tag) (roll-Json Json-F.Null) it
null_back tag it is =
    let gave = only_gave (is_alone (codes "null") tag) value.Null it is in
    of_layer Value-F.Null value.Null it _ _ value.rolls-Null gave.1 (ap json.Object (alone_back (codes "null") tag gave.0))
    (sym json.rolls-Null) refl

bool_back : (tag : Tag) (truth : Bool) (it : Value) → only_if (is_alone (codes "bool") tag) (value.Bool truth) ≡ Some it
    → IsOf (json.Object tag) (roll-Json (Json-F.Bool truth)) it
bool_back tag truth it is =
    let gave = only_gave (is_alone (codes "bool") tag) (value.Bool truth) it is in
    of_layer (Value-F.Bool truth) (value.Bool truth) it _ _ (value.rolls-Bool truth) gave.1
    (ap json.Object (alone_back (codes "bool") tag gave.0)) (sym (json.rolls-Bool truth)) refl

-- a value that holds no others
pub leaf_back : (tag : Tag) (layer : Json-F Json) (it : Value) → leaf_of tag layer ≡ Some it → IsOf (json.Object tag) (roll-Json layer) it
leaf_back tag Json-F.Null it is = null_back tag it is
leaf_back tag (Json-F.Bool truth) it is = bool_back tag truth it is
leaf_back tag (Json-F.Whole n) it is = number_back tag n it is
leaf_back tag (Json-F.Text text) it is = value_back tag text it is
leaf_back tag (Json-F.Array items) it is = absurd (cc is)
leaf_back tag (Json-F.Object pairs) it is = absurd (cc is)
