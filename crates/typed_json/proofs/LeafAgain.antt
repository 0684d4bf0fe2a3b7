-- A value that holds no others is told by its tag and its plain JSON.
use Rattle.std.proofs.Common.{◌≡◌, ◌∙◌, ◌<◌, ℕ, zero, suc, Bool, true, ◌&&◌, Option, None, Some, List, [], ◌∷◌, length, refl}
use Rattle.std.proofs.Common.{ap, arith}
use Rattle.std.specs.Prelude.{ℤ, codes, pos, option_and_then, option_map, Ok, slice_index, int_le, unsigned_abs}
use Rattle.std.specs.Str.{bytes_eq}
use Rattle.std.proofs.lemmas.Grind.{common_steps}
use Rattle.base64.specs.Engines.{standard}
use Rattle.base64.specs.GeneralPurpose.{decode_of}
use Rattle.base64.proofs.EngineFacts.{decode_of-encode_of}
use Rattle.hex.specs.Hex.{decode_sized}
use Rattle.hex.proofs.HexLemmas.{decode_sized-encode_lower}
use Rattle.bson_values.specs.declared.value.Binary.{Binary}
use Rattle.bson_values.specs.declared.value.Regex.{Regex}
use Rattle.bson_values.specs.declared.value.Value.TheVariants as value
use Rattle.jsonb_contain.specs.declared.value.Json.{Json}
use Rattle.jsonb_contain.specs.declared.value.Json.TheOpen.{Json-F}
use Rattle.jsonb_contain.specs.declared.value.Json.TheVariants as json
use Rattle.std_words.proofs.Tests.{and-both}
use Rattle.typed_json.specs.Plain.{base64_text, hex_text}
use Rattle.typed_json.specs.Row.{alone, parted}
use Rattle.typed_json.specs.Typed.{is_i32, is_i64, is_u64, is_u8, are_bytes}
use Rattle.typed_json.specs.Leaf.{only_if, parted_value, id_in, bytes_in, bytes_value, binary_value}
use Rattle.typed_json.specs.Leaf.{part_of, leaf_of}
use Rattle.typed_json.proofs.Distinct.{same_bytes, and_true}
use Rattle.typed_json.proofs.Layers.{out_text, text_is, whole_is}

-- ---- bytes

byte_below : (byte : ℕ) → is_u8 (pos byte) ≡ true → byte < 256
byte_below byte is = let parts = and-both (int_le (pos 0) (pos byte)) (int_le (pos byte) (pos 255)) is in grind (arith, common_steps)

pub bytes_below : (bytes : List ℕ) → are_bytes bytes ≡ true → (i : ℕ) → slice_index bytes i < 256
bytes_below [] are i = omega arith
bytes_below (byte ∷ bytes) are zero = byte_below byte (and-both (is_u8 (pos byte)) (are_bytes bytes) are).0
bytes_below (byte ∷ bytes) are (suc i) = bytes_below bytes (and-both (is_u8 (pos byte)) (are_bytes bytes) are).1 i

base64_again : (bytes : List ℕ) → are_bytes bytes ≡ true → decode_of standard (base64_text bytes) ≡ Ok bytes
unfolding base64_text
base64_again bytes are = decode_of-encode_of standard bytes refl (bytes_below bytes are)

hex_again : (id : List ℕ) → length id ≡ 12 → are_bytes id ≡ true → decode_sized (hex_text id) 12 ≡ Ok id
unfolding hex_text
hex_again id twelve are = decode_sized-encode_lower id 12 twelve (bytes_below id are)

where_true : {A : Type 0} (test : Bool) (it : A) → test ≡ true → only_if test it ≡ Some it
where_true test it is = rw is refl

-- ---- each type

pub null_again : leaf_of (alone (codes "null")) Json-F.Null ≡ Some value.Null
null_again = rw (out_text (codes "null")) refl

pub bool_again : (truth : Bool) → leaf_of (alone (codes "bool")) (Json-F.Bool truth) ≡ Some (value.Bool truth)
bool_again truth = rw (out_text (codes "bool")) refl

pub int_again : (n : ℤ) → is_i32 n ≡ true → leaf_of (alone (codes "int")) (Json-F.Whole n) ≡ Some (value.Int n)
int_again n fits = rw (out_text (codes "int")) (where_true (is_i32 n) (value.Int n) fits)

pub long_again : (n : ℤ) → is_i64 n ≡ true → leaf_of (alone (codes "long")) (Json-F.Whole n) ≡ Some (value.Long n)
long_again n fits = rw (out_text (codes "long")) (where_true (is_i64 n) (value.Long n) fits)

pub date_again : (n : ℤ) → is_i64 n ≡ true → leaf_of (alone (codes "date")) (Json-F.Whole n) ≡ Some (value.Date n)
date_again n fits = rw (out_text (codes "date")) (where_true (is_i64 n) (value.Date n) fits)

pub stamp_again : (stamp : ℕ) → is_u64 (pos stamp) ≡ true
    → leaf_of (alone (codes "timestamp")) (Json-F.Whole (pos stamp)) ≡ Some (value.Stamp stamp)
stamp_again stamp fits = rw (out_text (codes "timestamp")) (where_true (is_u64 (pos stamp)) (value.Stamp stamp) fits)

pub str_again : (text : List ℕ) → leaf_of (alone (codes "string")) (Json-F.Text text) ≡ Some (value.Str text)
str_again text = rw (out_text (codes "string")) refl

pub id_again : (id : List ℕ) → length id ≡ 12 → are_bytes id ≡ true
    → leaf_of (alone (codes "objectId")) (Json-F.Text (hex_text id)) ≡ Some (value.Id id)
id_again id twelve are =
    rw (out_text (codes "objectId"))
    (ap (id_in (hex_text id)) (hex_again id twelve are)
    ∙ where_true (bytes_eq (hex_text id) (hex_text id)) (value.Id id) (same_bytes (hex_text id)))

-- what a binary has beside its type
binary_part : (more : Json) → part_of (codes "binData") (codes "s") (parted (codes "binData") (codes "s") more) ≡ Some more
binary_part more = rw (out_text (codes "binData")) refl

regex_part : (more : Json) → part_of (codes "regex") (codes "o") (parted (codes "regex") (codes "o") more) ≡ Some more
regex_part more = rw (out_text (codes "regex")) refl

bytes_again : (bytes : List ℕ) → are_bytes bytes ≡ true → bytes_value (base64_text bytes) ≡ Some bytes
bytes_again bytes are =
    ap (bytes_in (base64_text bytes)) (base64_again bytes are)
    ∙ where_true (bytes_eq (base64_text bytes) (base64_text bytes) && are_bytes bytes) bytes
    (and_true (bytes_eq (base64_text bytes) (base64_text bytes)) (are_bytes bytes) (same_bytes (base64_text bytes)) are)

binary_held : (subtype : ℕ) (bytes : List ℕ) → is_u8 (pos subtype) ≡ true → are_bytes bytes ≡ true
    → binary_value (base64_text bytes) (json.Whole (pos subtype)) ≡ Some (value.Bin (record { subtype = subtype; bytes = bytes }))
binary_held subtype bytes small are =
    ap (option_and_then (λ (number : ℤ).
    option_and_then (λ (all : List ℕ). only_if (is_u8 number) (value.Bin (record { subtype = unsigned_abs number; bytes = all })))
    (bytes_value (base64_text bytes)))) (whole_is (pos subtype))
    ∙ ap (option_and_then (λ (all : List ℕ). only_if (is_u8 (pos subtype)) (value.Bin (record { subtype = subtype; bytes = all }))))
    (bytes_again bytes are)
    ∙ where_true (is_u8 (pos subtype)) (value.Bin (record { subtype = subtype; bytes = bytes })) small

pub bin_again : (it : Binary) → is_u8 (pos it.subtype) ≡ true → are_bytes it.bytes ≡ true
    → leaf_of (parted (codes "binData") (codes "s") (json.Whole (pos it.subtype))) (Json-F.Text (base64_text it.bytes)) ≡ Some
    (value.Bin it)
bin_again it small are =
    let tag = parted (codes "binData") (codes "s") (json.Whole (pos it.subtype)) in
    ap (λ (more : Option Json). parted_value (base64_text it.bytes) more (part_of (codes "regex") (codes "o") tag))
    (binary_part (json.Whole (pos it.subtype)))
    ∙ binary_held it.subtype it.bytes small are

pub regex_again : (it : Regex) → leaf_of (parted (codes "regex") (codes "o") (json.Text it.options)) (Json-F.Text it.pattern) ≡ Some
    (value.Regex it)
regex_again it =
    ap (parted_value it.pattern None) (regex_part (json.Text it.options))
    ∙ ap (option_map (λ (options : List ℕ). value.Regex (record { pattern = it.pattern; options = options }))) (text_is it.options)

-- ---- and back

byte_fits : (byte : ℕ) → byte < 256 → is_u8 (pos byte) ≡ true
byte_fits byte below = and_true (int_le (pos 0) (pos byte)) (int_le (pos byte) (pos 255)) (grind (arith, common_steps))
    (grind (arith, common_steps))

pub below_bytes : (bytes : List ℕ) → ((i : ℕ) → slice_index bytes i < 256) → are_bytes bytes ≡ true
below_bytes [] below = refl
below_bytes (byte ∷ bytes) below =
    and_true (is_u8 (pos byte)) (are_bytes bytes) (byte_fits byte (below 0)) (below_bytes bytes (λ i. below (suc i)))

-- what was decoded is what the text is of
pub bytes_found : (text bytes : List ℕ) → decode_of standard text ≡ Ok bytes → text ≡ base64_text bytes
    → ((i : ℕ) → slice_index bytes i < 256)
    → bytes_value text ≡ Some bytes
bytes_found text bytes decoded spelled below =
    ap (bytes_in text) decoded
    ∙ where_true (bytes_eq (base64_text bytes) text && are_bytes bytes) bytes
    (and_true (bytes_eq (base64_text bytes) text) (are_bytes bytes) (ap (bytes_eq (base64_text bytes)) spelled
    ∙ same_bytes (base64_text bytes)) (below_bytes bytes below))
