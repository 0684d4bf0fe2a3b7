-- Values that hold no values: what is read is spelled so, and what is spelled so is read.
use Rattle.std.proofs.Common.{◌≡◌, ℕ, ◌+◌, ◌^◌, ◌<◌, Bool, true, false, eqb, cond, List, [], ◌∷◌, ◌++◌, length, length-append, drop, refl}
use Rattle.std.proofs.Common.{sym, ap, subst, ◌∙◌, arith, ◌⊎◌, inl, inr}
use Rattle.std.specs.Prelude.{Result, Ok, Err, slice_index}
use Rattle.std.specs.Int.{w32, w64, cast_signed}
use Rattle.std.specs.Str.{IsUtf8}
use Rattle.std.proofs.lemmas.Bool.{eqb-true}
use Rattle.std.proofs.lemmas.Int.{ints, of_z-to_z}
use denote.Hole.Carrier.{out}
use Rattle.bson_values.specs.declared.pairs.Pair.{Pair}
use Rattle.bson_values.specs.declared.value.Binary.{Binary}
use Rattle.bson_values.specs.declared.value.Regex.{Regex}
use Rattle.bson_values.specs.declared.value.Value.{Value}
use Rattle.bson_values.specs.declared.value.Value.TheViews.{out-Value}
use Rattle.bson_values.specs.declared.value.Value.TheVariants as value
use Rattle.bson_spelling.specs.declared.form.Form.TheVariants.{Bson}
use Rattle.bson_spelling.specs.Spelling.{int32, int64, cstring, string, bool, binary}
use Rattle.bson_wire.specs.Grammar.{IsString, IsInt, IsLong, IsValue}
use Rattle.std_words.specs.Steps.{◌>>=◌}
use Rattle.bson_wire.specs.Reading.{number_at, long_at, length_at, part_at, ended_at, text_of, name_at, text_at, string_at, binary_at}
use Rattle.bson_wire.specs.Reading.{id_at, bool_at, regex_at, int_at, date_at, stamp_at, int64_at, scalar_at}
use Rattle.std_words.proofs.Faults.{bind_ok, at_found}
use Rattle.std_words.proofs.Bytes.{IsBytes, Takes, regrouped}
use Rattle.bson_wire.proofs.Texts.{text_takes}
use Rattle.bson_wire.proofs.Numbers.{number_takes, long_takes, length_takes}
use Rattle.bson_wire.proofs.Names.{name_takes, part_takes, ended_takes}

-- ---- what one byte and more are

head_first : (bytes : List ℕ) → 0 < length bytes → bytes ≡ slice_index bytes 0 ∷ drop 1 bytes
head_first [] some = absurd (omega arith)
head_first (byte ∷ bytes) some = refl

alone : (bytes : List ℕ) → length bytes ≡ 1 → bytes ≡ slice_index bytes 0 ∷ []
alone [] one = absurd (omega arith)
alone (byte ∷ []) one = refl
alone (byte ∷ other ∷ bytes) one = absurd (omega (arith, one))

length-after : (bytes : List ℕ) (n : ℕ) → length bytes ≡ n + 1 → length (drop 1 bytes) ≡ n
length-after [] n is = absurd (omega arith)
length-after (byte ∷ bytes) n is = omega (arith, is)

-- which way a test went
pub chosen : {A : Type 0} (test : Bool) (one other found : A) → cond test one other ≡ found
    → ((test ≡ true) × (one ≡ found)) ⊎ ((test ≡ false) × (other ≡ found))
chosen true one other found is = inl (refl, is)
chosen false one other found is = inr (refl, is)

-- one type byte more
pub by_type : {A : Type 0} (Is : ℕ → Type 0) (this code : ℕ) (one other : Result A ℕ) (found : A)
    → cond (eqb code this) one other ≡ Ok found → (one ≡ Ok found → Is this) → (other ≡ Ok found → Is code) → Is code
by_type Is this code one other found is here there =
    elim (chosen (eqb code this) one other (Ok found) is) [
      | inl is_yes ↦ subst Is (sym (eqb-true code this is_yes.0)) (here is_yes.1)
      | inr is_no ↦ there is_no.1
    ]

-- ---- strings

-- a stated length, that many bytes with their 00, and the rest are a string and the rest
string_made : (bytes : List ℕ) (stated : ℕ) (after part content rest text : List ℕ) → bytes ≡ int32 stated ++ after → after ≡ part ++ rest
    → part ≡ cstring content → length part ≡ stated → content ≡ text → bytes ≡ string Bson text ++ rest
string_made bytes stated after part content rest text front parted ended counted same =
    let len : length content + 1 ≡ stated = omega (arith, counted, ap length ended, length-append content (0 ∷ [])) in
    let spelling : int32 stated ++ part ≡ string Bson text = ap (λ (it : List ℕ). int32 stated ++ it) ended
    ∙ ap (λ (n : ℕ). int32 n ++ cstring content) (sym len) ∙ ap (string Bson) same in
    regrouped bytes (int32 stated) after part rest front parted ∙ ap (λ (it : List ℕ). it ++ rest) spelling

text_small : (stated : ℕ) (part content text : List ℕ) → part ≡ cstring content → length part ≡ stated → stated < 2 ^ 31 → content ≡ text
    → length text + 1 < 2 ^ 31
text_small stated part content text ended counted small same =
    omega (arith, small, counted, ap length same, ap length ended, length-append content (0 ∷ []))

is_string : (text : List ℕ) → IsUtf8 text → length text + 1 < 2 ^ 31 → IsString (string Bson text) text
is_string text utf8 small = record { utf8 = utf8; small = small; whole = refl }

pub text_part_takes : (place : ℕ) (bytes : List ℕ) (found : List ℕ × List ℕ) → IsBytes bytes → text_at place bytes ≡ Ok found
    → (bytes ≡ string Bson found.0 ++ found.1) × IsString (string Bson found.0) found.0
unfolding text_at
text_part_takes place bytes found fits is =
    let number = bind_ok (length_at place 1 bytes) (λ n. part_at place n.0 n.1 >>= λ part. ended_at place part.0 >>=
    λ content. text_of place content >>= λ text. Ok (text, part.1)) found is in
    let part = bind_ok (part_at place number.0.0 number.0.1) (λ part. ended_at place part.0 >>= λ content. text_of place content >>=
    λ text. Ok (text, part.1)) found number.2 in
    let content = bind_ok (ended_at place part.0.0) (λ content. text_of place content >>= λ text. Ok (text, part.0.1)) found part.2 in
    let text = bind_ok (text_of place content.0) (λ text. Ok (text, part.0.1)) found content.2 in
    let stated = length_takes place 1 bytes number.0 fits number.1 in
    let parted = part_takes place number.0.0 number.0.1 part.0 part.1 in
    let ended = ended_takes place part.0.0 content.0 (omega arith) content.1 in
    let utf8 = text_takes place content.0 text.0 text.1 in
    let whole = string_made bytes number.0.0 number.0.1 part.0.0 content.0 part.0.1 text.0 stated.0 parted.0 ended.0 parted.1 utf8.0 in
    let small = text_small number.0.0 part.0.0 content.0 text.0 ended.0 parted.1 stated.2 utf8.0 in
    at_found (λ it. (bytes ≡ string Bson it.0 ++ it.1) × IsString (string Bson it.0) it.0) (text.0, part.0.1) found text.2
    (whole, is_string text.0 utf8.1 small)

module _ (IsDocument : List ℕ → List (Pair Value) → Type 0) where
  -- the value behind a type byte
  abbrev pub IsHeld : ℕ → List ℕ → Value → Type 0
  IsHeld code content it = IsValue IsDocument code content (out-Value it)

  abbrev pub Held : ℕ → List ℕ → Value × List ℕ → Type 0
  Held code bytes found = Takes (IsHeld code) bytes found

  string_takes : (place : ℕ) (bytes : List ℕ) (found : Value × List ℕ) → IsBytes bytes → string_at place bytes ≡ Ok found
      → Held 2 bytes found
  unfolding string_at out-Value out
  string_takes place bytes found fits is =
      let text = bind_ok (text_at place bytes) (λ text. Ok (value.Str text.0, text.1)) found is in
      let taken = text_part_takes place bytes text.0 fits text.1 in
      at_found (Held 2 bytes) (value.Str text.0.0, text.0.1) found text.2 (string Bson text.0.0, taken.0, (refl, taken.1))

  -- ---- binaries

  binary_takes : (place : ℕ) (bytes : List ℕ) (found : Value × List ℕ) → IsBytes bytes → binary_at place bytes ≡ Ok found
      → Held 5 bytes found
  unfolding binary_at out-Value out
  binary_takes place bytes found fits is =
      let number = bind_ok (length_at place 0 bytes) (λ n. part_at place (n.0 + 1) n.1 >>=
      λ part. Ok (value.Bin (record { subtype = slice_index part.0 0; bytes = drop 1 part.0 }), part.1)) found is in
      let part = bind_ok (part_at place (number.0.0 + 1) number.0.1)
      (λ part. Ok (value.Bin (record { subtype = slice_index part.0 0; bytes = drop 1 part.0 }), part.1)) found number.2 in
      let stated = length_takes place 0 bytes number.0 fits number.1 in
      let parted = part_takes place (number.0.0 + 1) number.0.1 part.0 part.1 in
      let len = length-after part.0.0 number.0.0 parted.1 in
      let it : Binary = record { subtype = slice_index part.0.0 0; bytes = drop 1 part.0.0 } in
      let spelling : int32 number.0.0 ++ part.0.0 ≡ binary Bson it.subtype it.bytes =
      ap (λ (n : ℕ). int32 n ++ part.0.0) (sym len) ∙ ap (λ (all : List ℕ). int32 (length (drop 1 part.0.0)) ++ all)
      (head_first part.0.0 (omega arith)) in
      let whole = regrouped bytes (int32 number.0.0) number.0.1 part.0.0 part.0.1 stated.0 parted.0
      ∙ ap (λ (all : List ℕ). all ++ part.0.1) spelling in
      at_found (Held 5 bytes) (value.Bin it, part.0.1) found part.2
      (binary Bson it.subtype it.bytes, whole, (refl, record { small = omega arith; whole = refl }))

  -- ---- the others

  id_takes : (place : ℕ) (bytes : List ℕ) (found : Value × List ℕ) → id_at place bytes ≡ Ok found → Held 7 bytes found
  unfolding id_at out-Value out
  id_takes place bytes found is =
      let part = bind_ok (part_at place 12 bytes) (λ part. Ok (value.Id part.0, part.1)) found is in
      let parted = part_takes place 12 bytes part.0 part.1 in
      at_found (Held 7 bytes) (value.Id part.0.0, part.0.1) found part.2 (part.0.0, parted.0, (refl, parted.1, refl))

  bool_made : (bytes part rest : List ℕ) (truth : Bool) → bytes ≡ part ++ rest → part ≡ bool truth → Held 8 bytes (value.Bool truth, rest)
  unfolding out-Value out
  bool_made bytes part rest truth whole is = (part, whole, (refl, is))

  bool_takes : (place : ℕ) (bytes : List ℕ) (found : Value × List ℕ) → bool_at place bytes ≡ Ok found → Held 8 bytes found
  unfolding bool_at
  bool_takes place bytes found is =
      let part = bind_ok (part_at place 1 bytes) (λ part. cond (eqb (slice_index part.0 0) 0) (Ok (value.Bool false, part.1))
      (cond (eqb (slice_index part.0 0) 1) (Ok (value.Bool true, part.1)) (Err place))) found is in
      let parted = part_takes place 1 bytes part.0 part.1 in
      let byte = slice_index part.0.0 0 in
      elim (chosen (eqb byte 0) (Ok (value.Bool false, part.0.1)) _ (Ok found) part.2) [
        | inl is_no ↦ at_found (Held 8 bytes) (value.Bool false, part.0.1) found is_no.1
            (bool_made bytes part.0.0 part.0.1 false parted.0 (alone part.0.0 parted.1 ∙ ap (λ (b : ℕ). b ∷ []) (eqb-true byte 0 is_no.0)))
        | inr other ↦ elim (chosen (eqb byte 1) (Ok (value.Bool true, part.0.1)) _ (Ok found) other.1) [
          | inl is_yes ↦ at_found (Held 8 bytes) (value.Bool true, part.0.1) found is_yes.1
              (bool_made bytes part.0.0 part.0.1 true parted.0 (alone part.0.0 parted.1
              ∙ ap (λ (b : ℕ). b ∷ []) (eqb-true byte 1 is_yes.0)))
          | inr neither ↦ absurd (cc neither.1)
        ]
      ]

  regex_takes : (place : ℕ) (bytes : List ℕ) (found : Value × List ℕ) → regex_at place bytes ≡ Ok found → Held 11 bytes found
  unfolding regex_at out-Value out
  regex_takes place bytes found is =
      let pattern = bind_ok (name_at place bytes) (λ pattern. name_at place pattern.1 >>=
      λ options. Ok (value.Regex (record { pattern = pattern.0; options = options.0 }), options.1)) found is in
      let options = bind_ok (name_at place pattern.0.1) (λ options. Ok
      (value.Regex (record { pattern = pattern.0.0; options = options.0 }), options.1)) found pattern.2 in
      let one = name_takes place bytes pattern.0 pattern.1 in
      let two = name_takes place pattern.0.1 options.0 options.1 in
      let it : Regex = record { pattern = pattern.0.0; options = options.0.0 } in
      let whole = regrouped bytes (cstring it.pattern) pattern.0.1 (cstring it.options) options.0.1 one.0 two.0 in
      at_found (Held 11 bytes) (value.Regex it, options.0.1) found options.2
      (cstring it.pattern ++ cstring it.options, whole, (refl, record { pattern = one.1; options = two.1; whole = refl }))

  int_takes : (place : ℕ) (bytes : List ℕ) (found : Value × List ℕ) → IsBytes bytes → int_at place bytes ≡ Ok found → Held 16 bytes found
  unfolding out-Value out
  int_takes place bytes found fits is =
      let bits = bind_ok (number_at place bytes) (λ n. Ok (value.Int (cast_signed w32 n.0), n.1)) found is in
      let taken = number_takes place bytes bits.0 fits bits.1 in
      let number : IsInt (int32 bits.0.0) (cast_signed w32 bits.0.0) =
      record { fits = omega (arith, ints, taken.1); whole = ap int32 (sym (of_z-to_z w32 bits.0.0 taken.1)) } in
      at_found (Held 16 bytes) (value.Int (cast_signed w32 bits.0.0), bits.0.1) found bits.2 (int32 bits.0.0, taken.0, (refl, number))

  is_long : (bits : ℕ) → bits < 2 ^ 64 → IsLong (int64 bits) (cast_signed w64 bits)
  is_long bits below = record { fits = omega (arith, ints); whole = ap int64 (sym (of_z-to_z w64 bits below)) }

  date_takes : (place : ℕ) (bytes : List ℕ) (found : Value × List ℕ) → IsBytes bytes → date_at place bytes ≡ Ok found → Held 9 bytes found
  unfolding out-Value out
  date_takes place bytes found fits is =
      let bits = bind_ok (long_at place bytes) (λ n. Ok (value.Date (cast_signed w64 n.0), n.1)) found is in
      let taken = long_takes place bytes bits.0 fits bits.1 in
      at_found (Held 9 bytes) (value.Date (cast_signed w64 bits.0.0), bits.0.1) found bits.2
      (int64 bits.0.0, taken.0, (refl, is_long bits.0.0 taken.1))

  long_value_takes : (place : ℕ) (bytes : List ℕ) (found : Value × List ℕ) → IsBytes bytes → int64_at place bytes ≡ Ok found
      → Held 18 bytes found
  unfolding out-Value out
  long_value_takes place bytes found fits is =
      let bits = bind_ok (long_at place bytes) (λ n. Ok (value.Long (cast_signed w64 n.0), n.1)) found is in
      let taken = long_takes place bytes bits.0 fits bits.1 in
      at_found (Held 18 bytes) (value.Long (cast_signed w64 bits.0.0), bits.0.1) found bits.2
      (int64 bits.0.0, taken.0, (refl, is_long bits.0.0 taken.1))

  stamp_takes : (place : ℕ) (bytes : List ℕ) (found : Value × List ℕ) → IsBytes bytes → stamp_at place bytes ≡ Ok found
      → Held 17 bytes found
  unfolding out-Value out
  stamp_takes place bytes found fits is =
      let bits = bind_ok (long_at place bytes) (λ n. Ok (value.Stamp n.0, n.1)) found is in
      let taken = long_takes place bytes bits.0 fits bits.1 in
      at_found (Held 17 bytes) (value.Stamp bits.0.0, bits.0.1) found bits.2
      (int64 bits.0.0, taken.0, (refl, record { fits = taken.1; whole = refl }))

  null_takes : (bytes : List ℕ) (found : Value × List ℕ) → ◌≡◌ {A = Result (Value × List ℕ) ℕ} (Ok (value.Null, bytes)) (Ok found)
      → Held 10 bytes found
  unfolding out-Value out
  null_takes bytes found is = at_found (Held 10 bytes) (value.Null, bytes) found is ([], refl, (refl, refl))

  -- ---- all of them

  by_code : (this code : ℕ) (one other : Result (Value × List ℕ) ℕ) (bytes : List ℕ) (found : Value × List ℕ)
      → cond (eqb code this) one other ≡ Ok found
      → (one ≡ Ok found → Held this bytes found) → (other ≡ Ok found → Held code bytes found) → Held code bytes found
  by_code this code one other bytes found is here there = by_type (λ c. Held c bytes found) this code one other found is here there

  pub scalar_takes : (place code : ℕ) (bytes : List ℕ) (found : Value × List ℕ) → IsBytes bytes → scalar_at place code bytes ≡ Ok found
      → Held code bytes found
  unfolding scalar_at
  scalar_takes place code bytes found fits is =
      by_code 2 code _ _ bytes found is (string_takes place bytes found fits)
      (λ is. by_code 5 code _ _ bytes found is (binary_takes place bytes found fits)
      (λ is. by_code 7 code _ _ bytes found is (id_takes place bytes found)
      (λ is. by_code 8 code _ _ bytes found is (bool_takes place bytes found)
      (λ is. by_code 9 code _ _ bytes found is (date_takes place bytes found fits)
      (λ is. by_code 10 code _ _ bytes found is (null_takes bytes found)
      (λ is. by_code 11 code _ _ bytes found is (regex_takes place bytes found)
      (λ is. by_code 16 code _ _ bytes found is (int_takes place bytes found fits)
      (λ is. by_code 17 code _ _ bytes found is (stamp_takes place bytes found fits)
      (λ is. by_code 18 code _ _ bytes found is (long_value_takes place bytes found fits)
      (λ is. absurd (cc is)))))))))))
