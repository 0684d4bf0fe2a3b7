-- Equal bytes have equal parts: numbers, lengths, and what a 00 byte ends.
use Rattle.std.proofs.Common.{◌≡◌, ◌≢◌, ◌<◌, ◌^◌, ◌-◌, min, ℕ, ℤ, List, [], ◌∷◌, ◌++◌, length, take, drop, refl, sym, ap, ◌∙◌, append_assoc}
use Rattle.std.proofs.Common.{arith}
use Rattle.std.specs.Prelude.{FitsSigned}
use Rattle.std.specs.Int.{w64, cast_unsigned, cast_signed}
use Rattle.std.proofs.lemmas.Int.{ints, to_z-of_z}
use Rattle.std.proofs.lemmas.List.{take_at, drop_at}
use Rattle.std.proofs.lemmas.List.Elements.{All-head, All-tail}
use Rattle.byteorder.specs.Endian.{little_number}
use Rattle.byteorder.specs.Numbers.{little_number-reads_back, length-bytes_low_first}
use Rattle.bson_spelling.specs.declared.form.Form.TheVariants.{Key}
use Rattle.bson_spelling.specs.Spelling.{int64, counted, cstring}
use Rattle.bson_order.specs.Plain.{HasNoNul}

-- parts of one length
pub cut : (one other x y : List ℕ) → length one ≡ length other → one ++ x ≡ other ++ y → (one ≡ other) × (x ≡ y)
cut one other x y long whole =
    let front = ap (λ (all : List ℕ). take (length one) all) whole in
    let rest = ap (λ (all : List ℕ). drop (length one) all) whole in (
      sym (take_at one x (length one) refl) ∙ front ∙ take_at other y (length one) (sym long),
      sym (drop_at one x (length one) refl) ∙ rest
          ∙ drop_at other y (length one) (sym long),
    )

pub number_cut : (one other : ℕ) (x y : List ℕ) → one < 2 ^ 64 → other < 2 ^ 64 → int64 one ++ x ≡ int64 other ++ y
    → (one ≡ other) × (x ≡ y)
number_cut one other x y fits like whole =
    let read = ap (λ (all : List ℕ). little_number 8 all) whole in
    let rest = ap (λ (all : List ℕ). drop 8 all) whole in (
      sym (little_number-reads_back 8 one x fits) ∙ read ∙ little_number-reads_back 8 other y like,
      sym (drop_at (int64 one) x 8 (length-bytes_low_first 0 8 one)) ∙ rest ∙ drop_at (int64 other) y 8 (length-bytes_low_first 0 8 other),
    )

pub long_cut : (one other : ℤ) (x y : List ℕ) → FitsSigned w64 one → FitsSigned w64 other
    → int64 (cast_unsigned w64 one) ++ x ≡ int64 (cast_unsigned w64 other) ++ y → (one ≡ other) × (x ≡ y)
long_cut one other x y fits like whole =
    let below : cast_unsigned w64 one < 2 ^ 64 = omega (arith, ints) in
    let under : cast_unsigned w64 other < 2 ^ 64 = omega (arith, ints) in
    let both = number_cut (cast_unsigned w64 one) (cast_unsigned w64 other) x y below under whole in
    (sym (to_z-of_z w64 one fits) ∙ ap (λ (bits : ℕ). cast_signed w64 bits) both.0 ∙ to_z-of_z w64 other like, both.1)

counted_cut : (one other : ℕ) (x y : List ℕ) → one < 2 ^ 63 → other < 2 ^ 63 → counted Key one ++ x ≡ counted Key other ++ y
    → (one ≡ other) × (x ≡ y)
counted_cut one other x y small like whole =
    let both = number_cut (min one (2 ^ 63 - 1)) (min other (2 ^ 63 - 1)) x y (omega arith) (omega arith) whole in
    (omega (arith, both.0), both.1)

-- a length, and what is so long
pub held_cut : (one other : ℕ) (inside within x y : List ℕ) → one < 2 ^ 63 → other < 2 ^ 63 → (one ≡ other → length inside ≡ length within)
    → (counted Key one ++ inside) ++ x ≡ (counted Key other ++ within) ++ y → (inside ≡ within) × (x ≡ y)
held_cut one other inside within x y small like long whole =
    let both = counted_cut one other (inside ++ x) (within ++ y) small like (sym (append_assoc (counted Key one) inside x) ∙ whole
    ∙ append_assoc (counted Key other) within y) in
    cut inside within x y (long both.0) both.1

-- names end at their first 00 byte
pub name_cut : (one other x y : List ℕ) → HasNoNul one → HasNoNul other → cstring one ++ x ≡ cstring other ++ y → (one ≡ other) × (x ≡ y)
name_cut [] [] x y plain like whole = (refl, ap (λ (all : List ℕ). drop 1 all) whole)
name_cut [] (byte ∷ other) x y plain like whole = let nul : 0 ≡ byte = cc in absurd (All-head (λ byte. byte ≢ 0) byte other like (sym nul))
name_cut (byte ∷ one) [] x y plain like whole = let nul : byte ≡ 0 = cc in absurd (All-head (λ byte. byte ≢ 0) byte one plain nul)
name_cut (byte ∷ one) (first ∷ other) x y plain like whole =
    let same : byte ≡ first = cc in
    let both = name_cut one other x y (All-tail (λ byte. byte ≢ 0) byte one plain) (All-tail (λ byte. byte ≢ 0) first other like)
    (ap (λ (all : List ℕ). drop 1 all) whole) in
    let rest = both.0 in
    (cc, both.1)
