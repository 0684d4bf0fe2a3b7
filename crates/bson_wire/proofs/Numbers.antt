-- Numbers in four and eight bytes: what is read is spelled so, and what is spelled so is read.
use Rattle.std.proofs.Common.{◌≡◌, ℕ, ◌^◌, ◌<◌, ◌≤◌, Bool, true, false, ltb, List, ◌++◌, length, take, drop, refl, sym, ap, ◌∙◌, cond, ◌||◌}
use Rattle.std.proofs.Common.{arith}
use Rattle.std.specs.Prelude.{Ok, Err}
use Rattle.std.proofs.lemmas.Bool.{ltb-false, le-ltb}
use Rattle.std.proofs.lemmas.List.{take-append-drop, length-append, length-take, drop_at}
use Rattle.std.proofs.lemmas.Nat.{le_bytes_4, le_bytes_8}
use Rattle.byteorder.specs.Endian.{little_number}
use Rattle.byteorder.specs.Numbers.{little_from-take, little_from-lt, little_number-reads_back, length-bytes_low_first}
use Rattle.bson_spelling.specs.Spelling.{int32, int64}
use Rattle.bson_wire.specs.Reading.{number_at, long_at, length_at}
use Rattle.std_words.proofs.Faults.{bind_ok, unless_ok, at_found}
use Rattle.std_words.proofs.Bytes.{IsBytes, IsBytes-front}

or_cases-false : (one other : Bool) → (one || other) ≡ false → (one ≡ false) × (other ≡ false)
or_cases-false true other is = absurd cc
or_cases-false false other is = (refl, is)

-- the number in the first four bytes has them as its own
int32-back : (bytes : List ℕ) → IsBytes bytes → 4 ≤ length bytes → int32 (little_number 4 bytes) ≡ take 4 bytes
int32-back bytes fits long =
    let same : little_number 4 bytes ≡ little_number 4 (take 4 bytes) = sym (little_from-take 0 4 4 bytes (omega arith)) in
    le_bytes_4 (take 4 bytes) (little_number 4 bytes) (omega (arith, length-take 4 bytes))
    (IsBytes-front (take 4 bytes) (drop 4 bytes) bytes (sym (take-append-drop 4 bytes)) fits) (same ∙ omega arith)

-- the number in the first eight bytes has them as its own
int64-back : (bytes : List ℕ) → IsBytes bytes → 8 ≤ length bytes → int64 (little_number 8 bytes) ≡ take 8 bytes
int64-back bytes fits long =
    let same : little_number 8 bytes ≡ little_number 8 (take 8 bytes) = sym (little_from-take 0 8 8 bytes (omega arith)) in
    le_bytes_8 (take 8 bytes) (little_number 8 bytes) (omega (arith, length-take 8 bytes))
    (IsBytes-front (take 8 bytes) (drop 8 bytes) bytes (sym (take-append-drop 8 bytes)) fits) (same ∙ omega arith)

pub number_takes : (place : ℕ) (bytes : List ℕ) (found : ℕ × List ℕ) → IsBytes bytes → number_at place bytes ≡ Ok found
    → (bytes ≡ int32 found.0 ++ found.1) × (found.0 < 2 ^ 32)
unfolding number_at
number_takes place bytes found fits is =
    let test = unless_ok (ltb (length bytes) 4) place (Ok (little_number 4 bytes, drop 4 bytes)) found is in
    let long : 4 ≤ length bytes = ltb-false _ _ test.0 in
    at_found (λ it. (bytes ≡ int32 it.0 ++ it.1) × (it.0 < 2 ^ 32)) (little_number 4 bytes, drop 4 bytes) found test.1 (
      sym (take-append-drop 4 bytes) ∙ ap (λ (front : List ℕ). front ++ drop 4 bytes) (sym (int32-back bytes fits long)),
      little_from-lt 0 4 bytes fits,
    )

pub number_again : (place number : ℕ) (rest : List ℕ) → number < 2 ^ 32 → number_at place (int32 number ++ rest) ≡ Ok (number, rest)
unfolding number_at
number_again place number rest below =
    let len = length-bytes_low_first 0 4 number in
    let long : ltb (length (int32 number ++ rest)) 4 ≡ false = le-ltb _ _ (omega (arith, length-append (int32 number) rest)) in
    rw (long, little_number-reads_back 4 number rest below, drop_at (int32 number) rest 4 len) refl

pub long_takes : (place : ℕ) (bytes : List ℕ) (found : ℕ × List ℕ) → IsBytes bytes → long_at place bytes ≡ Ok found
    → (bytes ≡ int64 found.0 ++ found.1) × (found.0 < 2 ^ 64)
unfolding long_at
long_takes place bytes found fits is =
    let test = unless_ok (ltb (length bytes) 8) place (Ok (little_number 8 bytes, drop 8 bytes)) found is in
    let long : 8 ≤ length bytes = ltb-false _ _ test.0 in
    at_found (λ it. (bytes ≡ int64 it.0 ++ it.1) × (it.0 < 2 ^ 64)) (little_number 8 bytes, drop 8 bytes) found test.1 (
      sym (take-append-drop 8 bytes) ∙ ap (λ (front : List ℕ). front ++ drop 8 bytes) (sym (int64-back bytes fits long)),
      little_from-lt 0 8 bytes fits,
    )

pub long_again : (place number : ℕ) (rest : List ℕ) → number < 2 ^ 64 → long_at place (int64 number ++ rest) ≡ Ok (number, rest)
unfolding long_at
long_again place number rest below =
    let len = length-bytes_low_first 0 8 number in
    let long : ltb (length (int64 number ++ rest)) 8 ≡ false = le-ltb _ _ (omega (arith, length-append (int64 number) rest)) in
    rw (long, little_number-reads_back 8 number rest below, drop_at (int64 number) rest 8 len) refl

pub length_takes : (place least : ℕ) (bytes : List ℕ) (found : ℕ × List ℕ) → IsBytes bytes → length_at place least bytes ≡ Ok found
    → (bytes ≡ int32 found.0 ++ found.1) × (least ≤ found.0) × (found.0 < 2 ^ 31)
unfolding length_at
length_takes place least bytes found fits is =
    let number = bind_ok (number_at place bytes) (λ n. cond (ltb n.0 least || ltb 2147483647 n.0) (Err place) (Ok n)) found is in
    let test = unless_ok (ltb number.0.0 least || ltb 2147483647 number.0.0) place (Ok number.0) found number.2 in
    let tests = or_cases-false (ltb number.0.0 least) (ltb 2147483647 number.0.0) test.0 in
    let least-ok = ltb-false _ _ tests.0 in
    let most-ok = ltb-false _ _ tests.1 in
    at_found (λ it. (bytes ≡ int32 it.0 ++ it.1) × (least ≤ it.0) × (it.0 < 2 ^ 31)) number.0 found test.1
    ((number_takes place bytes number.0 fits number.1).0, least-ok, omega arith)

pub length_again : (place least number : ℕ) (rest : List ℕ) → least ≤ number → number < 2 ^ 31
    → length_at place least (int32 number ++ rest) ≡ Ok (number, rest)
unfolding length_at
length_again place least number rest above below =
    let low : ltb number least ≡ false = le-ltb _ _ above in
    let high : ltb 2147483647 number ≡ false = le-ltb _ _ (omega arith) in
    rw (number_again place number rest (omega arith), low, high) refl
