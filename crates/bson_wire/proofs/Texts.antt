-- Texts and the bytes that are read as one.
use Rattle.std.proofs.Common.{◌≡◌, ℕ, Bool, true, false, cond, List, refl, subst}
use Rattle.std.specs.Prelude.{Result, Ok, Err}
use Rattle.std.specs.Str.{IsUtf8, is_utf8}
use Rattle.std.proofs.lemmas.Str.{IsUtf8-from_is_utf8, is_utf8-from_IsUtf8}
use Rattle.bson_wire.specs.Reading.{text_of}
use Rattle.std_words.proofs.Faults.{when_ok, same_Ok}

-- a text is read as itself
pub text_again : (place : ℕ) (text : List ℕ) → IsUtf8 text → text_of place text ≡ Ok text
unfolding text_of
text_again place text utf8 = rw (is_utf8-from_IsUtf8 text utf8) refl

-- what is read as a text is one
pub text_takes : (place : ℕ) (bytes text : List ℕ) → text_of place bytes ≡ Ok text → (bytes ≡ text) × IsUtf8 text
unfolding text_of
text_takes place bytes text is =
    let test = when_ok (is_utf8 bytes) place (Ok bytes) text is in
    let same : bytes ≡ text = same_Ok bytes text test.1 in
    (same, subst IsUtf8 same (IsUtf8-from_is_utf8 bytes test.0))

-- a test that fails is a fault
unmet : {A : Type 0} (test : Bool) (place : ℕ) (found : A) → (test ≡ true → ⊥)
    → ◌≡◌ {A = Result A ℕ} (cond test (Ok found) (Err place)) (Err place)
unmet true place found bad = absurd (bad refl)
unmet false place found bad = refl

-- what is no text is a fault
pub text_refused : (place : ℕ) (bytes : List ℕ) → (IsUtf8 bytes → ⊥) → text_of place bytes ≡ Err place
unfolding text_of
text_refused place bytes bad = unmet (is_utf8 bytes) place bytes (λ test. bad (IsUtf8-from_is_utf8 bytes test))
