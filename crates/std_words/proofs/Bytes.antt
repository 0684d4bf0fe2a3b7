-- Lists of numbers below 256, and their parts.
use Rattle.std.proofs.Common.{◌≡◌, ℕ, ◌+◌, ◌<◌, List, ◌++◌, length, get_or, sym, ap, ◌∙◌, append_assoc, arith, inl, inr}
use Rattle.std.proofs.lemmas.Bool.{cases_lt}
use Rattle.std.proofs.lemmas.List.{get_or_past, get_or_append_left, get_or-append-add}

abbrev pub IsBytes : List ℕ → Type 0
IsBytes bytes = (i : ℕ) → get_or bytes i 0 < 256

pub IsBytes-front : (front rest bytes : List ℕ) → bytes ≡ front ++ rest → IsBytes bytes → IsBytes front
IsBytes-front front rest bytes whole fits i =
    elim (cases_lt i (length front)) [
      | inl within ↦ rw (← get_or_append_left front rest 0 i within, ← whole) (fits i)
      | inr past ↦ rw (get_or_past front i 0 past) (omega arith)
    ]

pub IsBytes-rest : (front rest bytes : List ℕ) → bytes ≡ front ++ rest → IsBytes bytes → IsBytes rest
IsBytes-rest front rest bytes whole fits i = rw (← get_or-append-add front rest i 0, ← whole) (fits (length front + i))

-- a spelling of what was found, and the rest
abbrev pub Takes : {A : Type 0} → (List ℕ → A → Type 0) → List ℕ → A × List ℕ → Type 0
Takes IsSpelling bytes found = (spelling : List ℕ) × (bytes ≡ spelling ++ found.1) × IsSpelling spelling found.0

-- a part, a second one, and the rest
pub regrouped : (whole first middle second rest : List ℕ) → whole ≡ first ++ middle → middle ≡ second ++ rest
    → whole ≡ (first ++ second) ++ rest
regrouped whole first middle second rest one two = one ∙ ap (λ (part : List ℕ). first ++ part) two ∙ sym (append_assoc first second rest)
