-- Steps that may find a fault.
use Rattle.std.proofs.Common.{◌≡◌, ◌⊎◌, inl, inr, Bool, true, false, refl, subst}
use Rattle.std.specs.Prelude.{Result, Ok, Err, if◌then◌else◌}
use Rattle.std_words.specs.Steps.{◌>>=◌}

pub same_Ok : {A E : Type 0} (x y : A) → ◌≡◌ {A = Result A E} (Ok x) (Ok y) → x ≡ y
same_Ok x y is = cc

-- where two steps found a value, the first found one for the second
pub bind_ok : {A B E : Type 0} (found : Result A E) (next : A → Result B E) (value : B) → (found >>= next) ≡ Ok value
    → (first : A) × (found ≡ Ok first) × (next first ≡ Ok value)
bind_ok (Ok first) next value is = (first, refl, is)
bind_ok (Err fault) next value is = absurd cc

-- where nothing behind a step can fail, the step did
pub bind_err : {A B E : Type 0} (found : Result A E) (next : A → B) (fault : E) → (found >>= λ it. Ok (next it)) ≡ Err fault
    → found ≡ Err fault
bind_err (Err other) next fault is = cc
bind_err (Ok it) next fault is = absurd cc

-- a test that did not refuse
pub unless_ok : {A E : Type 0} (refuse : Bool) (fault : E) (found : Result A E) (value : A)
    → (if refuse then Err fault else found) ≡ Ok value → (refuse ≡ false) × (found ≡ Ok value)
unless_ok true fault found value is = absurd cc
unless_ok false fault found value is = (refl, is)

-- a test that held
pub when_ok : {A E : Type 0} (test : Bool) (fault : E) (found : Result A E) (value : A) → (if test then found else Err fault) ≡ Ok value
    → (test ≡ true) × (found ≡ Ok value)
when_ok true fault found value is = (refl, is)
when_ok false fault found value is = absurd cc

-- what either branch gave
pub branch_ok : {A E : Type 0} (test : Bool) (one other : Result A E) (value : A) → (if test then one else other) ≡ Ok value
    → ((test ≡ true) × (one ≡ Ok value)) ⊎ ((test ≡ false) × (other ≡ Ok value))
branch_ok true one other value is = inl (refl, is)
branch_ok false one other value is = inr (refl, is)

-- what holds of the value made holds of the value found
pub at_found : {A E : Type 0} (Holds : A → Type 0) (made found : A) → ◌≡◌ {A = Result A E} (Ok made) (Ok found) → Holds made → Holds found
at_found Holds made found is holds = subst Holds (same_Ok made found is) holds
