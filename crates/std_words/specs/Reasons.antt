-- Reasons in the order in which they are looked at: the first that is there counts.
use Rattle.std.specs.Prelude.{Bool, if◌then◌else◌, List, [], ◌∷◌, Option, None, Some}
use Rattle.std.specs.Option.{option_or}

-- the reason, where the test holds
abbrev pub when : {A : Type 0} → Bool → A → Option A
when test reason = if test then Some reason else None

-- the first reason that is there
abbrev pub first : {A : Type 0} → List (Option A) → Option A
first [] = None
first (one ∷ more) = option_or one (first more)

-- the first reason that one of these gives
abbrev pub first_of_all : {A B : Type 0} → (A → Option B) → List A → Option B
first_of_all reason [] = None
first_of_all reason (it ∷ more) = option_or (reason it) (first_of_all reason more)
