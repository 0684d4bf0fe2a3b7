-- Laws of steps.
use Rattle.std.specs.Prelude.{ℕ, ◌≡◌, List, Result, Ok, Err}
use Rattle.std_words.specs.Steps.{◌>>=◌}

-- a first step that finds a fault is the fault of all
abbrev pub AFaultEnds : Type 0
AFaultEnds = (fault : ℕ) (next : List ℕ → Result (List ℕ) ℕ) → (Err fault >>= next) ≡ Err fault

-- one that finds none goes on with what it found
abbrev pub WhatIsFoundGoesOn : Type 0
WhatIsFoundGoesOn = (found : List ℕ) (next : List ℕ → Result (List ℕ) ℕ) → (Ok found >>= next) ≡ next found

-- three steps are the same however they are put in groups
abbrev pub StepsGroup : Type 0
StepsGroup = (one : Result (List ℕ) ℕ) (two three : List ℕ → Result (List ℕ) ℕ)
    → (one >>= two >>= three) ≡ (one >>= (λ it. two it >>= three))
