-- Conditions that name a key.
use Rattle.std.specs.Prelude.{◌≡◌, ℕ, true, List}
use Rattle.std.specs.List.{list_all}
use Rattle.std.specs.Str.{bytes_eq}
use Rattle.jsonb_contain.specs.Containment.{met}
use Rattle.jsonb_contain.specs.declared.cond.Cond.{Cond}
use Rattle.jsonb_contain.specs.declared.value.Json.{Json}

-- what meets a condition has this key
abbrev pub Names : List ℕ → Cond → Type 0
Names key cond = (other : List ℕ) (json : Json) → met cond other json ≡ true → bytes_eq key other ≡ true

-- what meets all of some conditions has this key
abbrev pub NamesOne : List ℕ → List Cond → Type 0
NamesOne key conds = (other : List ℕ) (json : Json) → list_all (λ cond. met cond other json) conds ≡ true → bytes_eq key other ≡ true
