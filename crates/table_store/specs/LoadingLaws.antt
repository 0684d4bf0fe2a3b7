-- What loading is relied on for.
use Rattle.std.specs.Prelude.{ℕ, ◌≡◌, List}
use Rattle.outside.specs.declared.kept.KeptTable.{KeptTable}
use Rattle.table_words.specs.Tables.{Tables}
use Rattle.table_store.specs.Loading.{FirstFault, IsLoaded}

-- what is kept is loaded as one state
abbrev pub OneState : Type 0
OneState = (kept : List KeptTable) (s t : Tables) → IsLoaded kept s → IsLoaded kept t → s ≡ t

-- what is loaded has no fault
abbrev pub NoFault : Type 0
NoFault = (kept : List KeptTable) (s : Tables) (number place : ℕ) → IsLoaded kept s → FirstFault kept number place → ⊥

-- a first fault is told by one number and one place
abbrev pub OneFault : Type 0
OneFault = (kept : List KeptTable) (m n p q : ℕ) → FirstFault kept m p → FirstFault kept n q → (m ≡ n) × (p ≡ q)
