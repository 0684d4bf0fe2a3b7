-- Steps that may find a fault, one after another.
use Rattle.std.specs.Prelude.{Option, None, Some, Result, Ok, Err}

-- a step that may find a fault, and the next one on what it found
infixl 10 ◌>>=◌
abbrev pub ◌>>=◌ : {A B E : Type 0} → Result A E → (A → Result B E) → Result B E
(Err fault) >>= next = Err fault
(Ok found) >>= next = next found

-- the fault, where there is one
abbrev pub fault_of : {A E : Type 0} → Result A E → Option E
fault_of (Ok found) = None
fault_of (Err fault) = Some fault
