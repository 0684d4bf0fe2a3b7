-- What is told of bytes, moments and tables. It may stop being told, and is never told again.
use Rattle.std.specs.Prelude.{ℕ, ◌≡◌, ◌++◌, List, [], take, Option, None, Some, Result, Ok, Err}

-- what is told, if it is, is this
abbrev pub Tells : {A : Type 0} → Option A → A → Type 0
Tells None all = Unit {0}
Tells (Some told) all = told ≡ all

-- what the one tells, the other tells
abbrev pub TellsAll : {A : Type 0} → Option A → Option A → Type 0
TellsAll None other = Unit {0}
TellsAll (Some told) other = other ≡ Some told

-- this came at the end
abbrev pub Grows : Option (List ℕ) → Option (List ℕ) → List ℕ → Type 0
Grows None new more = new ≡ None
Grows (Some old) None more = Unit {0}
Grows (Some old) (Some new) more = new ≡ old ++ more

-- this went from the front
abbrev pub Shrinks : Option (List ℕ) → Option (List ℕ) → List ℕ → Type 0
Shrinks None new less = new ≡ None
Shrinks (Some old) None less = Unit {0}
Shrinks (Some old) (Some new) less = old ≡ less ++ new

-- the bytes that a call moved: as many of the buffer's as it answered, and none where it failed
abbrev pub given : {E : Type 0} → Result ℕ E → List ℕ → List ℕ
given (Ok count) buffer = take count buffer
given (Err failed) buffer = []

-- a link of which nothing was asked yet
pub record IsFresh (taken_bytes written_bytes given_moments : Option (List ℕ)) (faulty_reads faulty_writes : ℕ) : Type 0 where
  pub taken : Tells taken_bytes []
  pub written : Tells written_bytes []
  pub moments : Tells given_moments []
  pub read_faults : faulty_reads ≡ 0
  pub write_faults : faulty_writes ≡ 0
