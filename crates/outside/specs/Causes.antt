-- Counts of faults.
use Rattle.std.specs.Prelude.{ℕ, ◌≡◌, ◌+◌, ◌-◌, ◌^◌, ◌≤◌, min, Result, Ok, Err, OnErr, OnOk}
use Rattle.outside.specs.declared.keeper.KeepError.{KeepError}
use Rattle.outside.specs.declared.keeper.KeepError.TheVariants.{Failed, NoMemory}

-- the count rose, or stands at the end of a u64
abbrev pub Rose : ℕ → ℕ → Type 0
Rose before now = min (before + 1) (2 ^ 64 - 1) ≤ now

-- a failure is told only where the count rose, and an answer only where it stood still; it never falls
pub record HasCause {T E : Type 0} (before now : ℕ) (result : Result T E) : Type 0 where
  pub later : before ≤ now
  pub failed : OnErr result (Rose before now)
  pub kept : OnOk result (now ≡ before)

-- what a keeper's call tells of failures: want of memory is none
abbrev pub failure_of : {T : Type 0} → Result T KeepError → Result (Unit {0}) (Unit {0})
failure_of (Ok made) = Ok tt
failure_of (Err Failed) = Err tt
failure_of (Err NoMemory) = Ok tt
