-- A keeper in memory whose calls fail as it is told.
use Rattle.std.specs.Prelude.{ℕ, List}
use Rattle.outside.specs.declared.kept.KeptTable.{KeptTable}
use Rattle.outside.specs.declared.keeper.KeepError.{KeepError}
use Rattle.outside.specs.declared.keeper.KeepError.TheVariants.{Failed, NoMemory}
use Rattle.outside.specs.Counts.{raised}

-- its tables, the numbers of the applies that fail, the number of the next one, and its count of faults
pub record MemoryKeeperState : Type 0 where
  pub tables : List KeptTable
  pub bad_applies : List ℕ
  pub applies : ℕ
  pub faults : ℕ

-- nothing was asked of the keeper yet
abbrev pub memory_keeper : List KeptTable → List ℕ → MemoryKeeperState
memory_keeper tables bad_applies = record { tables = tables; bad_applies = bad_applies; applies = 0; faults = 0 }

-- the count of faults after a refusal
abbrev pub faults_after : KeepError → ℕ → ℕ
faults_after Failed faults = raised faults
faults_after NoMemory faults = faults
