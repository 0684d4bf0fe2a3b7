-- Worlds in memory.
use Rattle.std.specs.Prelude.{ℕ, List, Option}
use Rattle.outside.specs.declared.kept.KeptTable.{KeptTable}
use Rattle.outside.specs.MemoryLink.{MemoryLinkState}
use Rattle.outside.specs.SureLink.{SureLinkState}

-- the console and the tables, until they are given; the numbers of the keeps that fail, and of the applies of the keeper that do; the
-- number of the next keep, and the count of those that failed
pub record MemoryWorldState : Type 0 where
  pub console : Option MemoryLinkState
  pub tables : Option (List KeptTable)
  pub bad_keeps : List ℕ
  pub bad_applies : List ℕ
  pub keeps : ℕ
  pub keep_faults : ℕ

-- the console and the tables of a world that never fails, until they are given
pub record SureWorldState : Type 0 where
  pub console : Option SureLinkState
  pub tables : Option (List KeptTable)
