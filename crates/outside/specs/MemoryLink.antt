-- A link in memory whose calls fail as it is told.
use Rattle.std.specs.Prelude.{ℕ, List, Some}
use Rattle.outside.specs.Source.{SourceState, moments_of}
use Rattle.outside.specs.Told.{IsFresh}

-- what it gives and took, the numbers of the calls that fail, the number of the next write, and its counts of faults
pub record MemoryLinkState : Type 0 where
  pub source : SourceState
  pub written : List ℕ
  pub bad_reads : List ℕ
  pub bad_writes : List ℕ
  pub writes : ℕ
  pub read_faults : ℕ
  pub write_faults : ℕ

-- nothing was asked of the link yet
abbrev pub IsFreshMemoryLink : MemoryLinkState → Type 0
IsFreshMemoryLink link =
    IsFresh (Some link.source.taken) (Some link.written) (moments_of link.source) link.read_faults link.write_faults
