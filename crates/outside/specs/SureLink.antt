-- A link in memory that never fails.
use Rattle.std.specs.Prelude.{ℕ, List, Option, Some}
use Rattle.outside.specs.Source.{SourceState, moments_of}
use Rattle.outside.specs.Told.{IsFresh}

-- what it gives, and what it took, as long as it is told
pub record SureLinkState : Type 0 where
  pub source : SourceState
  pub written : Option (List ℕ)

-- nothing was asked of the link yet
abbrev pub IsFreshSureLink : SureLinkState → Type 0
IsFreshSureLink link = IsFresh (Some link.source.taken) link.written (moments_of link.source) 0 0
