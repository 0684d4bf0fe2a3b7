-- What a link in memory gives: its input, cut into reads, and the moments of its clock.
use Rattle.std.specs.Prelude.{ℕ, zero, suc, ◌≡◌, ◌-◌, ◌^◌, nat_lt, min, max, List, [], ◌∷◌, ◌++◌, length, take, drop}
use Rattle.std.specs.Prelude.{slice_get, unwrap_or, Option, None, Some, if◌then◌else◌}
use Rattle.outside.specs.Counts.{raised}

-- the bytes given and those that are left; the number of the next read, and of the clock's next moment
pub record SourceState : Type 0 where
  pub taken : List ℕ
  pub left : List ℕ
  pub cuts : List ℕ
  pub reads : ℕ
  pub moments : List ℕ
  pub ticks : ℕ

-- a source of which nothing was asked yet
abbrev pub source_of : List ℕ → List ℕ → List ℕ → SourceState
source_of input cuts moments =
    record { taken = []; left = input; cuts = cuts; reads = 0; moments = moments; ticks = 0 }

-- so many bytes, where they are not more than the cut; a cut of 0 leaves one
abbrev pub cut_to : Option ℕ → ℕ → ℕ
cut_to None count = count
cut_to (Some cut) count = min (max cut 1) count

-- how many bytes the next read gives to a buffer of that length
abbrev pub read_len : SourceState → ℕ → ℕ
read_len source room = cut_to (slice_get source.cuts source.reads) (min room (length source.left))

-- the source after a read that gave so many bytes
abbrev pub after_read : SourceState → ℕ → SourceState
after_read source count =
    record source {
      taken = source.taken ++ take count source.left;
      left = drop count source.left;
      reads = raised source.reads;
    }

-- a read gave what the source and the room allow, to the front of the buffer
pub record Reads (old new : SourceState) (before after : List ℕ) (count : ℕ) : Type 0 where
  pub len : count ≡ read_len old (length before)
  pub buffer : after ≡ take count old.left ++ drop count before
  pub source : new ≡ after_read old count

-- the clock's moment of that number, from 0: the last one repeats, and without any it is 0
abbrev pub moment_at : List ℕ → ℕ → ℕ
moment_at moments number = unwrap_or (slice_get moments (min number (length moments - 1))) 0

-- the first moments, so many of them
abbrev pub first_moments : List ℕ → ℕ → List ℕ
first_moments moments zero = []
first_moments moments (suc number) = first_moments moments number ++ moment_at moments number ∷ []

-- the moments given, which are told until their count stands still
abbrev pub moments_of : SourceState → Option (List ℕ)
moments_of source =
    if nat_lt source.ticks (2 ^ 64 - 1) then Some (first_moments source.moments source.ticks) else None

-- the clock gave its next moment
pub record Ticks (old new : SourceState) (answer : ℕ) : Type 0 where
  pub moment : answer ≡ moment_at old.moments old.ticks
  pub source : new ≡ record old { ticks = raised old.ticks }
