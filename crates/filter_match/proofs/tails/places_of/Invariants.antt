use Rattle.std.proofs.Common.{◌≡◌, ◌<◌, ◌^◌, ℕ, true, None, length, slice_index_or}
use Rattle.filter_match.specs.Tails.{is_open, is_at, tells, part_at}
use Rattle.filter_match.proofs.tails.places_of.Given as goal

abbrev pub invariant-loop-k : goal.invariant-loop-k
invariant-loop-k l =
    ((k : ℕ) → k < l.k → is_open l.marks k ≡ true → (place : ℕ) → place < 2 ^ 64
    → is_at (slice_index_or l.places k None) place ≡ tells (part_at l.parts k) place)
    × (length l.places ≡ 101)
