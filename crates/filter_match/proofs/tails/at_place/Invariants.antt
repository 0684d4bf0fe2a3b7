use Rattle.std.proofs.Common.{◌≡◌, ◌<◌, ◌&&◌, ℕ, None, length, slice_index_or}
use Rattle.filter_match.specs.Tails.{is_open, is_at}
use Rattle.filter_match.proofs.tails.at_place.Given as goal

abbrev pub invariant-loop-k : goal.invariant-loop-k
invariant-loop-k l =
    ((k : ℕ) → k < l.k → is_open l.here k ≡ (is_open l.marks k && is_at (slice_index_or l.places k None) l.place)) × (length l.here ≡ 101)
