use Rattle.std.proofs.Common.{◌≡◌, ◌<◌, ℕ, None, suc, length, if◌then◌else◌, slice_index_or}
use Rattle.doc_shape.specs.Bests.{best_at, is_at}
use Rattle.doc_shape.specs.declared.bests.Best.TheVariants as best
use Rattle.doc_shape.proofs.bests.at_place.Given as goal

abbrev pub invariant-loop-k : goal.invariant-loop-k
invariant-loop-k l =
    ((k : ℕ) → k < l.k → best_at l.here k
    ≡ (if is_at (slice_index_or l.places k None) l.place then best_at l.behind (suc k) else best.Nothing))
    × (length l.here ≡ 101)
