use Rattle.std.proofs.Common.{◌≡◌, ◌<◌, ◌^◌, ℕ, None, length, slice_index_or}
use Rattle.doc_shape.specs.Bests.{is_at, tells, part_at}
use Rattle.doc_shape.proofs.place.places_of.Given as goal

abbrev pub invariant-loop-k : goal.invariant-loop-k
invariant-loop-k l =
    ((k : ℕ) → k < l.k → (place : ℕ) → place < 2 ^ 64
    → is_at (slice_index_or l.places k None) place ≡ tells (part_at l.parts k) place)
    × (length l.places ≡ 101)
