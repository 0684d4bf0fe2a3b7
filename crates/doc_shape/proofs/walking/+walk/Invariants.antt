use Rattle.std.proofs.Common.{◌≡◌, ◌≤◌, ◌<◌, ℕ, false, drop, length}
use Rattle.bson_values.specs.declared.value.Value.TheVariants as value
use Rattle.doc_shape.specs.Keys.{sooner}
use Rattle.doc_shape.specs.Bests.{best_at, is_unasked, kept, told, told_here, told_in_docs}
use Rattle.doc_shape.proofs.walking.+walk.Given as goal

-- what was asked is told, and it was asked up to here
abbrev pub invariant-best_in_fields-loop-k : goal.invariant-best_in_fields-loop-k
invariant-best_in_fields-loop-k l =
    ((k : ℕ) → l.low ≤ k → k < l.end → is_unasked (best_at l.all k) ≡ false → kept (best_at l.all k) ≡ told l.way (value.Doc l.document) k)
    × ((k : ℕ) → l.low ≤ k → k < l.k → kept (best_at l.all k) ≡ told l.way (value.Doc l.document) k)
    × (length l.all ≡ 101)

-- what was told and what the elements that are left tell give what all tell
abbrev pub invariant-best_in_items-loop-place : goal.invariant-best_in_items-loop-place
invariant-best_in_items-loop-place l =
    (k : ℕ) → l.low ≤ k → k < l.end
    → (sooner l.way.1 (kept (best_at l.here k)) (told_here l.way k l.place (drop l.place l.items)) ≡ told_here l.way k 0 l.items)
    × (sooner l.way.1 (kept (best_at l.below k)) (told_in_docs l.way k (drop l.place l.items)) ≡ told_in_docs l.way k l.items)
