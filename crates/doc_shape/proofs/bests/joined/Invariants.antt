use Rattle.std.proofs.Common.{◌≡◌, ◌<◌, ℕ, length}
use Rattle.doc_shape.specs.Keys.{sooner}
use Rattle.doc_shape.specs.Bests.{best_at, kept}
use Rattle.doc_shape.proofs.bests.joined.Given as goal

abbrev pub invariant-loop-k : goal.invariant-loop-k
invariant-loop-k l =
    ((k : ℕ) → k < l.k → kept (best_at l.all k) ≡ sooner l.ascends (kept (best_at l.one k)) (kept (best_at l.other k)))
    × (length l.all ≡ 101)
