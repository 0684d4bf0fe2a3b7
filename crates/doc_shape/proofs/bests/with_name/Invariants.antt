use Rattle.std.proofs.Common.{◌≡◌, ◌<◌, ℕ, suc, length, if◌then◌else◌}
use Rattle.std.specs.Str.{bytes_eq}
use Rattle.doc_shape.specs.Bests.{best_at, part_at}
use Rattle.doc_shape.proofs.bests.with_name.Given as goal

abbrev pub invariant-loop-k : goal.invariant-loop-k
invariant-loop-k l =
    ((k : ℕ) → k < l.k → best_at l.named k
    ≡ (if bytes_eq (part_at l.parts k) l.name then best_at l.behind (suc k) else best_at l.all k))
    × (length l.named ≡ 101)
