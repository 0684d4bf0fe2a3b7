use Rattle.std.proofs.Common.{◌≡◌, ◌≤◌, ℕ, length}
use Rattle.filter_match.specs.Tails.{is_open, joined_at}
use Rattle.filter_match.proofs.tails.with_rests.Given as goal

abbrev pub invariant-loop-k : goal.invariant-loop-k
invariant-loop-k l =
    ((k : ℕ) → k ≤ l.k → is_open l.all k ≡ joined_at l.marks l.others k) × (length l.all ≡ 101)
