use Rattle.std.proofs.Common.{◌≡◌, ◌<◌, ◌&&◌, not, ℕ, length}
use Rattle.filter_match.specs.Tails.{is_open}
use Rattle.filter_match.proofs.tails.without.Given as goal

abbrev pub invariant-loop-k : goal.invariant-loop-k
invariant-loop-k l =
    ((k : ℕ) → k < l.k → is_open l.left k ≡ (is_open l.marks k && not (is_open l.others k))) × (length l.left ≡ 101)
