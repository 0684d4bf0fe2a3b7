use Rattle.std.proofs.Common.{◌≡◌, ◌<◌, ◌&&◌, ℕ, length}
use Rattle.std.specs.Str.{bytes_eq}
use Rattle.filter_match.specs.Tails.{is_open, part_at}
use Rattle.filter_match.proofs.tails.with_name.Given as goal

abbrev pub invariant-loop-k : goal.invariant-loop-k
invariant-loop-k l =
    ((k : ℕ) → k < l.k → is_open l.named k ≡ (is_open l.marks k && bytes_eq (part_at l.parts k) l.name)) × (length l.named ≡ 101)
