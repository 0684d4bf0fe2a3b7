use Rattle.std.proofs.Common.{◌≡◌}
use Rattle.filter_match.specs.Tails.{is_open, any_below}
use Rattle.filter_match.proofs.tails.is_any_open.Given as goal

abbrev pub invariant-loop-k : goal.invariant-loop-k
invariant-loop-k l = l.found ≡ any_below l.k (is_open l.marks)
