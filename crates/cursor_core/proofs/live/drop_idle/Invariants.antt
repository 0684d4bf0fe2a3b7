use Rattle.std.proofs.Common.{◌≡◌, length}
use Rattle.cursor_core.specs.Held.{kept}
use Rattle.cursor_core.specs.Sound.{Falls}
use Rattle.cursor_core.proofs.live.drop_idle.Given as goal

abbrev pub invariant-loop-last : goal.invariant-loop-last
invariant-loop-last l = record {
  falls : Falls l.latest l.held;
  kept : kept l.latest l.held ≡ kept l.latest l.fn.held;
}

abbrev pub decreases-loop-last : goal.decreases-loop-last
decreases-loop-last l = length l.held
