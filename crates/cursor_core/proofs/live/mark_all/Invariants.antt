use Rattle.std.proofs.Common.{◌≡◌, ◌-◌, ◌++◌, length, take, drop}
use Rattle.cursor_core.specs.Step.{marked, outlive}
use Rattle.cursor_core.proofs.live.mark_all.Given as goal

abbrev pub invariant-loop-place : goal.invariant-loop-place
invariant-loop-place l = record {
  marks : take l.place l.marks ++ marked (drop l.place l.marks) l.held ≡ marked l.fn.marks l.fn.held;
  held : outlive (drop l.place l.marks) l.held ≡ outlive l.fn.marks l.fn.held;
}

abbrev pub decreases-loop-place : goal.decreases-loop-place
decreases-loop-place l = length l.marks - l.place
