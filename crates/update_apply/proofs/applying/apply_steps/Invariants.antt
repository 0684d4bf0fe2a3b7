use Rattle.std.proofs.Common.{◌≡◌, drop}
use Rattle.update_syntax.specs.After.{all_stepped}
use Rattle.update_apply.proofs.applying.apply_steps.Given as goal

abbrev pub invariant-loop-step : goal.invariant-loop-step
invariant-loop-step l = all_stepped l.now l.inserting l.steps l.doc ≡ all_stepped l.now l.inserting (drop l.step-index l.steps) l.made
