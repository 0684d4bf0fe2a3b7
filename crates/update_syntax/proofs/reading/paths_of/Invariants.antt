use Rattle.std.proofs.Common.{◌≡◌, ◌++◌, drop}
use Rattle.std.specs.List.{flat_map}
use Rattle.update_syntax.specs.Reading.{paths_of}
use Rattle.update_syntax.proofs.reading.paths_of.Given as goal

abbrev pub invariant-loop-step : goal.invariant-loop-step
invariant-loop-step l = l.all ++ flat_map paths_of (drop l.step-index l.steps) ≡ flat_map paths_of l.steps
