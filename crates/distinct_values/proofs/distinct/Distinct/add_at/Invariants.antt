use Rattle.std.proofs.Common.{◌≡◌}
use Rattle.std.specs.List.{flat_map, fold}
use Rattle.distinct_values.specs.Distinct.{joined, values_of}
use Rattle.distinct_values.proofs.distinct.Distinct.add_at.Given as goal

abbrev pub invariant-loop-reached : goal.invariant-loop-reached
invariant-loop-reached l = l.self ≡ fold joined l.initial.self (flat_map values_of l.yielded)
