use Rattle.std.proofs.Common.{◌≡◌}
use Rattle.std.specs.List.{fold}
use Rattle.distinct_values.specs.Distinct.{joined}
use Rattle.distinct_values.proofs.distinct.Distinct.add_items.Given as goal

abbrev pub invariant-loop-item : goal.invariant-loop-item
invariant-loop-item l = l.self ≡ fold joined l.initial.self l.yielded
