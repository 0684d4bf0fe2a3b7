use Rattle.std.proofs.Common.{◌≡◌, ◌++◌}
use Rattle.distinct_values.specs.Kept.{kept_values}
use Rattle.distinct_values.proofs.distinct.Distinct.values.Given as goal

-- what is copied, and then the others, are all
abbrev pub invariant-loop-entry : goal.invariant-loop-entry
invariant-loop-entry l = l.values ++ kept_values l.entry-iterator ≡ kept_values l.self-inside.kept
