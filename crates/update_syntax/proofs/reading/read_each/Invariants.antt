use Rattle.bson_values.specs.declared.pairs.Pair.{Pair}
use Rattle.bson_values.specs.declared.value.Value.{Value}
use Rattle.filter_syntax.proofs.Loops.{Goes}
use Rattle.update_syntax.specs.Reading.{operator_steps}
use Rattle.update_syntax.proofs.reading.read_each.Given as goal

abbrev pub invariant-loop-pair : goal.invariant-loop-pair
invariant-loop-pair l = Goes operator_steps (λ (pair : Pair Value). pair) l.pairs l.pair-index l.all
