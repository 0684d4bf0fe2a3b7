use Rattle.bson_values.specs.declared.pairs.Pair.{Pair}
use Rattle.bson_values.specs.declared.value.Value.{Value}
use Rattle.filter_syntax.specs.Operands.{single}
use Rattle.filter_syntax.proofs.Loops.{Goes}
use Rattle.update_syntax.specs.Reading.{step_of}
use Rattle.update_syntax.specs.Told.{told}
use Rattle.update_syntax.proofs.reading.read_pairs.Given as goal

abbrev pub invariant-loop-pair : goal.invariant-loop-pair
invariant-loop-pair l = Goes (λ (pair : Pair Value). single (step_of (told l.operator) pair)) (λ pair. pair) l.pairs l.pair-index l.all
