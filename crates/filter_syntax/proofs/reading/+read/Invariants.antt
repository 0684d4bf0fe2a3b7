use Rattle.bson_values.specs.declared.pairs.Pair.{Pair}
use Rattle.filter_syntax.specs.Operands.{single}
use Rattle.filter_syntax.specs.Operators.{Reads, pair_test}
use Rattle.filter_syntax.specs.Reading.{pair_filters, read_field, reads}
use Rattle.filter_syntax.proofs.Loops.{Goes}
use Rattle.filter_syntax.proofs.reading.+read.Given as goal

abbrev pub invariant-read_tests-loop-pair : goal.invariant-read_tests-loop-pair
invariant-read_tests-loop-pair l = Goes (λ (pair : Pair Reads). single (pair_test pair)) read_field l.doc l.pair-index l.all

abbrev pub invariant-read_each-loop-item : goal.invariant-read_each-loop-item
invariant-read_each-loop-item l = Goes (λ (one : Reads). single one.filter) reads l.items l.item-index l.all

abbrev pub invariant-read_pairs-loop-pair : goal.invariant-read_pairs-loop-pair
invariant-read_pairs-loop-pair l = Goes pair_filters read_field l.doc l.pair-index l.all
