use Rattle.bson_values.specs.declared.pairs.Pair.{Pair}
use Rattle.bson_values.specs.declared.value.Value.{Value}
use Rattle.std.proofs.Common.{List}
use Rattle.filter_syntax.specs.Operands.{single}
use Rattle.filter_syntax.proofs.Loops.{Goes}
use Rattle.command_words.specs.Meaning.{delete_of}
use Rattle.command_words.proofs.writes.deletes_of.Given as goal

abbrev pub invariant-loop-item : goal.invariant-loop-item
invariant-loop-item l = Goes (λ (doc : List (Pair Value)). single (delete_of l.space doc)) (λ doc. doc) l.items l.item-index l.ops
