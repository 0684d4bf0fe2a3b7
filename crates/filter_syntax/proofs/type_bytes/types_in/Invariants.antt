use Rattle.bson_values.specs.declared.value.Value.{out-Value}
use Rattle.filter_syntax.specs.Operands.{types_told}
use Rattle.filter_syntax.proofs.Loops.{Goes}
use Rattle.filter_syntax.proofs.type_bytes.types_in.Given as goal

abbrev pub invariant-loop-item : goal.invariant-loop-item
invariant-loop-item l = Goes types_told out-Value l.items l.item-index l.all
