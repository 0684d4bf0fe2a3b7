use Rattle.bson_values.specs.declared.value.Value.{out-Value}
use Rattle.filter_syntax.specs.Operands.{types_told}
use Rattle.filter_syntax.proofs.Loops.{goes_on}
use Rattle.filter_syntax.proofs.type_bytes.types_in.Goals as goal

pub loop-item-preserved : goal.loop-item-preserved
loop-item-preserved c =
    goes_on types_told out-Value _ _ _ _ _ c.loop-item-test.true c.item-item.is c.loop-item.invariant c.in_ok-put_told.ensures
