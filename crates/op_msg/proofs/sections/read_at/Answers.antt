use Rattle.std.proofs.Common.{arith}
use Rattle.op_msg.proofs.Documents.{fault-near, fault-at, found-at, shorter-behind}
use Rattle.op_msg.proofs.sections.read_at.Goals as goal

pub overflow_add-result : goal.overflow_add-result
overflow_add-result c = omega (arith, c.requires, fault-near _ _ _ c.in-Err-Malformed.ensures.place c.in-Err-Malformed.field-0-is)

pub returns-in-Ok-clause-value : goal.returns-in-Ok-clause-value
returns-in-Ok-clause-value c = found-at _ _ _ _ _ _ _ c.in-Ok.ensures.found c.moved-foreign.ensures c.tail.ensures

pub returns-in-Err-Malformed-clause-value : goal.returns-in-Err-Malformed-clause-value
returns-in-Err-Malformed-clause-value c = fault-at _ _ _ _ c.in-Err-Malformed.ensures.place c.in-Err-Malformed.field-0-is

pub returns-in-Ok-clause-shorter : goal.returns-in-Ok-clause-shorter
returns-in-Ok-clause-shorter c = shorter-behind _ _ _ _ _ c.in-Ok.ensures.found.0 c.in-Ok.ensures.found.2 c.tail.ensures
