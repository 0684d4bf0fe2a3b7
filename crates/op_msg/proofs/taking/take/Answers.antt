use Rattle.std.proofs.Common.{arith, sym, ◌∙◌}
use Rattle.op_msg.specs.Reading.{stated}
use Rattle.op_msg.proofs.Fronts.{taken-whole}
use Rattle.op_msg.proofs.taking.take.Goals as goal

pub returns-in-Ok : goal.returns-in-Ok
unfolding stated
returns-in-Ok c =
    taken-whole _ _ _ _ _ (λ i. omega (arith, c.type_inv.bytes i)) c.read_u32-stated.ensures c.if-stated-lt-LEAST_MESSAGE.false
    c.if-stated-gt-MOST_MESSAGE.false c.if-bytes-lt16.false (sym c.read_u32.ensures
    ∙ c.if-read_u32-ne-OP_MSG.false) c.tail.ensures c.if-bytes-stated.false c.head.ensures c.in-Ok.ensures
