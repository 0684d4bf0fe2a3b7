use Rattle.op_msg.proofs.Fronts.{fault-more}
use Rattle.op_msg.proofs.laws.a_fault_stays.Goals as goal

pub returns : goal.returns
returns c = fault-more
