use Rattle.op_msg.proofs.Framing.{front-is}
use Rattle.op_msg.proofs.Fronts.{short-no-fault, begins-alone}
use Rattle.op_msg.proofs.laws.a_front_is_a_message_a_fault_or_short.Goals as goal

pub returns-clause-one : goal.returns-clause-one
returns-clause-one c = front-is

pub returns-clause-short_alone : goal.returns-clause-short_alone
returns-clause-short_alone c = short-no-fault

pub returns-clause-message_alone : goal.returns-clause-message_alone
returns-clause-message_alone c = begins-alone
