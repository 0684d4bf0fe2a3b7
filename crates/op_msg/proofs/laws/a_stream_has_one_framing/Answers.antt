use Rattle.op_msg.proofs.Framing.{one-framing}
use Rattle.op_msg.proofs.laws.a_stream_has_one_framing.Goals as goal

pub returns : goal.returns
returns c = one-framing
