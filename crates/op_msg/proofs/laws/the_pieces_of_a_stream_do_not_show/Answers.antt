use Rattle.op_msg.proofs.Framing.{cuts-not}
use Rattle.op_msg.proofs.laws.the_pieces_of_a_stream_do_not_show.Goals as goal

pub returns : goal.returns
returns c = cuts-not
