use Rattle.std.proofs.Common.{length}
use Rattle.op_msg.proofs.Loops.{SequencesGo}
use Rattle.op_msg.proofs.sections.sequences.Given as goal

abbrev pub invariant-loop-rest : goal.invariant-loop-rest
invariant-loop-rest l = SequencesGo l.end l.fn.before l.bytes l.rest l.sequences l.foreign

abbrev pub decreases-loop-rest : goal.decreases-loop-rest
decreases-loop-rest l = length l.rest
