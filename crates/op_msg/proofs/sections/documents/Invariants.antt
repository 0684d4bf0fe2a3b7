use Rattle.std.proofs.Common.{length}
use Rattle.op_msg.proofs.Loops.{DocumentsGo}
use Rattle.op_msg.proofs.sections.documents.Given as goal

abbrev pub invariant-loop-rest : goal.invariant-loop-rest
invariant-loop-rest l = DocumentsGo l.end l.section l.bytes l.rest l.docs l.foreign

abbrev pub decreases-loop-rest : goal.decreases-loop-rest
decreases-loop-rest l = length l.rest
