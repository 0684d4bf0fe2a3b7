use Rattle.doc_server.proofs.Sure.{no_fault}
use Rattle.doc_server.proofs.laws.a_keeper_that_cannot_fail_has_no_fault.Goals as goal

pub returns : goal.returns
returns c = no_fault
