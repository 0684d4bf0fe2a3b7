use Rattle.op_msg.proofs.Loops.{documents-end, documents-fail, documents-more}
use Rattle.op_msg.proofs.sections.documents.Goals as goal

pub returns-in-Err : goal.returns-in-Err
returns-in-Err c = documents-fail _ _ _ _ _ _ c.loop-rest.invariant c.loop-rest-test.true _ c.in-Err.ensures.value

pub loop-rest-preserved : goal.loop-rest-preserved
loop-rest-preserved c = documents-more _ _ _ _ _ _ c.loop-rest.invariant _ _ _ _ _ c.loop-rest-test.true c.in-Ok.ensures.value
    c.in-Ok.ensures.shorter c.in_default.ensures.ok c.or-foreign.ensures

pub returns : goal.returns
returns c = documents-end _ _ _ _ _ _ c.loop-rest.invariant c.loop-rest-test.false
