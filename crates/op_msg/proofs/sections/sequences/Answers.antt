use Rattle.op_msg.proofs.Loops.{sequences-start, sequences-end-none, sequences-end-other, sequences-fail, sequences-more}
use Rattle.op_msg.proofs.sections.sequences.Goals.{then-loop-rest-test+else-rest-eq1, else-loop-rest-test}
use Rattle.op_msg.proofs.sections.sequences.Goals as goal

pub loop-rest-init : goal.loop-rest-init
loop-rest-init c = sequences-start _ _ _

pub returns-in-Err-clause-value : goal.returns-in-Err-clause-value
returns-in-Err-clause-value c =
    sequences-fail _ _ _ _ _ _ c.loop-rest.invariant _ c.loop-rest-test.true c.if-rest-eq1.true c.tail.ensures _ c.in-Err.ensures.value

pub loop-rest-preserved : goal.loop-rest-preserved
loop-rest-preserved c =
    sequences-more _ _ _ _ _ _ c.loop-rest.invariant _ _ _ _ _ _ c.loop-rest-test.true c.if-rest-eq1.true c.tail.ensures
    c.in-Ok.ensures.value c.in-Ok.ensures.shorter c.in_default.ensures.ok c.or-foreign.ensures

pub returns-clause-value : goal.returns-clause-value
returns-clause-value c =
    elim c.loop-rest-test.branch [
      | then-loop-rest-test+else-rest-eq1 w ↦ sequences-end-other _ _ _ _ _ _ c.loop-rest.invariant w.if-rest-eq1.false
      | else-loop-rest-test w ↦ sequences-end-none _ _ _ _ _ _ c.loop-rest.invariant w.loop-rest-test.false
    ]
