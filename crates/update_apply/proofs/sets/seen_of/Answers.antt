use Rattle.update_apply.proofs.Noted.{tells_next}
use Rattle.update_apply.proofs.sets.seen_of.Goals as goal

pub loop-value-preserved : goal.loop-value-preserved
loop-value-preserved c =
    tells_next c.loop-value.seen c.note.new.seen c.args.values.now c.loop-value.value-index _ c.loop-value-test.true c.value-item.is
    c.loop-value.invariant c.in_ok-note.ensures
