use Rattle.history_lock.proofs.Closes.{ends, is-here, may-close}
use Rattle.history_lock.proofs.steps.take_apart.Goals as goal

pub unreachable-requires : goal.unreachable-requires
unreachable-requires g c =
    let closing = may-close _ _ _ _ _ _ _ c.requires.table.2 c.requires.free c.requires.all c.close_with-closed.ensures.values.2 in
    c.in_default.not-Here closing.object (is-here _ _ _ _ _ closing _ c.take.ensures.value)

pub returns : goal.returns
returns g c =
    ends _ _ _ _ _ (may-close _ _ _ _ _ _ _ c.requires.table.2 c.requires.free c.requires.all c.close_with-closed.ensures.values.2)
    _ _ _ c.take.ensures.value c.in-Here.is c.word-count.ensures
