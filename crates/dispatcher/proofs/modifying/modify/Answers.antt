use Rattle.std.proofs.Common.{[], ◌∷◌}
use Rattle.dispatcher.proofs.Passing.{passed}
use Rattle.dispatcher.proofs.Readings.{read-starved, change-done}
use Rattle.dispatcher.proofs.modifying.modify.Goals as goal

pub returns-in_default-clause-done : goal.returns-in_default-clause-done
returns-in_default-clause-done g c = ([], read-starved _ _ _ _ _ _ _ _)

pub returns-clause-done : goal.returns-clause-done
returns-clause-done g c =
    let told = rw (
      passed c.args.number c.ranges.number.sfits,
      passed c.args.request c.ranges.request.sfits,
      c.in-Ok.ensures.space,
      c.removes-removed.ensures,
    ) at c.told_change.ensures in
    (_ ∷ [], change-done _ _ _ _ _ _ _ _ _ _ c.perform-reply.ensures.served told)
