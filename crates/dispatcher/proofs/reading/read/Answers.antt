use Rattle.std.proofs.Common.{[], ◌∷◌}
use Rattle.dispatcher.proofs.Passing.{passed}
use Rattle.dispatcher.proofs.Readings.{read-starved, read-done}
use Rattle.dispatcher.proofs.reading.read.Goals as goal

pub returns-in_default-clause-done : goal.returns-in_default-clause-done
returns-in_default-clause-done g c = ([], read-starved _ _ _ _ _ _ _ _)

pub returns-clause-done : goal.returns-clause-done
returns-clause-done g c =
    let told = rw (passed c.args.number c.ranges.number.sfits, passed c.args.request c.ranges.request.sfits, c.in-Ok.ensures) at c.told.ensures in
    (_ ∷ [], read-done _ _ _ _ _ _ _ _ _ _ _ c.perform-reply.ensures.served (c.perform-reply.ensures.keeps c.requires.reads) told)
