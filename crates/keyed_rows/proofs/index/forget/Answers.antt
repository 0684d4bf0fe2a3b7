use Rattle.std.proofs.Common.{None}
use Rattle.keyed_rows.proofs.Places.{updated}
use Rattle.keyed_rows.proofs.index.forget.Goals as goal

pub returns-clause-others : goal.returns-clause-others
returns-clause-others c =
    updated c.as_slice.result.now c.args.key.now c.args.index.now c.remove.new.self None c.as_slice.ensures c.remove.ensures.updates
