use Rattle.std.proofs.Common.{◌∙◌, Some}
use Rattle.keyed_rows.proofs.Places.{updated}
use Rattle.keyed_rows.proofs.index.add.Goals as goal

pub returns-clause-ok : goal.returns-clause-ok
returns-clause-ok c =
    updated c.in_ok-key.key.items c.args.key.now c.args.index.now c.insert.new.self (Some c.args.place)
    (c.in_ok-key.ensures.items ∙ c.as_slice.ensures)
    c.in_ok-insert.ensures.updates
