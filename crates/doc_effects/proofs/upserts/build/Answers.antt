use Rattle.doc_effects.proofs.Upserting.{if_built}
use Rattle.doc_effects.proofs.upserts.build.Goals as goal

pub returns-clause-ok : goal.returns-clause-ok
returns-clause-ok c =
    if_built c.args.who c.args.now c.args.filter.now c.args.update.now c.in_ok-made.made c.in_ok-made.ensures.ok c.with_row.result
    c.with_row.ensures.ok
