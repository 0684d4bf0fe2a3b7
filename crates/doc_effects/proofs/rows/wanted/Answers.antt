use Rattle.doc_effects.proofs.Keys.{plain_doc}
use Rattle.doc_effects.proofs.rows.wanted.Goals as goal

pub returns-then-matches-clause-plain : goal.returns-then-matches-clause-plain
returns-then-matches-clause-plain c = plain_doc c.args.row.now c.in_ok-doc.doc c.requires c.in_ok-doc.ensures
