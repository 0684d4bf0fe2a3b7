use Rattle.doc_effects.proofs.Ending.{changed_ends}
use Rattle.doc_effects.proofs.outcomes.changed.Goals as goal

pub returns-clause-ok : goal.returns-clause-ok
returns-clause-ok c =
    changed_ends c.args.update.now c.args.now c.args.fresh c.args.shape.now c.args.first.now.row c.args.first.now.doc _ _ _
    c.requires.sound c.requires.is_of c.in_ok-new.ensures.ok (rw c.new-edits.ensures at c.in_ok-add_row.ensures)
    (rw c.chosen.ensures at c.in_ok-reply.ensures.value) (rw c.chosen.ensures at c.in_ok-reply.ensures.fits)
