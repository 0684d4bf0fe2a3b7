use Rattle.doc_effects.proofs.Ending.{removed_ends}
use Rattle.doc_effects.proofs.outcomes.removed.Goals as goal

pub returns : goal.returns
returns c =
    removed_ends c.args.shape.now c.args.first.now.row c.args.first.now.doc _ _ c.requires.sound c.requires.is_of
    c.in_ok-reply.ensures.value c.in_ok-reply.ensures.fits (rw c.new-edits.ensures at c.in_ok-remove_row.ensures)
