use Rattle.doc_effects.proofs.Editing.{removes_row}
use Rattle.doc_effects.proofs.edits.remove_row.Goals as goal

pub returns : goal.returns
returns c =
    removes_row c.args.row.now c.in_ok-edit.edit c.args.edits.now _ c.requires c.in_ok-edit.ensures.short c.in_ok-edit.ensures.edit
    c.in_ok-add.ensures.ok
