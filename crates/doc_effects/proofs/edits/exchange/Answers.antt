use Rattle.std.proofs.Common.{sym, ◌∙◌}
use Rattle.doc_effects.proofs.Renewing.{kept_id_may, no_lost_id, other_row, same_row}
use Rattle.doc_effects.proofs.edits.exchange.Goals as goal

pub unreachable-requires : goal.unreachable-requires
unreachable-requires c =
    no_lost_id c.args.row.now c.args.new.now c.requires.sound c.requires.id (rw c.in_default.is at c.get.ensures)

pub row_for-requires-clause-may : goal.row_for-requires-clause-may
row_for-requires-clause-may c =
    kept_id_may c.args.row.now c.args.new.now c.in-Some.id.now c.requires.sound c.requires.id c.in-Some.ensures

pub returns-then-is_same_text : goal.returns-then-is_same_text
returns-then-is_same_text c =
    same_row c.args.row.now _ c.args.new.now _ c.requires.sound c.in_ok-made.ensures (sym c.is_same_text.ensures ∙ c.if-is_same_text.true)

pub returns-else-is_same_text : goal.returns-else-is_same_text
returns-else-is_same_text c =
    other_row c.args.row.now _ c.args.new.now _ c.requires.sound c.in_ok-made.ensures (sym c.is_same_text.ensures ∙ c.if-is_same_text.false)
