use Rattle.std.proofs.Common.{Bool, ap, sym, ◌∙◌}
use Rattle.std.proofs.lemmas.List.{append-nil}
use Rattle.reply_words.specs.Written.{update_elements}
use Rattle.reply_words.proofs.Appended.{two_more}
use Rattle.reply_words.proofs.Shown.{removed_told, updated_told}
use Rattle.reply_words.proofs.modified.put_update_told.Goals as goal

pub returns-then-removed-clause-items : goal.returns-then-removed-clause-items
returns-then-removed-clause-items c =
    let existed = c.args.existed in
    let upserted = c.args.upserted.now in
    rw (ap (λ (removed : Bool). update_elements removed existed upserted) c.if-removed.true ∙ removed_told existed upserted)
    (sym (append-nil c.args.out.now.items))

pub returns-clause-items : goal.returns-clause-items
returns-clause-items c =
    let existed = c.args.existed in
    let upserted = c.args.upserted.now in
    two_more _ _ _ _ _ _ c.put_bool.ensures.items c.put_upserted_id.ensures.items
    (ap (λ (removed : Bool). update_elements removed existed upserted) c.if-removed.false ∙ updated_told existed upserted)
