use Rattle.std.proofs.Common.{Bool, ap, sym, ◌∙◌}
use Rattle.std.proofs.lemmas.List.{append-nil}
use Rattle.reply_words.specs.Written.{changes_elements}
use Rattle.reply_words.proofs.Appended.{two_more}
use Rattle.reply_words.proofs.Ended.{no_changes, changes_are}
use Rattle.reply_words.proofs.items.put_changes.Goals as goal

pub returns-then-update-clause-items : goal.returns-then-update-clause-items
returns-then-update-clause-items c =
    let ends = c.args.ends.now in
    two_more _ _ _ _ _ _ c.put_number.ensures.items c.put_listing.ensures.items
    (ap (λ (update : Bool). changes_elements update ends) c.if-update.true ∙ changes_are c.total.result ends c.total.ensures)

pub returns-else-update-clause-items : goal.returns-else-update-clause-items
returns-else-update-clause-items c =
    let ends = c.args.ends.now in
    rw (ap (λ (update : Bool). changes_elements update ends) c.if-update.false ∙ no_changes ends) (sym (append-nil c.args.out.now.items))
