use Rattle.reply_words.proofs.Appended.{four_more}
use Rattle.reply_words.proofs.Ended.{inside_is}
use Rattle.reply_words.proofs.items.put_fields.Goals as goal

pub returns-clause-items : goal.returns-clause-items
returns-clause-items c =
    four_more _ _ _ _ _ _ _ _ _ _ c.put_number.ensures.items c.put_changes.ensures.items c.put_listing.ensures.items c.put_int.ensures.items
    (inside_is c.total.result c.args.update c.args.ends.now c.total.ensures)
