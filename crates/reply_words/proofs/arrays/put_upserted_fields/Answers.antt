use Rattle.reply_words.proofs.Appended.{two_more}
use Rattle.reply_words.proofs.Listed.{upserted_is}
use Rattle.reply_words.proofs.arrays.put_upserted_fields.Goals as goal

pub returns-clause-items : goal.returns-clause-items
returns-clause-items c =
    two_more _ _ _ _ _ _ c.put_int.ensures.items c.put_value.ensures.items (upserted_is c.args.index c.args.id.now)
