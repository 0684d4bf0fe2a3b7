use Rattle.std.proofs.Common.{rules}
use Rattle.reply_words.proofs.Appended.{three_more}
use Rattle.reply_words.proofs.Listed.{item_is}
use Rattle.reply_words.proofs.arrays.put_error_fields.Goals as goal

pub returns-clause-items : goal.returns-clause-items
returns-clause-items c =
    three_more _ _ _ _ _ _ _ _ c.put_int.ensures.items c.put_int-2.ensures.items c.put_text.ensures.items
    (item_is c.args.index c.args.kind c.from.result c.text_of.result.now (search rules) c.text_of.ensures)
