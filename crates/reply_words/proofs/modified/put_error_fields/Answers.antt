use Rattle.reply_words.proofs.Appended.{two_more}
use Rattle.reply_words.proofs.Shown.{error_fields_are}
use Rattle.reply_words.proofs.modified.put_error_fields.Goals as goal

pub returns-clause-items : goal.returns-clause-items
returns-clause-items c =
    two_more _ _ _ _ _ _ c.put_int.ensures.items c.put_update_told.ensures.items
    (error_fields_are c.args.removed c.args.existed c.args.upserted.now c.count_of.result c.count_of.ensures)
