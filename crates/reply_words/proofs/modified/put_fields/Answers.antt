use Rattle.reply_words.proofs.Appended.{three_more}
use Rattle.reply_words.proofs.Shown.{fields_are}
use Rattle.reply_words.proofs.modified.put_fields.Goals as goal

pub returns-clause-items : goal.returns-clause-items
returns-clause-items c =
    three_more _ _ _ _ _ _ _ _ c.put_last_error_field.ensures.items c.put_shown.ensures.items c.put_int.ensures.items
    (fields_are c.args.removed c.args.existed c.args.upserted.now c.args.value.now)
