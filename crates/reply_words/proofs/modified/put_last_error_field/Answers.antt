use Rattle.std.proofs.Common.{codes, ◌∷◌, refl}
use Rattle.bson_spelling.specs.Spelling.{cstring, spell}
use Rattle.reply_words.specs.Replies.{last_error}
use Rattle.reply_words.proofs.Appended.{two_more}
use Rattle.reply_words.proofs.modified.put_last_error_field.Goals as goal

pub returns-clause-items : goal.returns-clause-items
returns-clause-items c =
    two_more _ _ _ (3 ∷ cstring (codes "lastErrorObject")) (spell (last_error c.args.removed c.args.existed c.args.upserted.now)) _
    c.put_name.ensures.items c.put_last_error.ensures.items refl
