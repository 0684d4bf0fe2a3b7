use Rattle.std.proofs.Common.{codes, ◌∷◌, refl}
use Rattle.bson_spelling.specs.Spelling.{cstring, spell}
use Rattle.reply_words.proofs.Appended.{two_more}
use Rattle.reply_words.proofs.modified.put_field_of.Goals as goal

pub returns-clause-items : goal.returns-clause-items
returns-clause-items c =
    two_more _ _ _ (3 ∷ cstring (codes "value")) (spell c.args.doc.now) _ c.put_name.ensures.items c.put_document.ensures.items refl
