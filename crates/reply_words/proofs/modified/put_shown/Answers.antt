use Rattle.std.proofs.Common.{codes, ap, sym, ◌++◌, ◌∙◌, ℕ, List, Option}
use Rattle.bson_values.specs.declared.pairs.Pair.{Pair}
use Rattle.bson_values.specs.declared.value.Value.{Value}
use Rattle.bson_spelling.specs.declared.form.Form.TheVariants.{Bson}
use Rattle.bson_spelling.specs.Spelling.{element_of, held}
use Rattle.reply_words.specs.Replies.{shown}
use Rattle.reply_words.proofs.Shown.{doc_held}
use Rattle.reply_words.proofs.modified.put_shown.Goals as goal

pub returns-in-Some-clause-items : goal.returns-in-Some-clause-items
returns-in-Some-clause-items c =
    c.put_field_of.ensures.items
    ∙ ap (λ (it : ℕ × List ℕ). c.args.out.now.items ++ element_of (codes "value") it)
    (sym (ap (λ (it : Option (List (Pair Value))). held Bson (shown it)) c.in-Some.is ∙ doc_held c.in-Some.doc))
