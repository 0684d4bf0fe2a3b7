use Rattle.std.proofs.Common.{arith, ap, length}
use Rattle.bson_values.specs.declared.value.Value.{Value}
use Rattle.bson_spelling.specs.declared.form.Form.TheVariants.{Bson}
use Rattle.bson_spelling.specs.Spelling.{held}
use Rattle.reply_words.specs.Replies.{done, total}
use Rattle.reply_words.proofs.Ended.{document_sized, document_short, number_by}
use Rattle.reply_words.proofs.sizes.items_size.Goals as goal

pub returns-clause-bound : goal.returns-clause-bound
returns-clause-bound c few short =
    let ends = c.args.ends.now in
    omega (
      arith,
      document_short c.args.update ends few short,
      document_sized c.args.update ends,
      c.listing_element_len.ensures,
      c.changes_len.ensures,
      c.saturating_add.ensures,
      c.saturating_add-2.ensures,
      c.number_len-count.ensures.value,
      ap (λ (it : Value). length (held Bson it).1) (number_by c.total.result (total done ends) c.total.ensures),
    )
