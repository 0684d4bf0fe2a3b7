use Rattle.std.proofs.Common.{arith}
use Rattle.reply_words.proofs.Shown.{document_sized, document_short}
use Rattle.reply_words.proofs.modified.modified_size.Goals as goal

pub returns-clause-bound : goal.returns-clause-bound
returns-clause-bound c short whole =
    let upserted = c.args.upserted.now in
    let value = c.args.value.now in
    omega (
      arith,
      document_short c.args.removed c.args.existed upserted value short whole,
      document_sized c.args.removed c.args.existed upserted value,
      c.update_len.ensures,
      c.shown_len.ensures,
      c.saturating_add.ensures,
      c.saturating_add-2.ensures,
    )
