use Rattle.std.proofs.Common.{arith}
use Rattle.reply_words.proofs.Listed.{upserted_end_by}
use Rattle.reply_words.proofs.sizes.upserted_len.Goals as goal

pub returns-in-Some : goal.returns-in-Some
returns-in-Some c = omega (
  arith,
  c.place_len.ensures.value,
  c.place_len.ensures.few,
  c.content_len.ensures,
  c.saturating_add.ensures,
  upserted_end_by c.args.place _ _ c.args.end.now _ _ c.in-Done.is c.in-Some.is,
)
