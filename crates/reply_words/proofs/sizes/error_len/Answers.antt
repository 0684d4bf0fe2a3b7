use Rattle.std.proofs.Common.{arith, ap, length}
use Rattle.case_tables.proofs.Bounds.{text_short}
use Rattle.reply_words.specs.declared.ends.ItemEnd.{ItemEnd}
use Rattle.reply_words.specs.declared.listing.Listing.TheVariants.{Errors}
use Rattle.reply_words.specs.Written.{end_items}
use Rattle.reply_words.proofs.Listed.{error_end_sized}
use Rattle.reply_words.proofs.sizes.error_len.Goals as goal

pub returns-in-Refused : goal.returns-in-Refused
returns-in-Refused c = omega (
  arith,
  c.place_len.ensures.value,
  c.place_len.ensures.few,
  ap length c.text_of.ensures,
  text_short c.in-Refused.kind,
  ap (λ (end : ItemEnd). length (end_items Errors c.args.place 0 end)) c.in-Refused.is,
  error_end_sized c.args.place 0 c.in-Refused.kind,
)
