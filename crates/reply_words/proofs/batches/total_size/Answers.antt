use Rattle.std.proofs.Common.{arith}
use Rattle.reply_words.proofs.Totals.{total-all}
use Rattle.std_words.proofs.Parts.{empty}
use Rattle.reply_words.proofs.batches.total_size.Goals as goal

pub returns : goal.returns
returns c = total-all _ _ _ (empty _ (omega (arith, c.in_default.len_below))) c.loop-rest.invariant.small c.loop-rest.invariant.sum
