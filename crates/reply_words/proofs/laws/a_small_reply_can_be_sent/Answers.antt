use Rattle.reply_words.proofs.Fitting.{fits}
use Rattle.reply_words.proofs.laws.a_small_reply_can_be_sent.Goals as goal

pub returns : goal.returns
returns c = fits
