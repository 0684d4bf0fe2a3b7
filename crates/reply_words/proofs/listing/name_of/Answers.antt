use Rattle.std.proofs.Common.{ap, sym, codes}
use Rattle.reply_words.specs.declared.listing.Listing.{Listing}
use Rattle.reply_words.specs.Written.{name_of}
use Rattle.reply_words.proofs.listing.name_of.Goals as goal

pub returns-in-Errors : goal.returns-in-Errors
returns-in-Errors c = ap (λ (it : Listing). codes (name_of it)) (sym c.in-Errors.is)

pub returns-in-Upserted : goal.returns-in-Upserted
returns-in-Upserted c = ap (λ (it : Listing). codes (name_of it)) (sym c.in-Upserted.is)
