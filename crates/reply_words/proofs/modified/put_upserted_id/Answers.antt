use Rattle.std.proofs.Common.{ap, sym, ◌∙◌}
use Rattle.std.proofs.lemmas.List.{append-nil}
use Rattle.reply_words.specs.Written.{upserted_element}
use Rattle.reply_words.proofs.Shown.{none_told}
use Rattle.reply_words.proofs.modified.put_upserted_id.Goals as goal

pub returns-in-None-clause-items : goal.returns-in-None-clause-items
returns-in-None-clause-items c = rw (ap upserted_element c.in-None.is ∙ none_told) (sym (append-nil c.args.out.now.items))
