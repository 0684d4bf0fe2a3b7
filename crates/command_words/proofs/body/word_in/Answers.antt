use Rattle.std.proofs.Common.{◌∙◌}
use Rattle.command_words.proofs.Lookups.{word_first}
use Rattle.command_words.proofs.body.word_in.Goals as goal

pub returns-in-len1-up : goal.returns-in-len1-up
returns-in-len1-up c =
    c.word_of.ensures
    ∙ word_first c.args.fields.now c.field-item.result c.as_str.result.now c.in-len1-up.len_at_least c.field-item.is c.as_str.ensures
