use Rattle.std.proofs.Common.{◌∙◌}
use Rattle.command_words.proofs.Lookups.{word_told}
use Rattle.command_words.proofs.tables.word_of.Goals as goal

pub returns : goal.returns
returns c = c.find_word.ensures ∙ word_told c.commands.result.now c.args.name.now c.commands.ensures
