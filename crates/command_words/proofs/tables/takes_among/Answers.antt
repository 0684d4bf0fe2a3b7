use Rattle.std.proofs.Common.{◌∙◌, ap}
use Rattle.std.specs.Option.{unwrap_or}
use Rattle.command_words.specs.declared.takes.Takes.TheVariants.{Unknown}
use Rattle.command_words.proofs.Lookups.{takes_told}
use Rattle.command_words.proofs.tables.takes_among.Goals as goal

pub returns : goal.returns
returns c = c.unwrap_or.ensures ∙ ap (λ found. unwrap_or found Unknown) c.find_takes.ensures ∙ takes_told c.args.rows.now c.args.name.now
