use Rattle.std.proofs.Common.{ap, sym, ◌∙◌}
use Rattle.std.specs.Prelude.{is_some}
use Rattle.bson_values.specs.Names.{names}
use Rattle.command_words.proofs.Twice.{there}
use Rattle.command_words.proofs.names.stands_in.Goals as goal

pub returns-in-Some : goal.returns-in-Some
returns-in-Some c = ap is_some c.in-Some.ensures.value ∙ sym (there c.args.name.now (names c.args.document.now))

pub returns-in-None : goal.returns-in-None
returns-in-None c = ap is_some c.in-None.ensures.value ∙ sym (there c.args.name.now (names c.args.document.now))
