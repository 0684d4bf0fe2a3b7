use Rattle.std.proofs.Common.{ap, sym, ◌∙◌}
use Rattle.bson_values.specs.Names.{names}
use Rattle.bson_values.proofs.Places.{is_before}
use Rattle.command_words.proofs.Twice.{stood}
use Rattle.command_words.proofs.names.stands_before.Goals as goal

pub returns-in-Some : goal.returns-in-Some
returns-in-Some c =
    ap (λ found. is_before found c.args.place) c.in-Some.ensures.value
    ∙ sym (stood c.args.name.now (names c.args.document.now) c.args.place)

pub returns-in-None : goal.returns-in-None
returns-in-None c =
    ap (λ found. is_before found c.args.place) c.in-None.ensures.value
    ∙ sym (stood c.args.name.now (names c.args.document.now) c.args.place)
