use Rattle.std.proofs.Common.{◌+◌, ◌∙◌, ap, option_map}
use Rattle.bson_values.specs.Names.{first_place, names}
use Rattle.bson_values.proofs.Places.{position_place}
use Rattle.bson_values.proofs.wide.next_in.Goals as goal

pub returns-in-Some : goal.returns-in-Some
returns-in-Some g c =
    ap (option_map (λ further. further + c.args.place))
    (c.in-Some.ensures.value ∙ position_place c.args.name.now c.behind.result.now
    ∙ ap (λ pairs. first_place c.args.name.now (names pairs)) c.behind.ensures)

pub returns-in-None : goal.returns-in-None
returns-in-None g c =
    ap (option_map (λ further. further + c.args.place))
    (c.in-None.ensures.value ∙ position_place c.args.name.now c.behind.result.now
    ∙ ap (λ pairs. first_place c.args.name.now (names pairs)) c.behind.ensures)
