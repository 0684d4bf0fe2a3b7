use Rattle.std.proofs.Common.{◌≡◌, sym, ap, ◌∙◌, subst}
use Rattle.std.specs.Prelude.{option_map, IfOk}
use Rattle.bson_values.specs.declared.value.Value.{Value}
use Rattle.bson_values.specs.declared.pairs.Pair.{Pair}
use Rattle.bson_values.proofs.Places.{first_there, first_not_there}
use Rattle.command_words.proofs.Moved.{docs_by}
use Rattle.command_words.proofs.documents.documents_named.Goals as goal

pub returns-in-Some : goal.returns-in-Some
returns-in-Some c =
    let there = first_there c.args.name.now c.args.message.body c.in-Some.place c.in-Some.ensures.value in
    let value = ap (option_map (λ (pair : Pair Value). pair.value)) c.in_ok-remove-in-Some.ensures.value in
    let same = ap (docs_by c.args.message c.args.name.now) (sym (there ∙ value)) in
    subst (λ docs. IfOk c.documents_in.result (λ it. it ≡ docs)) same c.documents_in.ensures

pub returns : goal.returns
returns c =
    let nowhere = first_not_there c.args.name.now c.args.message.body c.in-None.ensures.value in
    c.documents_beside.ensures ∙ ap (docs_by c.args.message c.args.name.now) (sym nowhere)
