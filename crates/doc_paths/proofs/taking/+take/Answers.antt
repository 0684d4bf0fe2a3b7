use Rattle.std.proofs.Common.{rules, ◌≡◌, ◌∷◌}
use Rattle.doc_paths.proofs.Levels.{field_absent, field_takes, field_removed, item_absent, item_takes}
use Rattle.doc_paths.proofs.taking.+take.Goals as goal

pub take_field-returns-in-None : goal.take_field-returns-in-None
take_field-returns-in-None t c = field_absent c.args.part.now c.args.rest.now c.args.doc.now c.in-None.ensures.value

pub take_field-returns-in-None-split_first : goal.take_field-returns-in-None-split_first
take_field-returns-in-None-split_first t c =
    field_removed c.remove_field.result c.args.part.now c.args.rest.now c.args.doc.now _ c.in-Some.place
    c.in-None-split_first.ensures.cases c.in-Some.ensures.value c.remove_field.ensures

pub take_field-returns-in-Ok : goal.take_field-returns-in-Ok
take_field-returns-in-Ok t c =
    let more : c.args.rest.now ≡ c.as_str.result.now ∷ c.in-Some-split_first.others.now = search rules in
    field_takes c.take_in.result c.args.part.now c.as_str.result.now c.args.rest.now c.in-Some-split_first.others.now c.args.doc.now
    c.in-Some.place c.in-Ok.it.now _
    more c.in-Some.ensures.value c.in-Ok.ensures.value c.take_in.ensures

pub take_item-returns-in-None : goal.take_item-returns-in-None
take_item-returns-in-None t c = item_absent c.args.part.now c.args.rest.now c.args.items.now c.in-None.ensures

pub take_item-returns-in-Some-split_first : goal.take_item-returns-in-Some-split_first
take_item-returns-in-Some-split_first t c =
    let more : c.args.rest.now ≡ c.as_str.result.now ∷ c.in-Some-split_first.others.now = search rules in
    item_takes c.take_in.result c.args.part.now c.as_str.result.now c.args.rest.now c.in-Some-split_first.others.now c.args.items.now
    c.in-Some.place c.in-Some-get_mut.it.now _
    more c.in-Some.ensures c.in-Some-get_mut.ensures.value c.take_in.ensures
