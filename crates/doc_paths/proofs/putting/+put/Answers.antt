use Rattle.std.proofs.Common.{rules, ◌∙◌, ◌≤◌, length, sym, ap, Ok, slice_set}
use Rattle.bson_values.specs.Lending.{with_value}
use Rattle.doc_paths.specs.Changes.{put_below}
use Rattle.doc_paths.proofs.Levels.{puts_on, field_there, field_last, with_value_same, slice_set_same, item_there, item_last}
use Rattle.doc_paths.proofs.putting.+put.Goals as goal

pub put_into_doc-returns-in-Ok : goal.put_into_doc-returns-in-Ok
put_into_doc-returns-in-Ok t c =
    puts_on c.put_there.result (with_value c.args.doc.now c.in-Some.place) _ _ _ _ _
    (field_there c.args.part.now (put_below c.args.rest.now c.args.new) c.args.doc.now c.in-Some.place c.in-Ok.it.now
    c.in-Some.ensures.value c.in-Ok.ensures.value)
    (with_value_same c.args.doc.now c.in-Some.place c.in-Ok.it.now c.in-Ok.ensures.value)
    c.put_there.ensures

pub put_into_doc-returns-in-Ok-put_last : goal.put_into_doc-returns-in-Ok-put_last
put_into_doc-returns-in-Ok-put_last t c =
    field_last c.args.part.now (put_below c.args.rest.now c.args.new) c.args.doc.now c.in-None.ensures.value ∙ c.in-Ok-put_last.ensures.ok

pub put_into_array-returns-in-Some : goal.put_into_array-returns-in-Some
put_into_array-returns-in-Some t c =
    puts_on c.put_there.result (slice_set c.args.items.now c.in_ok-place.place) _ _ _ _ _
    (item_there c.args.part.now (put_below c.args.rest.now c.args.new) c.args.items.now c.in_ok-place.place c.in-Some.it.now
    c.in_ok-place.ensures c.in-Some.ensures.value)
    (slice_set_same c.args.items.now c.in_ok-place.place c.in-Some.it.now c.in-Some.ensures.value)
    c.put_there.ensures

pub put_into_array-returns-in-Ok-put_behind : goal.put_into_array-returns-in-Ok-put_behind
put_into_array-returns-in-Ok-put_behind t c =
    let past : length c.args.items.now ≤ c.in_ok-place.place = search rules in
    item_last c.args.part.now (put_below c.args.rest.now c.args.new) c.args.items.now c.in_ok-place.place c.in-Ok.it
    c.in_ok-place.ensures past c.in-Ok.ensures
    ∙ ap Ok (sym c.in-Ok-put_behind.ensures.ok)
