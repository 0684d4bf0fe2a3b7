use Rattle.std.proofs.Common.{suc, ◌≡◌, ◌<◌, ◌≤◌, ◌^◌, ◌||◌, false, [], length, sym, ap, ◌∙◌, arith, below_more}
use Rattle.std.proofs.lemmas.List.{get_or_default}
use Rattle.bson_values.specs.declared.value.Value.TheVariants as value
use Rattle.filter_match.specs.Tails.{is_open, some_open, answers, answers_behind}
use Rattle.filter_match.proofs.Following.{scalar_asked, by_element, name_answers, name_left, left_more, by_document, by_place}
use Rattle.filter_match.proofs.matching.+walk.Goals as goal
use Rattle.filter_match.proofs.matching.+walk.Goals.{any_in_fields-then-left-place+else-any_behind, any_in_fields-else-left-place}

pub any_beyond-returns-in-Arr : goal.any_beyond-returns-in-Arr
any_beyond-returns-in-Arr t c =
    c.any_in_items.ensures ∙ sym (by_element c.args.ask c.args.parts.now c.args.marks.now c.in-Arr.items)
    ∙ ap (λ it. some_open c.args.marks.now (length c.args.parts.now) (answers c.args.ask c.args.parts.now it)) (sym c.in-Arr.is)

pub any_beyond-returns-in_default : goal.any_beyond-returns-in_default
any_beyond-returns-in_default t c =
    c.ask_missing.ensures ∙ sym (
    scalar_asked c.args.ask c.args.parts.now c.args.marks.now c.args.value.now c.in_default.not-Doc c.in_default.not-Arr
    (sym c.if-not-is_any_open.ensures))

pub any_in_fields-returns-then-any_behind : goal.any_in_fields-returns-then-any_behind
any_in_fields-returns-then-any_behind t c =
    sym (c.loop-place.invariant.0
    ∙ name_answers c.args.ask c.args.parts.now c.in-Some.field-0-0.now c.in-Some.rest.now c.args.document.now c.as_str-name.result.now
    c.loop-place.left c.with_name-named.result c.in-Some.ensures.cases.0 c.with_name-named.ensures
    (c.if-any_behind.ensures
    ∙ ap (λ it. some_open c.with_name-named.result (suc (length c.in-Some.rest.now))
    (answers_behind c.args.ask c.in-Some.rest.now it)) c.get.ensures))

pub any_in_fields-loop-place-preserved : goal.any_in_fields-loop-place-preserved
any_in_fields-loop-place-preserved t c =
    let parts = c.args.parts.now in
    let place = c.loop-place.place in
    let low : place < length parts = omega arith in
    let few : length parts ≤ 100 = c.requires in
    let test = answers c.args.ask parts (value.Doc c.args.document.now) in
    elim c.if-left-place.branch [
      | any_in_fields-then-left-place+else-any_behind w ↦ (
        c.loop-place.invariant.0
            ∙ name_left c.args.ask parts c.in-Some.field-0-0.now c.in-Some.rest.now c.args.document.now w.as_str-name.result.now
            c.loop-place.left w.with_name-named.result w.without-left.result c.in-Some.ensures.cases.0 few w.with_name-named.ensures w.without-left.ensures
            (w.if-any_behind.ensures
            ∙ ap (λ it. some_open w.with_name-named.result (suc (length c.in-Some.rest.now))
            (answers_behind c.args.ask c.in-Some.rest.now it)) w.get.ensures)
            ∙ ap (λ marks. some_open marks (length parts) test) (sym w.left-is),
        λ k h. ap (λ marks. is_open marks k) w.left-is
            ∙ left_more parts w.as_str-name.result.now c.loop-place.left w.with_name-named.result w.without-left.result place low few
            w.with_name-named.ensures w.without-left.ensures
            (get_or_default parts place [] c.index-parts-place.result low ∙ sym c.index-parts-place.is ∙ sym w.as_str-name.ensures)
            c.loop-place.invariant.1 k h,
      )
      | any_in_fields-else-left-place w ↦ (
        c.loop-place.invariant.0 ∙ ap (λ marks. some_open marks (length parts) test) (sym w.left-is),
        λ k h. ap (λ marks. is_open marks k) w.left-is
            ∙ below_more (λ k. is_open c.loop-place.left k ≡ false) place c.loop-place.invariant.1 w.if-left-place.false k h,
      )
    ]

pub any_in_item-returns-then-is_asked : goal.any_in_item-returns-then-is_asked
any_in_item-returns-then-is_asked t c =
    let low : c.args.place < 2 ^ 64 = omega arith in
    c.if-is_asked.true
    ∙ sym (by_document c.args.ask c.args.parts.now c.in-Some.field-0-0.now c.in-Some.rest.now c.args.places.now c.args.marks.now
    c.at_place-here.result c.with_rests-all.result c.args.place c.args.item.now c.in-Doc.document c.in-Some.ensures.cases.0 c.in-Doc.is
    c.requires.few c.requires.told low c.at_place-here.ensures c.with_rests-all.ensures
    ∙ ap (λ b. b || some_open c.with_rests-all.result (length c.args.parts.now)
    (answers c.args.ask c.args.parts.now (value.Doc c.in-Doc.document)))
    (sym c.if-is_asked.ensures))

pub any_in_item-returns-else-is_asked : goal.any_in_item-returns-else-is_asked
any_in_item-returns-else-is_asked t c =
    let low : c.args.place < 2 ^ 64 = omega arith in
    c.any_in_fields.ensures
    ∙ sym (by_document c.args.ask c.args.parts.now c.in-Some.field-0-0.now c.in-Some.rest.now c.args.places.now c.args.marks.now
    c.at_place-here.result c.with_rests-all.result c.args.place c.args.item.now c.in-Doc.document c.in-Some.ensures.cases.0 c.in-Doc.is
    c.requires.few c.requires.told low c.at_place-here.ensures c.with_rests-all.ensures
    ∙ ap (λ b. b || some_open c.with_rests-all.result (length c.args.parts.now)
    (answers c.args.ask c.args.parts.now (value.Doc c.in-Doc.document)))
    (sym c.if-is_asked.ensures))

pub any_in_item-returns-in_default-item : goal.any_in_item-returns-in_default-item
any_in_item-returns-in_default-item t c =
    let low : c.args.place < 2 ^ 64 = omega arith in
    c.any_from_value.ensures
    ∙ sym (by_place c.args.ask c.args.parts.now c.in-Some.field-0-0.now c.in-Some.rest.now c.args.places.now c.args.marks.now
    c.at_place-here.result c.args.place c.args.item.now c.in-Some.ensures.cases.0 c.requires.few c.requires.told low c.at_place-here.ensures
    c.in_default-item.not-Doc)
