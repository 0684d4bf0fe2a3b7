use Rattle.std.proofs.Common.{ℕ, ◌≡◌, ◌≤◌, ◌<◌, ◌+◌, ◌^◌, ◌∙◌, drop, [], ◌∷◌, suc, if◌then◌else◌, length, Some}
use Rattle.std.proofs.Common.{slice_index_or, sym, ap, subst, arith}
use Rattle.std.proofs.lemmas.Grind.{common_steps}
use Rattle.std.proofs.lemmas.List.{get_or_default, drop_more, drop_all}
use Rattle.std.specs.Option.{option_map}
use Rattle.std.proofs.lemmas.Option.{slice_get-get_or}
use Rattle.bson_values.specs.declared.pairs.Pair.{Pair}
use Rattle.std.specs.Str.{bytes_eq}
use Rattle.bson_values.specs.Names.{first_of}
use Rattle.bson_values.specs.declared.value.Value.{Value, out-Value}
use Rattle.doc_shape.specs.Keys.{sooner}
use Rattle.doc_shape.specs.Bests.{best_at, is_unasked, kept, told_behind, told_here, told_in_docs, part_at, ArePlaces, is_at, is_doc}
use Rattle.doc_shape.proofs.Tails.{all_so, scalar_told, behind_there, behind_not, fields_step, fields_stay, all_unasked, neither}
use Rattle.doc_shape.proofs.Tails.{Asked, Told, here_is, below_is}
use Rattle.doc_shape.proofs.Tails.{here_step, below_step, none_here, none_below, items_told}
use Rattle.doc_shape.proofs.Firsts.{sooner_none}
use Rattle.bson_values.proofs.Places.{first_there, first_not_there, place_within}
use Rattle.std.specs.List.{list_any}
use Rattle.doc_shape.specs.declared.bests.Best.TheVariants as best
use Rattle.doc_shape.proofs.walking.+walk.Goals as goal
use Rattle.doc_shape.proofs.walking.+walk.Goals.{best_in_fields-then-was_unasked, best_in_fields-in-None, best_in_fields-in-Some}
use Rattle.doc_shape.proofs.walking.+walk.Goals.{best_in_fields-else-was_unasked}
use Rattle.doc_shape.proofs.walking.+walk.Goals.{best_in_items-then-leads_on, best_in_items-else-leads_on}

pub best_beyond-returns-in_default : goal.best_beyond-returns-in_default
best_beyond-returns-in_default t c = λ k low high before.
    all_so best.Missing k (omega (arith, before, c.requires.few))
    ∙ sym (scalar_told c.args.way.now c.args.value.now k before c.in_default.not-Doc c.in_default.not-Arr)

pub best_in_fields-loop-k-init : goal.best_in_fields-loop-k-init
best_in_fields-loop-k-init t c =
    let same = ap length (c.parts-parts.ensures.same ∙ ap (λ p. p.0) c.way.view_is) in (
      λ k low high asked. absurd (all_unasked k (omega
          (arith, high, c.min-end.ensures, c.parts-parts.ensures.few, ap length c.parts-parts.ensures.same)) asked),
      λ k low high. absurd (omega (arith, low, high)),
      grind (arith, common_steps),
    )

pub best_in_fields-loop-k-preserved : goal.best_in_fields-loop-k-preserved
best_in_fields-loop-k-preserved t c =
    let way = c.args.way.now in
    let doc = c.args.document.now in
    let k = c.loop-k.k in
    let parts_are = c.parts-parts.ensures.same ∙ ap (λ p. p.0) c.way.view_is in
    let within : c.min-end.result ≤ length way.0 = omega (arith, c.min-end.ensures, ap length parts_are) in
    elim c.if-was_unasked.branch [
      | best_in_fields-then-was_unasked w ↦
          let name = w.as_str-name.result.now in
          let told_so : (j : ℕ) → c.args.low + 1 ≤ j → j ≤ c.min-end.result
          → kept (best_at w.match-place.behind j) ≡ told_behind way (first_of name doc) j = elim w.match-place.branch [
            | best_in_fields-in-None w' ↦ λ j from to.
                ap (λ all. kept (best_at all j)) w'.behind-is
                ∙ behind_not way (first_of name doc) j (first_not_there name doc (sym w'.in-None.is
                ∙ w.place.ensures.value)) (omega (arith, to, within, c.requires.few))
            | best_in_fields-in-Some w' ↦ λ j from to.
                let pair = slice_index_or c.as_slice-pairs.result.now w'.in-Some.place w'.index-pairs-place.result in
                behind_there way (first_of name doc) pair.value (best_at w.match-place.behind j) j
                (first_there name doc w'.in-Some.place (sym w'.in-Some.is ∙ w.place.ensures.value)
                ∙ ap (option_map (λ (pair : Pair Value). pair.value)) (slice_get-get_or doc w'.in-Some.place w'.index-pairs-place.result
                (place_within name doc w'.in-Some.place (sym w'.in-Some.is ∙ w.place.ensures.value)))
                ∙ ap (λ pairs. Some ((slice_index_or pairs w'.in-Some.place w'.index-pairs-place.result).value))
                (sym c.as_slice-pairs.ensures))
                (ap (λ all. kept (best_at all j)) w'.behind-is ∙ w'.best_from-behind.ensures j from to)
          ] in
          let step = fields_step way doc c.loop-k.all w.match-place.behind w.with_name-all.result name c.args.low c.min-end.result k
          (λ j h. subst (λ ps. best_at w.with_name-all.result j ≡ (if bytes_eq (part_at ps j) name then best_at w.match-place.behind
          (suc j) else best_at c.loop-k.all j))
          parts_are (w.with_name-all.ensures.named j (omega (arith, h, ap length parts_are)))) told_so
          (ap (λ ps. part_at ps k) (sym parts_are)
          ∙ sym (w.as_str-name.ensures ∙ w.index-parts-k.is ∙ get_or_default c.parts-parts.result.now k w.index-parts-k.result [] (omega
          (arith, c.loop-k-test.true, c.min-end.ensures)))) c.loop-k-test.true within c.loop-k.invariant.0 c.loop-k.invariant.1 in
          subst (λ all. Asked way doc c.args.low c.min-end.result all × Told way doc c.args.low (k + 1) all × (length all ≡ 101))
          (sym w.all-is)
          (step.0, step.1, w.with_name-all.ensures.long)
      | best_in_fields-else-was_unasked w ↦ subst (λ all. Asked way doc c.args.low c.min-end.result all × Told way doc c.args.low
          (k + 1) all × (length all ≡ 101)) (sym w.all-is) (
            c.loop-k.invariant.0,
            fields_stay way doc c.loop-k.all c.args.low c.min-end.result k (ap is_unasked
                (get_or_default c.loop-k.all k best.Unasked c.index-all-k.result (omega
                (arith, c.loop-k.invariant.2, c.loop-k-test.true, within, c.requires.few))) ∙ sym c.was_unasked.ensures
                ∙ w.if-was_unasked.false)
                c.loop-k.auto.k c.loop-k-test.true c.loop-k.invariant.0 c.loop-k.invariant.1,
            c.loop-k.invariant.2,
          )
    ]

pub best_in_items-loop-place-init : goal.best_in_items-loop-place-init
best_in_items-loop-place-init t c = λ k low high.
    let below : k ≤ 100 = omega (arith, high, c.min-end.ensures, c.parts.ensures.few, ap length c.parts.ensures.same) in (
      ap (λ it. sooner c.args.way.now.1 it (told_here c.args.way.now k 0 c.args.items.now)) (all_so best.Nothing k below),
      ap (λ it. sooner c.args.way.now.1 it (told_in_docs c.args.way.now k c.args.items.now)) (all_so best.Nothing k below),
    )

pub best_in_items-loop-place-preserved : goal.best_in_items-loop-place-preserved
best_in_items-loop-place-preserved t c = λ k low high.
    let way = c.args.way.now in
    let items = c.args.items.now in
    let item = c.item-item.result in
    let place = c.loop-place.place in
    let parts_are = c.parts.ensures.same ∙ ap (λ p. p.0) c.way.view_is in
    let one_less = drop_more items place item (omega (arith, c.loop-place-test.true, ap length c.as_slice-item-items.ensures))
    ∙ ap (λ it. it ∷ drop (place + 1) items) (ap (λ list. slice_index_or list place item) (sym c.as_slice-item-items.ensures)
    ∙ sym c.item-item.is) in
    let before = c.loop-place.invariant k low high in
    let few : k < length way.0 = omega (arith, high, c.min-end.ensures, ap length parts_are) in
    let fits : place < 2 ^ 64 = omega (arith, c.len-len.ensures, c.len-len.type_inv, c.loop-place-test.true, ap length c.as_slice-item-items.ensures) in
    let are : ArePlaces c.way.inside.places way.0 = subst (λ ps. ArePlaces c.way.inside.places ps) (ap
    (λ p. p.0) c.way.view_is) c.way.invariant in
    elim c.if-leads_on.branch [
      | best_in_items-then-leads_on w ↦ (
        here_step way items item place k (kept (best_at c.loop-place.here k)) (kept (best_at c.if-leads_on.here k))
            (told_here way k 0 items) one_less
            (ap (λ all. kept (best_at all k)) w.here-is ∙ w.joined-here.ensures k (omega (arith, few, c.requires.few))
            ∙ ap (λ p. sooner p.1 (kept (best_at c.loop-place.here k)) (kept (best_at w.at_place.result k))) c.way.view_is
            ∙ ap (sooner way.1 (kept (best_at c.loop-place.here k)))
            (here_is way c.way.inside.places w.best_from-from.result w.at_place.result item place k are few fits
            (w.at_place.ensures k (omega (arith, few, c.requires.few))) (w.best_from-from.ensures (suc k) (omega (arith, low)) (omega
            (arith, high))))) before.0,
        below_step way items item place k (kept (best_at c.loop-place.below k)) (kept (best_at c.if-leads_on.below k))
            (told_in_docs way k items) one_less
            (ap (λ all. kept (best_at all k)) w.below-is ∙ w.joined-below.ensures k (omega (arith, few, c.requires.few))
            ∙ ap (λ p. sooner p.1 (kept (best_at c.loop-place.below k)) (kept (best_at w.if_document.result k))) c.way.view_is
            ∙ ap (sooner way.1 (kept (best_at c.loop-place.below k)))
            (ap (λ all. kept (best_at all k)) w.if_document.ensures
            ∙ below_is way w.best_from-from.result item k (omega (arith, few, c.requires.few)) (w.best_from-from.ensures k low (omega
            (arith, high))))) before.1,
      )
      | best_in_items-else-leads_on w ↦
          let none = neither (is_doc (out-Value item)) (list_any (λ it. is_at it place) c.way.inside.places) (sym c.leads_on.ensures
          ∙ w.if-leads_on.false) in (
            here_step way items item place k (kept (best_at c.loop-place.here k)) (kept (best_at c.if-leads_on.here k))
                (told_here way k 0 items) one_less
                (ap (λ all. kept (best_at all k)) w.here-is
                ∙ none_here way c.way.inside.places item place k (kept (best_at c.loop-place.here k)) are few fits none.1) before.0,
            below_step way items item place k (kept (best_at c.loop-place.below k)) (kept (best_at c.if-leads_on.below k))
                (told_in_docs way k items) one_less
                (ap (λ all. kept (best_at all k)) w.below-is ∙ none_below way item k (kept (best_at c.loop-place.below k)) none.0) before.1,
          )
    ]

pub best_in_items-returns : goal.best_in_items-returns
best_in_items-returns t c = λ k low high before.
    let way = c.args.way.now in
    let items = c.args.items.now in
    let parts_are = c.parts.ensures.same ∙ ap (λ p. p.0) c.way.view_is in
    let done = c.loop-place.invariant k low (omega (arith, high, before, c.min-end.ensures, ap length parts_are)) in
    let ended : drop c.loop-place.place items ≡ [] = drop_all c.loop-place.place items (omega
    (arith, c.loop-place-test.false, ap length c.as_slice-item-items.ensures)) in
    c.joined.ensures k (omega (arith, before, c.requires.few))
    ∙ ap (λ p. sooner p.1 (kept (best_at c.loop-place.here k)) (kept (best_at c.loop-place.below k))) c.way.view_is
    ∙ ap (λ it. sooner way.1 it (kept (best_at c.loop-place.below k)))
    (sym (sooner_none way.1 (kept (best_at c.loop-place.here k)))
    ∙ ap (λ list. sooner way.1 (kept (best_at c.loop-place.here k)) (told_here way k c.loop-place.place list)) (sym ended) ∙ done.0)
    ∙ ap (sooner way.1 (told_here way k 0 items))
    (sym (sooner_none way.1 (kept (best_at c.loop-place.below k)))
    ∙ ap (λ list. sooner way.1 (kept (best_at c.loop-place.below k)) (told_in_docs way k list)) (sym ended) ∙ done.1)
    ∙ sym (items_told way items k before)
