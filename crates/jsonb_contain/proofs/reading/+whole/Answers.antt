use Rattle.std.proofs.Common.{◌≡◌, ◌∙◌, length, vec_len, sym, ap, arith, rules}
use Rattle.jsonb_contain.proofs.Wholes.{items_begin, items_go, items_end, members_begin, members_go, members_end, members_rise, nil_from_length}
use Rattle.jsonb_contain.proofs.reading.+whole.Goals as goal

pub whole_items-loop-item-init : goal.whole_items-loop-item-init
whole_items-loop-item-init t c =
    let given = c.into_iter-item-iterator.ensures.into_iter_gives in
    let len : vec_len c.args.items ≡ length c.args.items.items = search rules in
    (rw c.new-list.ensures (items_begin _ _ given.0), given.1 ∙ len ∙ ap length (sym given.0))

pub whole_items-loop-item-preserved : goal.whole_items-loop-item-preserved
whole_items-loop-item-preserved t c =
    let pushed = c.in_ok-add.ensures.ok in
    let left = ap length c.in-Some.ensures.steps.0 in
    let fewer = c.in-Some.ensures.steps.1 in (
      rw pushed (items_go _ _ _ _ _ _ c.loop-item.invariant.0 c.in-Some.ensures.steps.0 c.in_ok-json.ensures.ok),
      omega (arith, left, fewer, c.loop-item.invariant.1),
    )

pub whole_items-returns-clause-ok : goal.whole_items-returns-clause-ok
whole_items-returns-clause-ok t c =
    let left = c.loop-item.item-iterator.rest in
    let none : length left.items ≡ 0 = sym c.loop-item.invariant.1 ∙ c.in-None.ensures.steps.0 in
    items_end _ _ _ c.loop-item.invariant.0 (nil_from_length _ none)

pub whole_members-loop-name-init : goal.whole_members-loop-name-init
whole_members-loop-name-init t c = rw c.new-pairs.ensures (members_begin _ _ c.into_iter-name-iterator.ensures.into_iter_gives.0)

pub whole_members-returns-clause-ok : goal.whole_members-returns-clause-ok
whole_members-returns-clause-ok t c = rw c.from_list.ensures (members_end _ _ _ c.loop-name.invariant c.in-None.ensures.steps.0)

pub whole_members-from_list-requires : goal.whole_members-from_list-requires
whole_members-from_list-requires t c =
    members_rise _ _ _ c.loop-name.invariant c.in-None.ensures.steps.0 c.into_iter-name-iterator.ensures.into_iter_gives.5

pub whole_members-loop-name-preserved : goal.whole_members-loop-name-preserved
whole_members-loop-name-preserved t c =
    let pushed = c.in_ok-add.ensures.ok in
    rw pushed (members_go _ _ _ _ _ _ _ _ c.loop-name.invariant c.in-Some.ensures.steps c.in_ok-value.ensures.ok c.in_ok-name.ensures)
