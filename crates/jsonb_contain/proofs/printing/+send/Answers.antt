use Rattle.std.proofs.Common.{◌≡◌, ◌∙◌, [], drop, Some, sym, ap, subst, arith}
use Rattle.std.specs.List.{list_all}
use Rattle.std.proofs.lemmas.List.{drop_all}
use Rattle.std.proofs.lemmas.Result.{on_ok_weaker}
use Rattle.serde.specs.Event.{Logs, seq_begins, map_begins}
use Rattle.serde_json.specs.Events.{SendsItems, SendsMembers, SendsValue}
use Rattle.bson_values.specs.declared.pairs.Pair.{Pair}
use Rattle.jsonb_contain.specs.declared.value.Json.{Json}
use Rattle.jsonb_contain.specs.Texts.{rises}
use Rattle.jsonb_contain.proofs.Events.{items_data, members_data, data-Array, data-Object, items_len-items_data, members_len-members_data}
use Rattle.jsonb_contain.proofs.Risen.{items_rise, fields_rise}
use Rattle.jsonb_contain.proofs.printing.+send.Goals as goal

pub send_items-returns-clause-sends : goal.send_items-returns-clause-sends
send_items-returns-clause-sends g t c =
    let xs = c.as_slice-item-items.result.now in
    let start = g.S.Serializer.written c.args.out.now in
    let first = g.S.Serializer.written c.begin_seq.new.self in
    let end = g.S.Serializer.written c.end_seq.new.self in
    let len = c.len.ensures ∙ sym (items_len-items_data c.args.items.now) in
    let begun = subst (λ n. Logs start first (seq_begins (Some n))) len c.in_ok-begin_seq.ensures in
    let none : drop c.loop-item.item-index xs ≡ [] = drop_all c.loop-item.item-index xs (omega arith) in
    on_ok_weaker c.end_seq.result (λ e. subst (λ d. SendsValue d start end) (sym (data-Array c.args.items.now)) (
      first,
      begun,
      subst (λ ys. SendsItems (items_data ys) first end) c.as_slice-item-items.ensures
          (c.loop-item.invariant.sends end
          (subst (λ ys. SendsItems (items_data ys) (g.S.Serializer.written c.loop-item.out) end) (sym none) e)),
    )) c.end_seq.ensures

pub send_items-returns-clause-rises : goal.send_items-returns-clause-rises
send_items-returns-clause-rises g t c =
    let xs = c.as_slice-item-items.result.now in
    let none : drop c.loop-item.item-index xs ≡ [] = drop_all c.loop-item.item-index xs (omega arith) in
    on_ok_weaker c.end_seq.result (λ e.
    items_rise c.args.items.now xs c.as_slice-item-items.ensures
    (c.loop-item.invariant.rising ∙ ap (list_all rises) none)) c.end_seq.ensures

pub send_fields-returns-clause-sends : goal.send_fields-returns-clause-sends
send_fields-returns-clause-sends g t c =
    let xs = c.as_slice-pair-items.result.now in
    let start = g.S.Serializer.written c.args.out.now in
    let first = g.S.Serializer.written c.begin_map.new.self in
    let end = g.S.Serializer.written c.end_map.new.self in
    let len = c.len.ensures ∙ sym (members_len-members_data c.args.fields.now) in
    let begun = subst (λ n. Logs start first (map_begins (Some n))) len c.in_ok-begin_map.ensures in
    let none : drop c.loop-pair.pair-index xs ≡ [] = drop_all c.loop-pair.pair-index xs (omega arith) in
    on_ok_weaker c.end_map.result (λ e. subst (λ d. SendsValue d start end) (sym (data-Object c.args.fields.now)) (
      first,
      begun,
      subst (λ ys. SendsMembers (members_data ys) first end) c.as_slice-pair-items.ensures.same
          (c.loop-pair.invariant.sends end
          (subst (λ ys. SendsMembers (members_data ys) (g.S.Serializer.written c.loop-pair.out) end) (sym none) e)),
    )) c.end_map.ensures

pub send_fields-returns-clause-rises : goal.send_fields-returns-clause-rises
send_fields-returns-clause-rises g t c =
    let xs = c.as_slice-pair-items.result.now in
    let none : drop c.loop-pair.pair-index xs ≡ [] = drop_all c.loop-pair.pair-index xs (omega arith) in
    on_ok_weaker c.end_map.result (λ e.
    fields_rise c.args.fields.now xs c.as_slice-pair-items.ensures.same c.as_slice-pair-items.ensures.rising
    (c.loop-pair.invariant.rising ∙ ap (list_all (λ (pair : Pair Json). rises pair.value)) none)) c.end_map.ensures
