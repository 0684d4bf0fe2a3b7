use Rattle.std.proofs.Common.{◌≡◌, drop}
use Rattle.std.specs.List.{list_all}
use Rattle.serde.specs.Event.{Log}
use Rattle.serde_json.specs.Events.{SendsItems, SendsMembers}
use Rattle.bson_values.specs.declared.pairs.Pair.{Pair}
use Rattle.jsonb_contain.specs.declared.value.Json.{Json}
use Rattle.jsonb_contain.specs.Texts.{rises}
use Rattle.jsonb_contain.proofs.Events.{items_data, members_data}
use Rattle.jsonb_contain.proofs.printing.+send.Given as goal

-- whatever ends it well from here ends it well from the start, and what was sent rises
abbrev pub invariant-send_items-loop-item : goal.invariant-send_items-loop-item
invariant-send_items-loop-item g l = record {
  sends : (end : Log) → SendsItems (items_data (drop l.item-index l.item-items)) (g.S.Serializer.written l.out) end
      → SendsItems (items_data l.item-items) (g.S.Serializer.written l.initial.out) end;
  rising : list_all rises l.item-items ≡ list_all rises (drop l.item-index l.item-items);
}

abbrev pub invariant-send_fields-loop-pair : goal.invariant-send_fields-loop-pair
invariant-send_fields-loop-pair g l =
    let rising = λ (pair : Pair Json). rises pair.value in record {
      sends : (end : Log) → SendsMembers (members_data (drop l.pair-index l.pair-items)) (g.S.Serializer.written l.out) end
          → SendsMembers (members_data l.pair-items) (g.S.Serializer.written l.initial.out) end;
      rising : list_all rising l.pair-items ≡ list_all rising (drop l.pair-index l.pair-items);
    }
