use Rattle.std.proofs.Common.{◌≡◌, true, take, map}
use Rattle.typed_json.specs.Plain.{each, plain_of}
use Rattle.typed_json.specs.Typed.{is_typed}
use Rattle.typed_json.proofs.Equations.{are, hold}
use Rattle.typed_json.proofs.plain_json.+plain.Given as goal

abbrev pub invariant-plain_array-loop-item : goal.invariant-plain_array-loop-item
invariant-plain_array-loop-item l = record {
  made : l.plains ≡ map plain_of (take l.item-index l.item-items);
  typed : are (map is_typed (take l.item-index l.item-items)) ≡ true;
}

abbrev pub invariant-plain_fields-loop-pair : goal.invariant-plain_fields-loop-pair
invariant-plain_fields-loop-pair l = record {
  made : l.fields ≡ each plain_of (take l.pair-index l.pair-items);
  typed : hold (each is_typed (take l.pair-index l.pair-items)) ≡ true;
}
