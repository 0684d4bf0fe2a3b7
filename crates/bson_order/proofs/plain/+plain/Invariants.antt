use Rattle.std.proofs.Common.{take, All}
use Rattle.bson_order.specs.Plain.{IsPlain, IsPlainPair}
use Rattle.bson_order.proofs.plain.+plain.Given as goal

abbrev pub invariant-is_plain_document-loop-pair : goal.invariant-is_plain_document-loop-pair
invariant-is_plain_document-loop-pair l = All IsPlainPair (take l.pair-index l.pair-items)

abbrev pub invariant-is_plain_array-loop-item : goal.invariant-is_plain_array-loop-item
invariant-is_plain_array-loop-item l = All IsPlain (take l.item-index l.item-items)
