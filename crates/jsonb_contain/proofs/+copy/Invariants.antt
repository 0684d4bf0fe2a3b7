use Rattle.std.proofs.Common.{◌≡◌, take}
use Rattle.jsonb_contain.proofs.+copy.Given as goal

abbrev pub invariant-copying::copy_items-loop-item : goal.invariant-copying::copy_items-loop-item
invariant-copying::copy_items-loop-item l = l.copied ≡ take l.item-index l.item-items

abbrev pub invariant-copying::Fields+Json::copy-loop-pair : goal.invariant-copying::Fields+Json::copy-loop-pair
invariant-copying::Fields+Json::copy-loop-pair l = l.copied ≡ take l.pair-index l.pair-items
