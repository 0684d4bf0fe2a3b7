use Rattle.std.proofs.Common.{◌≡◌, ◌^◌, ◌-◌, ◌+◌, ◌<◌, min, map, drop, length}
use Rattle.std.specs.List.{flat_map}
use Rattle.bson_spelling.specs.Spelling.{width, held, element, items_from}
use Rattle.bson_spelling.proofs.counting.+counting.Given as goal

-- the bytes so far and those that are left are all
abbrev pub invariant-document_len-loop-pair : goal.invariant-document_len-loop-pair
invariant-document_len-loop-pair l =
    let all = length (flat_map (element l.form) l.pair-items) + (width l.form + 1) in
    let left = length (flat_map (element l.form) (drop l.pair-index l.pair-items)) in
    (min (l.total + left) (2 ^ 64 - 1) ≡ min all (2 ^ 64 - 1)) × (l.total < 2 ^ 64)

abbrev pub invariant-array_len-loop-item : goal.invariant-array_len-loop-item
invariant-array_len-loop-item l =
    let all = length (items_from 0 (map (held l.form) l.item-items)) + (width l.form + 1) in
    let left = length (items_from l.place (map (held l.form) (drop l.item-index l.item-items))) in
    (l.place ≡ l.item-index) × (min (l.total + left) (2 ^ 64 - 1) ≡ min all (2 ^ 64 - 1)) × (l.total < 2 ^ 64)
