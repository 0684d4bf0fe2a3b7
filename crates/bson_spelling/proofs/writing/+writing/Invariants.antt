use Rattle.std.proofs.Common.{◌≡◌, ◌++◌, ◌+◌, length, take, drop, map}
use Rattle.std.specs.List.{flat_map}
use Rattle.bson_spelling.specs.Spelling.{held, element, items_from}
use Rattle.bson_spelling.proofs.writing.+writing.Given as goal

abbrev pub invariant-put_elements-loop-pair : goal.invariant-put_elements-loop-pair
invariant-put_elements-loop-pair l =
    let done = flat_map (element l.form) (take l.pair-index l.pair-items) in
    (l.out.items ≡ l.initial.out.items ++ done) × (l.out.spare + length done ≡ l.initial.out.spare)

-- what is written and what is left are all items
abbrev pub invariant-put_items-loop-item : goal.invariant-put_items-loop-item
invariant-put_items-loop-item l =
    let all = items_from 0 (map (held l.form) l.item-items) in
    let left = items_from l.place (map (held l.form) (drop l.item-index l.item-items)) in
    (l.place ≡ l.item-index)
    × (l.out.items ++ left ≡ l.initial.out.items ++ all) × (l.out.spare + length all ≡ l.initial.out.spare + length left)
