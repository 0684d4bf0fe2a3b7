use Rattle.std.proofs.Common.{◌≡◌, ◌+◌, ◌*◌, ◌-◌, drop}
use Rattle.typed_json.specs.Reading.{value_within, items_with, pairs_with}
use Rattle.typed_json.proofs.Left.{after}
use Rattle.typed_json.proofs.levels.+read.Given as goal

abbrev pub decreases-value_of : goal.decreases-value_of
decreases-value_of l = 5 * l.levels + 2

abbrev pub decreases-value_in : goal.decreases-value_in
decreases-value_in l = 5 * l.levels + 1

abbrev pub decreases-value_at : goal.decreases-value_at
decreases-value_at l = 5 * l.levels + 3

abbrev pub decreases-pairs_of : goal.decreases-pairs_of
decreases-pairs_of l = 5 * l.levels + 4

abbrev pub decreases-items_at : goal.decreases-items_at
decreases-items_at l = 5 * l.levels

abbrev pub decreases-doc_at : goal.decreases-doc_at
decreases-doc_at l = 5 * l.levels

-- what was read, and then what is left, is all
abbrev pub invariant-pairs_of-loop-listed : goal.invariant-pairs_of-loop-listed
invariant-pairs_of-loop-listed l =
    pairs_with (value_within l.levels) l.kinds l.fields l.listed-items
    ≡ after l.pairs (pairs_with (value_within l.levels) l.kinds l.fields (drop l.listed-index l.listed-items))

abbrev pub invariant-items_at-loop-index : goal.invariant-items_at-loop-index
invariant-items_at-loop-index l =
    items_with (value_within (l.levels - 1)) l.kinds l.plains
    ≡ after l.items (items_with (value_within (l.levels - 1)) (drop l.index l.kinds) (drop l.index l.plains))
