use Rattle.std.proofs.Common.{◌≡◌, Some, map, drop}
use Rattle.doc_shape.specs.Keys.{first_key, sooner}
use Rattle.doc_shape.specs.Bests.{kept}
use Rattle.doc_shape.proofs.walking.best_item.Given as goal

abbrev pub invariant-loop-item : goal.invariant-loop-item
invariant-loop-item l =
    sooner l.ascends (kept l.best) (first_key l.ascends (map Some (drop l.item-index l.items))) ≡ first_key l.ascends (map Some l.items)
