use Rattle.std.proofs.Common.{◌≡◌, ◌++◌, map, drop}
use Rattle.std.specs.List.{flat_map}
use Rattle.doc_shape.specs.Cuts.{tails}
use Rattle.doc_shape.specs.Shown.{Shown, field, shown_pair, shown_value, some_of}
use Rattle.doc_shape.proofs.projecting.+show.Given as goal

abbrev pub invariant-shown_pairs-loop-pair : goal.invariant-shown_pairs-loop-pair
invariant-shown_pairs-loop-pair l =
    l.out ++ flat_map (shown_pair l.includes (tails l.depth l.paths)) (map (field l.includes) (drop l.pair-index l.pair-items))
    ≡ flat_map (shown_pair l.includes (tails l.depth l.paths)) (map (field l.includes) l.pair-items)

abbrev pub invariant-shown_items-loop-item : goal.invariant-shown_items-loop-item
invariant-shown_items-loop-item l =
    l.out ++ flat_map (λ (one : Shown). some_of (one.by (tails l.depth l.paths))) (map (shown_value l.includes) (drop l.item-index l.items))
    ≡ flat_map (λ (one : Shown). some_of (one.by (tails l.depth l.paths))) (map (shown_value l.includes) l.items)
