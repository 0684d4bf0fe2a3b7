use Rattle.std.proofs.Common.{◌≡◌, ◌+◌, ◌*◌, ◌++◌, drop, length}
use Rattle.std.specs.List.{flat_map}
use Rattle.doc_paths.specs.Reach.{reached, in_element}
use Rattle.bson_values.specs.declared.value.Value.{Value, out-Value}
use Rattle.doc_paths.proofs.reaching.+reach.Given as goal

abbrev pub decreases-reach_in : goal.decreases-reach_in
decreases-reach_in l = 4 * length l.parts.now

abbrev pub decreases-reach_field : goal.decreases-reach_field
decreases-reach_field l = 4 * length l.rest.now + 1

abbrev pub decreases-reach_item : goal.decreases-reach_item
decreases-reach_item l = 4 * length l.rest.now + 1

abbrev pub decreases-reach_documents : goal.decreases-reach_documents
decreases-reach_documents l = 4 * length l.rest.now + 2

abbrev pub invariant-reach_documents-loop-item : goal.invariant-reach_documents-loop-item
invariant-reach_documents-loop-item l =
    let go = λ (item : Value). in_element l.part (reached l.rest) (out-Value item) in
    l.walk.all ++ flat_map go (drop l.item-index l.items) ≡ l.initial.walk.all ++ flat_map go l.items
