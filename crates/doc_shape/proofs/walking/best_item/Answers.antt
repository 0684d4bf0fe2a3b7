use Rattle.std.proofs.Common.{◌+◌, ◌∷◌, ◌∙◌, List, Some, map, drop, sym, ap}
use Rattle.std.proofs.lemmas.List.{drop_more}
use Rattle.bson_values.specs.declared.value.Value.{Value}
use Rattle.doc_shape.specs.Keys.{first_key, sooner}
use Rattle.doc_shape.specs.Bests.{kept}
use Rattle.doc_shape.proofs.Firsts.{sooner_grouped}
use Rattle.doc_shape.proofs.walking.best_item.Goals as goal

pub loop-item-preserved : goal.loop-item-preserved
loop-item-preserved c =
    let up = c.args.ascends in
    let items = c.args.items.now in
    let i = c.loop-item.item-index in
    let rest = first_key up (map Some (drop (i + 1) items)) in
    ap (λ it. sooner up it rest) c.sooner_of-best.ensures
    ∙ sooner_grouped up (kept c.loop-item.best) (Some (Some c.item-item.result)) rest
    ∙ ap (λ (list : List Value). sooner up (kept c.loop-item.best) (first_key up (map Some list)))
    (ap (λ (it : Value). it ∷ drop (i + 1) items) c.item-item.is ∙ sym (drop_more items i c.item-item.result c.loop-item-test.true))
    ∙ c.loop-item.invariant
