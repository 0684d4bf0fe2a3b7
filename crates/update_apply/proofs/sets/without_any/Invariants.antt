use Rattle.std.proofs.Common.{◌≡◌, ◌++◌, drop, not, List}
use Rattle.std.specs.List.{filter}
use Rattle.bson_values.specs.declared.value.Value.{Value}
use Rattle.update_syntax.specs.After.{stands_in}
use Rattle.update_apply.proofs.sets.without_any.Given as goal

abbrev pub invariant-loop-item : goal.invariant-loop-item
invariant-loop-item l =
    let stay = λ (items : List Value). filter (λ (item : Value). not (stands_in l.values item)) items in
    stay l.items ≡ l.left ++ stay (drop l.item-index l.items)
