use Rattle.std.proofs.Common.{◌≡◌, ◌++◌, drop, not, List}
use Rattle.std.specs.List.{filter}
use Rattle.bson_values.specs.declared.value.Value.{Value, out-Value}
use Rattle.update_syntax.specs.After.{is_pulled}
use Rattle.update_apply.proofs.arrays.without.Given as goal

abbrev pub invariant-loop-item : goal.invariant-loop-item
invariant-loop-item l =
    let stay = λ (items : List Value). filter (λ (item : Value). not (is_pulled l.it (out-Value l.it) item)) items in
    stay l.items ≡ l.left ++ stay (drop l.item-index l.items)
