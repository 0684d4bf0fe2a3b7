-- Values as keys of a set, told apart as the order of values does. For the code alone.
use Rattle.std.specs.Prelude.{◌≡◌, ◌||◌, Bool, List}
use Rattle.std.specs.BTreeSet.{BTreeSet}
use Rattle.std.specs.Cmp.{IsTotalOrder, on_total}
use Rattle.std.specs.List.{list_any}
use Rattle.std.specs.Ordering.{is_eq}
use Rattle.std.specs.declared.cmp.Ordering.{Ordering}
use Rattle.bson_order.proofs.Total.{compared_total}
use Rattle.bson_order.specs.Order.{compared}
use Rattle.bson_values.specs.declared.value.Value.{Value}
use Rattle.update_apply.specs.declared.sets.Ranked.{Ranked}
use Rattle.update_syntax.specs.After.{stands_in}

abbrev pub ranked_cmp : Ranked → Ranked → Ordering
ranked_cmp one other = compared one.value.now other.value.now

pub ranked_total : IsTotalOrder ranked_cmp
ranked_total = on_total (λ (it : Ranked). it.value.now) compared_total

-- a key of the set is the same
abbrev pub noted : BTreeSet Ranked → Value → Bool
noted seen it = list_any (λ (one : Ranked). is_eq (compared it one.value.now)) seen.keys

-- the set has what is the same as one of the values, and nothing else
abbrev pub Tells : BTreeSet Ranked → List Value → Type 0
Tells seen values = (it : Value) → noted seen it ≡ stands_in values it

-- one more is noted
abbrev pub Notes : Value → BTreeSet Ranked → BTreeSet Ranked → Type 0
Notes it old new = (other : Value) → noted new other ≡ (is_eq (compared it other) || noted old other)
