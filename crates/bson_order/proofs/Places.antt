-- The laws of the order, from those of a total order.
use Rattle.std.proofs.Common.{◌≡◌, ◌↔◌, refl, sym, ap, ◌∙◌, inl, inr}
use Rattle.std.specs.declared.cmp.Ordering.{Ordering}
use Rattle.std.specs.declared.cmp.Ordering.TheVariants.{Less, Equal, Greater}
use Rattle.std.specs.Ordering.{ordering_reverse, is_eq}
use Rattle.std.proofs.lemmas.Cmp.{tied_itself, tied_back, alike_right}
use Rattle.bson_values.specs.declared.value.Value.{Value}
use Rattle.bson_order.specs.Order.{compared, Below, Same, is_same}
use Rattle.bson_order.specs.Choice.{ExactlyOne}
use Rattle.bson_order.proofs.Total.{compared_total}

-- the other way round
turned : (a b : Value) (found : Ordering) → compared a b ≡ found → compared b a ≡ ordering_reverse found
turned a b found is = compared_total.antisymm b a ∙ ap ordering_reverse is

one_by : (a b : Value) (found : Ordering) → compared a b ≡ found → ExactlyOne (Below a b) (Same a b) (Below b a)
one_by a b Less is = let back = turned a b Less is in inl (is, (λ same. absurd cc), (λ above. absurd cc))
one_by a b Equal is = let back = turned a b Equal is in inr (inl (is, (λ below. absurd cc), (λ above. absurd cc)))
one_by a b Greater is = let back = turned a b Greater is in inr (inr (back, (λ below. absurd cc), (λ same. absurd cc)))

pub exactly_one : (a b : Value) → ExactlyOne (Below a b) (Same a b) (Below b a)
exactly_one a b = one_by a b (compared a b) refl

pub irreflexive : (a : Value) → Below a a → ⊥
irreflexive a below = let same = tied_itself compared_total a in absurd cc

pub below_transitive : (a b c : Value) → Below a b → Below b c → Below a c
below_transitive = compared_total.trans

pub reflexive : (a : Value) → Same a a
reflexive = tied_itself compared_total

pub symmetric : (a b : Value) → Same a b → Same b a
symmetric = tied_back compared_total

pub same_transitive : (a b c : Value) → Same a b → Same b c → Same a c
same_transitive a b c one other = compared_total.congr a b c one ∙ other

pub neither : (a b : Value) → Same a b ↔ ((Below a b → ⊥) × (Below b a → ⊥))
neither a b = elim (exactly_one a b) [
  | inl less ↦ ((λ same. absurd (less.1 same)), (λ none. absurd (none.0 less.0)))
  | inr (inl same) ↦ ((λ _. (same.1, same.2)), (λ _. same.0))
  | inr (inr above) ↦ ((λ same. absurd (above.2 same)), (λ none. absurd (none.1 above.0)))
]

-- values that are the same stand at one place
pub alike_above : (a b c : Value) → Same a b → Below a c ↔ Below b c
alike_above a b c same = let alike = compared_total.congr a b c same in ((λ below. sym alike ∙ below), (λ below. alike ∙ below))

pub alike_below : (a b c : Value) → Same a b → Below c a ↔ Below c b
alike_below a b c same = let alike = alike_right compared_total a b c same in ((λ below. sym alike ∙ below), (λ below. alike ∙ below))

-- ---- the test

reversed : (found : Ordering) → is_eq (ordering_reverse found) ≡ is_eq found
reversed Less = refl
reversed Equal = refl
reversed Greater = refl

-- the order of the two says nothing
pub is_same_swaps : (a b : Value) → is_same a b ≡ is_same b a
unfolding is_same
is_same_swaps a b = sym (ap is_eq (turned a b (compared a b) refl) ∙ reversed (compared a b))
