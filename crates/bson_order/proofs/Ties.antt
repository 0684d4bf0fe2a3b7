-- One comparison and then another.
use Rattle.std.proofs.Common.{◌≡◌, refl, sym, ap, ◌∙◌}
use Rattle.std.specs.declared.cmp.Ordering.{Ordering}
use Rattle.std.specs.declared.cmp.Ordering.TheVariants.{Less, Equal, Greater}
use Rattle.std.specs.Ordering.{ordering_then}
use Rattle.std.specs.Cmp.{IsTotalOrder}
use Rattle.std.proofs.lemmas.Cmp.{tied_itself}

-- what is compared first, and second, is the same where both are
pub first_tied : (first second : Ordering) → ordering_then first second ≡ Equal → first ≡ Equal
first_tied Less second tied = absurd cc
first_tied Equal second tied = refl
first_tied Greater second tied = absurd cc

pub second_tied : (first second : Ordering) → ordering_then first second ≡ Equal → second ≡ Equal
second_tied Less second tied = absurd cc
second_tied Equal second tied = tied
second_tied Greater second tied = absurd cc

pub both_tied : (first second : Ordering) → first ≡ Equal → second ≡ Equal → ordering_then first second ≡ Equal
both_tied first second one other = ap (λ (it : Ordering). ordering_then it second) one ∙ other

-- what is compared first decides, unless it is tied
pub first_decides : (first second : Ordering) → first ≡ Less → ordering_then first second ≡ Less
first_decides first second less = ap (λ (it : Ordering). ordering_then it second) less

-- what is equal is tied
pub equal_tied : {K : Type 0} {order : K → K → Ordering} → IsTotalOrder order → (one other : K) → one ≡ other → order one other ≡ Equal
equal_tied {K} {order} total one other is = ap (λ (it : K). order one it) (sym is) ∙ tied_itself total one
