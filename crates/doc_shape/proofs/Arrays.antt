-- An array that is filled place by place.
use Rattle.std.proofs.Common.{ℕ, ◌<◌, ◌+◌, List, length, slice_index_or, slice_set, sym, subst, arith, below_more}
use Rattle.std.proofs.Common.{get_or-set_same, get_or-set_other}

pub one_more : {X : Type 0} (P : ℕ → X → Type 0) (xs : List X) (i : ℕ) (x d : X) → i < length xs
    → ((k : ℕ) → k < i → P k (slice_index_or xs k d)) → P i x → (k : ℕ) → k < i + 1 → P k (slice_index_or (slice_set xs i x) k d)
one_more P xs i x d low before here = below_more (λ k. P k (slice_index_or (slice_set xs i x) k d)) i
    (λ k h. subst (P k) (sym (get_or-set_other xs i k x d (omega arith))) (before k h))
    (subst (P i) (sym (get_or-set_same xs i x d low)) here)
