-- Where one of two lists ends.
use Rattle.std.proofs.Common.{◌≡◌, ◌≤◌, ℕ, List, [], ◌∷◌, length, drop, refl, sym, ap, ◌∙◌, arith}
use Rattle.std.specs.declared.cmp.Ordering.{Ordering}
use Rattle.std.specs.Ordering.{nat_cmp}
use Rattle.std.specs.Cmp.Lexicographic.{slice_cmp}
use Rattle.std.proofs.lemmas.Bool.Decides.{nat_tests}

-- a list that has as many before its end is compared by its length
ends : {A : Type 0} (order : A → A → Ordering) (xs ys : List A) → length xs ≤ length ys
    → slice_cmp order (drop (length xs) xs) (drop (length xs) ys) ≡ nat_cmp (length xs) (length ys)
ends order [] [] shorter = refl
ends order [] (y ∷ ys) shorter = grind (arith, nat_tests)
ends order (x ∷ xs) [] shorter = absurd (omega arith)
ends order (x ∷ xs) (y ∷ ys) shorter = ends order xs ys (omega arith) ∙ grind (arith, nat_tests)

-- as far as the first list goes the two are the same
pub both_ended : {A : Type 0} (order : A → A → Ordering) (xs ys one other : List A) (place long far : ℕ) (result : Ordering)
    → xs ≡ one → ys ≡ other → place ≡ length xs → place ≤ length ys
    → slice_cmp order (drop place xs) (drop place ys) ≡ slice_cmp order xs ys
    → long ≡ length one → far ≡ length other → result ≡ nat_cmp long far → result ≡ slice_cmp order one other
both_ended {A} order xs ys one other place long far result is like end shorter left counted found given =
    let lengths : nat_cmp (length xs) (length ys) ≡ result = rw (is, like, ← counted, ← found) (sym given) in
    sym lengths ∙ sym (ends order xs ys (omega arith)) ∙ ap (λ (n : ℕ). slice_cmp order (drop n xs) (drop n ys)) (sym end) ∙ left
    ∙ ap (λ (them : List A). slice_cmp order them ys) is ∙ ap (λ (them : List A). slice_cmp order one them) like
