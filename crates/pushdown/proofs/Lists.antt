-- Tests of some item of a list.
use Rattle.std.proofs.Common.{◌≡◌, Bool, true, false, ◌&&◌, ◌||◌, List, [], ◌∷◌, map, refl, ap, ◌∙◌}
use Rattle.std.specs.List.{list_any, list_all}
use Rattle.std_words.proofs.Tests.{and-both, or-first, or-second}

pub or_cases : {P : Type 0} (a b : Bool) → (a || b) ≡ true → (a ≡ true → P) → (b ≡ true → P) → P
or_cases false b both one other = other both
or_cases true b both one other = one refl

pub both_hold : (a b : Bool) → a ≡ true → b ≡ true → (a && b) ≡ true
both_hold a b one other = ap (λ (it : Bool). it && b) one ∙ other

-- where each item that passes is made into one that passes, some one made passes
pub any_made : {X Y : Type 0} (p : X → Bool) (q : Y → Bool) (f : X → Y) → ((x : X) → p x ≡ true → q (f x) ≡ true) → (xs : List X)
    → list_any p xs ≡ true → list_any q (map f xs) ≡ true
any_made p q f made [] some = some
any_made p q f made (x ∷ xs) some =
    or_cases (p x) (list_any p xs) some (λ (first : p x ≡ true). or-first (q (f x)) _ (made x first))
    (λ (rest : list_any p xs ≡ true). or-second (q (f x)) _ (any_made p q f made xs rest))

-- where each that passes passes another test too
pub any_weaker : {X : Type 0} (p q : X → Bool) → ((x : X) → p x ≡ true → q x ≡ true) → (xs : List X) → list_any p xs ≡ true
    → list_any q xs ≡ true
any_weaker p q weaker [] some = some
any_weaker {X} p q weaker (x ∷ xs) some =
    or_cases (p x) (list_any p xs) some (λ (first : p x ≡ true). or-first (q x) _ (weaker x first))
    (λ (rest : list_any p xs ≡ true). or-second (q x) _ (any_weaker p q weaker xs rest))

-- the same among items of which each passes a third test
pub any_among : {X : Type 0} (all p q : X → Bool) → ((x : X) → all x ≡ true → p x ≡ true → q x ≡ true) → (xs : List X)
    → list_all all xs ≡ true → list_any p xs ≡ true → list_any q xs ≡ true
any_among all p q weaker [] each some = some
any_among {X} all p q weaker (x ∷ xs) each some =
    let parts = and-both (all x) (list_all all xs) each in
    or_cases (p x) (list_any p xs) some (λ (first : p x ≡ true). or-first (q x) _ (weaker x parts.0 first))
    (λ (rest : list_any p xs ≡ true). or-second (q x) _ (any_among all p q weaker xs parts.1 rest))

-- some of these for some of those
pub swap_any : {X Y : Type 0} (test : X → Y → Bool) (xs : List X) (ys : List Y)
    → list_any (λ x. list_any (λ y. test x y) ys) xs ≡ true → list_any (λ y. list_any (λ x. test x y) xs) ys ≡ true
swap_any test [] ys some = absurd cc
swap_any {X} {Y} test (x ∷ xs) ys some =
    or_cases (list_any (λ (y : Y). test x y) ys) (list_any (λ (x : X). list_any (λ (y : Y). test x y) ys) xs) some
    (λ (first : list_any (λ (y : Y). test x y) ys ≡ true).
    any_weaker (λ (y : Y). test x y) (λ (y : Y). test x y || list_any (λ (x : X). test x y) xs)
    (λ (y : Y) (h : test x y ≡ true). or-first (test x y) _ h) ys first)
    (λ (rest : list_any (λ (x : X). list_any (λ (y : Y). test x y) ys) xs ≡ true).
    any_weaker (λ (y : Y). list_any (λ (x : X). test x y) xs) (λ (y : Y). test x y || list_any (λ (x : X). test x y) xs)
    (λ (y : Y) (h : list_any (λ (x : X). test x y) xs ≡ true). or-second (test x y) _ h) ys (swap_any test xs ys rest))
