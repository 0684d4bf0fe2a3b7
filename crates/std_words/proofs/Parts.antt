-- Lists and their parts.
use Rattle.std.proofs.Common.{◌≡◌, ℕ, Bool, ◌||◌, ◌+◌, ◌≤◌, List, [], ◌∷◌, ◌++◌, length, map, take, drop, refl, ap, arith, length-take}
use Rattle.std.specs.List.{list_any}
use Rattle.std.proofs.lemmas.List.{take-append-drop}
use Rattle.std.proofs.Math.Seq.{take-append-add}

-- a list of no length is empty
pub empty : {A : Type 0} (xs : List A) → length xs ≡ 0 → xs ≡ []
empty [] is = refl
empty (x ∷ xs) is = absurd (omega (arith, is))

-- the given half gains what the other one loses
pub take-further : {A : Type 0} (xs : List A) (place count : ℕ) → place ≤ length xs
    → take (place + count) xs ≡ take place xs ++ take count (drop place xs)
take-further xs place count within =
    let full : length (take place xs) ≡ place = omega (arith, length-take place xs) in
    rw (full, take-append-drop) at (take-append-add (take place xs) (drop place xs) count)

-- one of the mapped passes the test where one passes it mapped
pub any-mapped : {X Y : Type 0} (test : X → Bool) (made : Y → X) (ys : List Y)
    → list_any test (map made ys) ≡ list_any (λ y. test (made y)) ys
any-mapped test made [] = refl
any-mapped test made (y ∷ ys) = ap (λ (more : Bool). test (made y) || more) (any-mapped test made ys)
