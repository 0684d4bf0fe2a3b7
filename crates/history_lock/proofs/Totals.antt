-- A number of each of some values, added up.
use Rattle.std.proofs.Common.{◌≡◌, ℕ, zero, suc, ◌+◌, ◌≤◌, List, [], ◌∷◌, ◌++◌, set, refl, ap, sym, arith}
use mathlib.Core.Option.{some, some-injective, some-ne-none}
use lib.ListN.{get_elem?}
use Rattle.history_lock.specs.Rule.{total}

module _ {X : Type 0} where
  -- after a change of one value
  pub total-set : (f : X → ℕ) (xs : List X) (i : ℕ) (v w : X) → get_elem? xs i ≡ some v → total f (set xs i w) + f v ≡ total f xs + f w
  total-set f [] i v w at = absurd (some-ne-none v (sym at))
  total-set f (x ∷ xs) zero v w at = let e : f x ≡ f v = ap f (some-injective x v at) in omega arith
  total-set f (x ∷ xs) (suc i) v w at = let rest = total-set f xs i v w at in omega arith

  -- a change that keeps the value's number
  pub total-kept : (f : X → ℕ) (xs : List X) (i : ℕ) (v w : X) → get_elem? xs i ≡ some v → f w ≡ f v → total f (set xs i w) ≡ total f xs
  total-kept f xs i v w at e = let t = total-set f xs i v w at in omega arith

  -- with one value more
  pub total-more : (f : X → ℕ) (xs : List X) (w : X) → total f (xs ++ w ∷ []) ≡ total f xs + f w
  total-more f [] w = omega arith
  total-more f (x ∷ xs) w = let rest = total-more f xs w in omega arith

  -- none is above the total
  pub total-at : (f : X → ℕ) (xs : List X) (i : ℕ) (v : X) → get_elem? xs i ≡ some v → f v ≤ total f xs
  total-at f [] i v at = absurd (some-ne-none v (sym at))
  total-at f (x ∷ xs) zero v at = let e : f x ≡ f v = ap f (some-injective x v at) in omega arith
  total-at f (x ∷ xs) (suc i) v at = let rest = total-at f xs i v at in omega arith

  -- a total of smaller numbers is smaller
  pub total-below : (f g : X → ℕ) (xs : List X) → ((i : ℕ) (v : X) → get_elem? xs i ≡ some v → f v ≤ g v) → total f xs ≤ total g xs
  total-below f g [] h = omega arith
  total-below f g (x ∷ xs) h = let head = h 0 x refl in let rest = total-below f g xs (λ i v at. h (suc i) v at) in omega arith

  -- where there is nothing of p, there is nothing of f
  total-none : (p f : X → ℕ) (xs : List X) → total p xs ≡ 0 → ((i : ℕ) (v : X) → get_elem? xs i ≡ some v → p v ≡ 0 → f v ≡ 0)
      → total f xs ≡ 0
  total-none p f [] e h = refl
  total-none p f (x ∷ xs) e h =
      let head = h 0 x refl (omega arith) in
      let rest = total-none p f xs (omega arith) (λ i v at. h (suc i) v at) in omega arith

  -- where one value has all there is of p, and only what has some of p has some of f, it has all there is of f
  pub total-alone : (p f : X → ℕ) (xs : List X) (i : ℕ) (v : X) → get_elem? xs i ≡ some v → total p xs ≡ p v
      → ((i : ℕ) (v : X) → get_elem? xs i ≡ some v → p v ≡ 0 → f v ≡ 0) → total f xs ≡ f v
  total-alone p f [] i v at e h = absurd (some-ne-none v (sym at))
  total-alone p f (x ∷ xs) zero v at e h =
      let same = some-injective x v at in
      let a : p x ≡ p v = ap p same in let b : f x ≡ f v = ap f same in
      let rest = total-none p f xs (omega arith) (λ i v at. h (suc i) v at) in omega arith
  total-alone p f (x ∷ xs) (suc i) v at e h =
      let most = total-at p xs i v at in
      let head = h 0 x refl (omega arith) in
      let rest = total-alone p f xs i v at (omega arith) (λ i v at. h (suc i) v at) in omega arith
