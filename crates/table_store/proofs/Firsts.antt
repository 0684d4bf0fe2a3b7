-- The first of a list that passes a test, where the list is mapped.
use Rattle.std.proofs.Common.{◌≡◌, Bool, true, false, ◌||◌, List, [], ◌∷◌, map, refl, ap, sym, ◌∙◌}
use Rattle.std.specs.List.{list_any}
use Rattle.outside.specs.Changes.{with_first, without_first}

module _ {A B : Type 0} (f : A → B) (test : A → Bool) (other : B → Bool) (same : (x : A) → other (f x) ≡ test x) where
  pub any-first : (xs : List A) → list_any other (map f xs) ≡ list_any test xs
  any-first [] = refl
  any-first (x ∷ xs) = rw (same x) (ap (λ b. test x || b) (any-first xs))

  pub map-without : (xs : List A) → map f (without_first test xs) ≡ without_first other (map f xs)
  map-without [] = refl
  map-without (x ∷ xs) = cases (test x) refl (map-without xs)
    where
      cases : (b : Bool) → test x ≡ b → map f (without_first test xs) ≡ without_first other (map f xs)
          → map f (without_first test (x ∷ xs)) ≡ without_first other (map f (x ∷ xs))
      cases true e rest = rw (same x, e) refl
      cases false e rest = rw (same x, e) (ap (λ ys. f x ∷ ys) rest)

  pub map-with : (g : A → A) (h : B → B) → ((x : A) → f (g x) ≡ h (f x)) → (xs : List A)
      → map f (with_first test g xs) ≡ with_first other h (map f xs)
  map-with g h goes [] = refl
  map-with g h goes (x ∷ xs) = cases (test x) refl (map-with g h goes xs)
    where
      cases : (b : Bool) → test x ≡ b → map f (with_first test g xs) ≡ with_first other h (map f xs)
          → map f (with_first test g (x ∷ xs)) ≡ with_first other h (map f (x ∷ xs))
      cases true e rest = rw (same x, e) (ap (λ y. y ∷ map f xs) (goes x))
      cases false e rest = rw (same x, e) (ap (λ ys. f x ∷ ys) rest)
