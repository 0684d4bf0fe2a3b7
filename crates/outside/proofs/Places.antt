-- The first of a list that passes a test, by its place.
use Rattle.std.proofs.Common.{◌≡◌, ℕ, zero, suc, ◌<◌, ◌≤◌, Bool, true, false, ◌||◌, cond, ltb, List, [], ◌∷◌, ◌++◌}
use Rattle.std.proofs.Common.{map, length, get_or, set, refl, sym, ap, subst, arith}
use Rattle.std.specs.Prelude.{Option, None, Some}
use Rattle.std.specs.List.{list_any, position, position_or_len, remove}
use Rattle.std.proofs.lemmas.Bool.{ltb-false}
use Rattle.std.proofs.lemmas.List.{map-id}
use Rattle.std.proofs.lemmas.List.Quantifiers.{position-Some}
use Rattle.outside.specs.declared.kept.KeptRow.{KeptRow}
use Rattle.outside.specs.Changes.{with_first, without_first, has_key, put_row, cut_row}
use Rattle.outside.specs.Rows.{IsFirst, FirstAt}

-- what is changed where the first that passes stands there
pub record Stands {A : Type 0} (test : A → Bool) (xs : List A) (place : ℕ) : Type 0 where
  pub within : place < length xs
  pub passes : (d : A) → test (get_or xs place d) ≡ true
  pub there : list_any test xs ≡ true
  pub out : without_first test xs ≡ remove xs place
  pub over : (change : A → A) (d : A) → with_first test change xs ≡ set xs place (change (get_or xs place d))

-- the same where none passes
pub record Lacks {A : Type 0} (test : A → Bool) (xs : List A) : Type 0 where
  pub there : list_any test xs ≡ false
  pub out : without_first test xs ≡ xs
  pub over : (change : A → A) → with_first test change xs ≡ xs

module _ {A B : Type 0} (view : A → B) (test : B → Bool) where
  passes : A → Bool
  passes x = test (view x)

  found-at : (xs : List A) (i : ℕ) → i < length xs → ((d : A) → passes (get_or xs i d) ≡ true)
      → ((k : ℕ) (d : A) → k < i → passes (get_or xs k d) ≡ false) → Stands test (map view xs) i
  unfolding passes
  found-at [] i within here before = absurd (omega (arith, within))
  found-at (x ∷ xs) zero within here before =
      let first : test (view x) ≡ true = here x in
      record {
        within = omega arith;
        passes = λ d. first;
        there = rw first refl;
        out = rw first refl;
        over = λ change d. rw first refl;
      }
  found-at (x ∷ xs) (suc i) within here before =
      let first : test (view x) ≡ false = before 0 x (omega arith) in
      let later = found-at xs i (omega (arith, within)) here (λ k d low. before (suc k) d (omega (arith, low))) in
      record {
        within = omega (arith, later.within);
        passes = later.passes;
        there = rw first later.there;
        out = rw first (ap (λ rest. view x ∷ rest) later.out);
        over = λ change d. rw first (ap (λ rest. view x ∷ rest) (later.over change d));
      }

  step-none : (x : A) (xs : List A) (passed : Bool) → passes x ≡ passed → length (x ∷ xs) ≤ position_or_len passes (x ∷ xs)
      → (passed ≡ false) × (length xs ≤ position_or_len passes xs)
  step-none x xs true is past = absurd (omega (arith, rw is at past))
  step-none x xs false is past = (refl, omega (arith, rw is at past))

  none-at : (xs : List A) → length xs ≤ position_or_len passes xs → Lacks test (map view xs)
  unfolding passes
  none-at [] past = record { there = refl; out = refl; over = λ change. refl }
  none-at (x ∷ xs) past =
      let next = step-none x xs (passes x) refl past in
      let first : test (view x) ≡ false = next.0 in
      let later = none-at xs next.1 in
      record {
        there = rw first later.there;
        out = rw first (ap (λ rest. view x ∷ rest) later.out);
        over = λ change. rw first (ap (λ rest. view x ∷ rest) (later.over change));
      }

  is-none : (within : Bool) (place : ℕ) → cond within (Some place) None ≡ None → within ≡ false
  is-none true place is = absurd cc
  is-none false place is = refl

  -- at the place that is found
  pub stands : (xs : List A) (place : ℕ) → Some place ≡ position (λ x. test (view x)) xs → Stands test (map view xs) place
  unfolding passes
  stands [] place is = absurd cc
  stands (x ∷ xs) place is =
      let at = λ (d : A). position-Some passes (x ∷ xs) place d (sym is) in
      found-at (x ∷ xs) place (at x).0 (λ d. (at d).1) (λ k d low. (at d).2 k low)

  -- where no place is found
  pub lacks : (xs : List A) → None ≡ position (λ x. test (view x)) xs → Lacks test (map view xs)
  unfolding passes
  lacks xs is =
      none-at xs (ltb-false _ _ (is-none (ltb (position_or_len passes xs) (length xs)) (position_or_len passes xs) (sym is)))

module _ {A : Type 0} (test : A → Bool) where
  -- the first place that is found is that of the first
  pub firsts : (xs : List A) (found : Option ℕ) → found ≡ position test xs → FirstAt test xs found
  firsts xs None is = subst (λ ys. list_any test ys ≡ false) (map-id xs) (lacks (λ x. x) test xs is).there
  firsts xs (Some place) is =
      let at = λ (d : A). position-Some test xs place d (sym is) in
      record {
        within = (subst (λ ys. Stands test ys place) (map-id xs) (stands (λ x. x) test xs place is)).within;
        passes = λ d. (at d).1;
        before = λ k d low. (at d).2 k low;
      }

  first-stands : (xs : List A) (place : ℕ) → IsFirst test xs place → Stands test xs place
  unfolding passes
  first-stands xs place it = subst (λ ys. Stands test ys place) (map-id xs) (found-at (λ x. x) test xs place it.within it.passes it.before)

  none-lacks : (xs : List A) → list_any test xs ≡ false → without_first test xs ≡ xs
  none-lacks [] none = refl
  none-lacks (x ∷ xs) none = cases (test x) refl none (none-lacks xs)
    where
      cases : (here : Bool) → test x ≡ here → (here || list_any test xs) ≡ false → (list_any test xs ≡ false → without_first test xs ≡ xs)
          → without_first test (x ∷ xs) ≡ x ∷ xs
      cases true e none later = absurd cc
      cases false e none later = rw e (ap (λ rest. x ∷ rest) (later none))

-- a row is put and cut by the place of its key
pub put_there : (row : KeptRow) (rows : List KeptRow) (place : ℕ) (d : KeptRow) → IsFirst (has_key row.key) rows place
    → set rows place (record (get_or rows place d) { text = row.text }) ≡ put_row row rows
put_there row rows place d is =
    let it = first-stands (has_key row.key) rows place is in
    rw it.there (sym (it.over (λ old. record old { text = row.text }) d))

pub put_last : (row : KeptRow) (rows : List KeptRow) → list_any (has_key row.key) rows ≡ false → rows ++ row ∷ [] ≡ put_row row rows
put_last row rows none = rw none refl

pub cut_there : (key : List ℕ) (rows : List KeptRow) (place : ℕ) → IsFirst (has_key key) rows place
    → remove rows place ≡ cut_row key rows
cut_there key rows place is = sym (first-stands (has_key key) rows place is).out

pub cut_nothing : (key : List ℕ) (rows : List KeptRow) → list_any (has_key key) rows ≡ false → rows ≡ cut_row key rows
cut_nothing key rows none = sym (none-lacks (has_key key) rows none)
