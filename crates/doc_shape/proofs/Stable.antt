-- The stable sort by an order is one list.
use Rattle.std.proofs.Common.{◌≡◌, ◌+◌, suc, Bool, true, false, cond, ◌&&◌, not, List, [], ◌∷◌, refl, sym, ap}
use Rattle.std.proofs.Common.{subst, ◌∙◌, arith, slice_index_or}
use Rattle.std.specs.List.{filter}
use Rattle.std.specs.List.Sorted.{IsSortedBy, IsStableBy, ties}
use Rattle.std.specs.Cmp.{IsStrictWeakOrder}
use Rattle.doc_shape.specs.Sorted.{put_in_order, stably_sorted}

module _ {X : Type 0} (lt : X → X → Bool) (o : IsStrictWeakOrder lt) where
  abbrev pub Low : X → List X → Type 0
  Low x [] = Unit {0}
  Low x (y ∷ ys) = (lt y x ≡ false) × Low x ys

  abbrev pub Up : List X → Type 0
  Up [] = Unit {0}
  Up (x ∷ xs) = Low x xs × Up xs

  lower_still : (x y : X) (ys : List X) → lt y x ≡ false → Low y ys → Low x ys
  lower_still x y [] e low = tt
  lower_still x y (z ∷ ys) e low = (o.chain z y x low.0 e, lower_still x y ys e low.1)

  goes_up : (xs : List X) → IsSortedBy lt xs → Up xs
  goes_up [] up = tt
  goes_up (x ∷ []) up = (tt, tt)
  goes_up (x ∷ y ∷ ys) up =
      let rest = goes_up (y ∷ ys) (λ k d low high. let e : suc k + 1 ≡ suc (k + 1) = omega arith in
      subst (λ n. lt (slice_index_or (x ∷ y ∷ ys) n d) (slice_index_or (y ∷ ys) k d) ≡ false) e (up (suc k) d (omega arith) (omega
      (arith, high)))) in
      let first : lt y x ≡ false = up 0 x (omega arith) (omega arith) in
      ((first, lower_still x y ys first rest.0), rest)

  not_self : (x : X) → lt x x ≡ false
  not_self x = by (lt x x) refl
    where
      by : (b : Bool) → lt x x ≡ b → b ≡ false
      by true e = sym e ∙ o.one_way x x e
      by false e = refl

  tied : (x y : X) → lt x y ≡ false → lt y x ≡ false → ties lt x y ≡ true
  tied x y e f = ap (λ b. not b && not (lt y x)) e ∙ ap not f

  untied : (b c : Bool) → not b && not c ≡ true → b ≡ false
  untied true c e = absurd (cc)
  untied false c e = refl

  chosen : (b : Bool) (p : X → Bool) (z y : X) (zs more : List X) → cond b (z ∷ filter p zs) (filter p zs) ≡ y ∷ more → (w : X)
      → lt z w ≡ false → (filter p zs ≡ y ∷ more → lt y w ≡ false) → lt y w ≡ false
  chosen true p z y zs more e w low next = let f : z ≡ y = cc in ap (λ v. lt v w) (sym f) ∙ low
  chosen false p z y zs more e w low next = next e

  -- what is found in a list is not below what is below none of it
  found_above : (w : X) (p : X → Bool) (y : X) (zs more : List X) → Low w zs → filter p zs ≡ y ∷ more → lt y w ≡ false
  found_above w p y [] more low e = absurd (cc)
  found_above w p y (z ∷ zs) more low e = chosen (p z) p z y zs more e w low.0 (λ f. found_above w p y zs more low.1 f)

  cut : (b : Bool) (z : X) (ys zs : List X) → cond b (z ∷ ys) ys ≡ cond b (z ∷ zs) zs → ys ≡ zs
  cut true z ys zs e = cc
  cut false z ys zs e = e

  one_list : (ys zs : List X) → Up ys → Up zs → ((x : X) → filter (ties lt x) ys ≡ filter (ties lt x) zs) → ys ≡ zs
  one_list [] [] up over h = refl
  one_list [] (z ∷ zs) up over h =
      let e : [] ≡ z ∷ filter (ties lt z) zs = h z ∙ ap (λ b. cond b (z ∷ filter (ties lt z) zs) (filter (ties lt z) zs)) (tied z z
      (not_self z) (not_self z)) in absurd (cc)
  one_list (y ∷ ys) [] up over h =
      let e : [] ≡ y ∷ filter (ties lt y) ys = sym (h y) ∙ ap (λ b. cond b (y ∷ filter (ties lt y) ys) (filter (ties lt y) ys))
      (tied y y (not_self y) (not_self y)) in absurd (cc)
  one_list (y ∷ ys) (z ∷ zs) up over h =
      let own_y : filter (ties lt y) (y ∷ ys) ≡ y ∷ filter (ties lt y) ys = ap (λ b. cond b (y ∷ filter (ties lt y) ys) (filter
      (ties lt y) ys)) (tied y y (not_self y) (not_self y)) in
      let own_z : filter (ties lt z) (z ∷ zs) ≡ z ∷ filter (ties lt z) zs = ap (λ b. cond b (z ∷ filter (ties lt z) zs) (filter
      (ties lt z) zs)) (tied z z (not_self z) (not_self z)) in
      let one : lt y z ≡ false = found_above z (ties lt y) y (z ∷ zs) (filter (ties lt y) ys) (not_self z, over.0) (sym (h y) ∙ own_y) in
      let two : lt z y ≡ false = found_above y (ties lt z) z (y ∷ ys) (filter (ties lt z) zs) (not_self y, up.0) (h z ∙ own_z) in
      let there : filter (ties lt y) (z ∷ zs) ≡ z ∷ filter (ties lt y) zs = ap (λ b. cond b (z ∷ filter (ties lt y) zs) (filter
      (ties lt y) zs)) (tied y z one two) in
      let e : y ∷ filter (ties lt y) ys ≡ z ∷ filter (ties lt y) zs = sym own_y ∙ h y ∙ there in
      let same : y ≡ z = cc in
      ap (λ x. x ∷ ys) same ∙ ap (λ xs. z ∷ xs)
      (one_list ys zs up.1 over.1 (λ x. cut (ties lt x z) z (filter (ties lt x) ys) (filter (ties lt x) zs)
      (ap (λ v. filter (ties lt x) (v ∷ ys)) (sym same) ∙ h x)))

  -- ---- the function gives it

  if_low : (b : Bool) (w x y : X) (ys more : List X) → lt x w ≡ false → lt y w ≡ false → Low w ys → Low w more
      → Low w (cond b (y ∷ more) (x ∷ y ∷ ys))
  if_low true w x y ys more e f low there = (f, there)
  if_low false w x y ys more e f low there = (e, (f, low))

  low_in : (w x : X) (ys : List X) → lt x w ≡ false → Low w ys → Low w (put_in_order lt x ys)
  low_in w x [] e low = (e, tt)
  low_in w x (y ∷ ys) e low = if_low (lt y x) w x y ys (put_in_order lt x ys) e low.0 low.1 (low_in w x ys e low.1)

  if_up : (b : Bool) (x y : X) (ys more : List X) → lt y x ≡ b → Low y ys → Up ys → (lt x y ≡ false → Low y more) → Up more
      → Up (cond b (y ∷ more) (x ∷ y ∷ ys))
  if_up true x y ys more e low up there more_up = (there (o.one_way y x e), more_up)
  if_up false x y ys more e low up there more_up = ((e, lower_still x y ys e low), (low, up))

  up_in : (x : X) (ys : List X) → Up ys → Up (put_in_order lt x ys)
  up_in x [] up = (tt, tt)
  up_in x (y ∷ ys) up = if_up (lt y x) x y ys (put_in_order lt x ys) refl up.0 up.1 (λ e. low_in y x ys e up.0) (up_in x ys up.1)

  both_apart : (b c : Bool) → b ≡ true → not b && not c ≡ false
  both_apart true c e = refl
  both_apart false c e = absurd (cc)

  -- what is put before those that tie with it stands before them
  if_tied : (b : Bool) (p : X → Bool) (x y : X) (ys more : List X) → lt y x ≡ b → (lt y x ≡ true → p x ≡ true → p y ≡ false)
      → filter p more ≡ filter p (x ∷ ys) → filter p (cond b (y ∷ more) (x ∷ y ∷ ys)) ≡ filter p (x ∷ y ∷ ys)
  if_tied false p x y ys more e apart is = refl
  if_tied true p x y ys more e apart is = ap (λ m. cond (p y) (y ∷ m) m) is ∙ passed (p x) (p y) (filter p ys) (apart e)
    where
      passed : (b c : Bool) (l : List X) → (b ≡ true → c ≡ false) → cond c (y ∷ cond b (x ∷ l) l) (cond b (x ∷ l) l) ≡ cond b
          (x ∷ cond c (y ∷ l) l) (cond c (y ∷ l) l)
      passed true true l h = let e : true ≡ false = h refl in absurd (cc)
      passed true false l h = refl
      passed false true l h = refl
      passed false false l h = refl

  -- two that tie with a third are not below each other
  apart_in : (w x y : X) → lt y x ≡ true → ties lt w x ≡ true → ties lt w y ≡ false
  apart_in w x y e t = by (lt w y) (lt y w) refl refl
    where
      by : (b c : Bool) → lt w y ≡ b → lt y w ≡ c → not b && not c ≡ false
      by true c f g = refl
      by false true f g = refl
      by false false f g = let k : lt y x ≡ false = o.chain y w x g (untied (lt w x) (lt x w) t) in absurd (cc)

  tied_in : (w x : X) (ys : List X) → filter (ties lt w) (put_in_order lt x ys) ≡ filter (ties lt w) (x ∷ ys)
  tied_in w x [] = refl
  tied_in w x (y ∷ ys) = if_tied (lt y x) (ties lt w) x y ys (put_in_order lt x ys) refl (λ e t. apart_in w x y e t) (tied_in w x ys)

  pub up_sorted : (xs : List X) → Up (stably_sorted lt xs)
  up_sorted [] = tt
  up_sorted (x ∷ xs) = up_in x (stably_sorted lt xs) (up_sorted xs)

  tied_sorted : (xs : List X) → IsStableBy lt xs (stably_sorted lt xs)
  tied_sorted [] w = refl
  tied_sorted (x ∷ xs) w = tied_in w x (stably_sorted lt xs) ∙ ap (λ l. cond (ties lt w x) (x ∷ l) l) (tied_sorted xs w)

  -- what is sorted and stable is the function's list
  pub sorts_stably : (xs ys : List X) → IsSortedBy lt ys → IsStableBy lt xs ys → ys ≡ stably_sorted lt xs
  sorts_stably xs ys up stable = one_list ys (stably_sorted lt xs) (goes_up ys up) (up_sorted xs) (λ x. stable x ∙ sym (tied_sorted xs x))
