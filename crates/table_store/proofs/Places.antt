-- The place of a number.
use Rattle.std.proofs.Common.{◌≡◌, ℕ, zero, suc, ◌+◌, ◌<◌, ◌≤◌, ◌==◌, Bool, true, false, cond, ltb, List, [], ◌∷◌, length, get_or, set, refl, ap, sym, ◌∙◌, subst, arith}
use Rattle.std.specs.Prelude.{Option, None, Some, unwrap_or}
use Rattle.std.specs.List.{position, position_or_len, remove}
use Rattle.std.proofs.lemmas.Bool.{ltb-false, ltb-true}
use Rattle.std.proofs.lemmas.List.Quantifiers.{position-Some}
use Rattle.table_words.specs.Tables.{Table, numbered, put, without}
use Rattle.table_store.specs.declared.live.Live.{Live}
use Rattle.table_store.specs.Found.{shown, all_shown, Stands, FoundNumber}

module _ (n : ℕ) where
  abbrev is_it : Live → Bool
  is_it kept = n == kept.table.number

  stands-at : (live : List Live) (i : ℕ) (d : Live) → i < length live → is_it (get_or live i d) ≡ true
      → ((k : ℕ) → k < i → is_it (get_or live k d) ≡ false)
      → ((e : Live) → numbered n (all_shown live) ≡ Some (shown (get_or live i e))) × ((u : Live) → u.table.number ≡ n
      → all_shown (set live i u) ≡ put (shown u) (all_shown live)) × (all_shown (remove live i) ≡ without n (all_shown live))
  stands-at [] i d within here before = absurd (omega (arith, within))
  stands-at (r ∷ rs) zero d within here before = (
    λ e. rw here refl,
    λ u same. let it : (u.table.number == r.table.number)
        ≡ true = subst (λ k. (k == r.table.number) ≡ true) (sym same) here in rw it refl,
    rw here refl,
  )
  stands-at (r ∷ rs) (suc i) d within here before =
      let first : (n == r.table.number) ≡ false = before 0 (omega arith) in
      let later = stands-at rs i d (omega (arith, within)) here (λ k low. before (suc k) (omega (arith, low))) in (
        λ e. rw first (later.0 e),
        λ u same. let it : (u.table.number == r.table.number)
            ≡ false = subst (λ k. (k == r.table.number) ≡ false) (sym same) first in
            rw it (ap (λ rest. shown r ∷ rest) (later.1 u same)),
        rw first (ap (λ rest. shown r ∷ rest) later.2),
      )

  step-none : (c : Live) (cs : List Live) (test : Bool) → is_it c ≡ test → length (c ∷ cs) ≤ position_or_len is_it (c ∷ cs)
      → (test ≡ false) × (length cs ≤ position_or_len is_it cs)
  step-none c cs true is past = absurd (omega (arith, rw is at past))
  step-none c cs false is past = (refl, omega (arith, rw is at past))

  lacks-at : (live : List Live) → length live ≤ position_or_len is_it live → numbered n (all_shown live) ≡ None
  lacks-at [] past = refl
  lacks-at (r ∷ rs) past =
      let next = step-none r rs (is_it r) refl past in
      let first : (n == r.table.number) ≡ false = next.0 in
      rw first (lacks-at rs next.1)

  is-none : (test : Bool) (place : ℕ) → cond test (Some place) None ≡ None → test ≡ false
  is-none true place is = absurd cc
  is-none false place is = refl

  pub found : (live : List Live) (o : Option ℕ) → o ≡ position (λ kept. n == kept.table.number) live → FoundNumber n live o
  found live None is = lacks-at live
      (ltb-false _ _ (is-none (ltb (position_or_len is_it live) (length live)) (position_or_len is_it live) (sym is)))
  found [] (Some i) is = absurd cc
  found (r ∷ rs) (Some i) is =
      let at = position-Some is_it (r ∷ rs) i r (sym is) in
      let parts = stands-at (r ∷ rs) i r at.0 at.1 at.2 in
      record { within = at.0; there = parts.0; over = parts.1; out = parts.2 }
