-- The queue of tickets, and what a change of one view leaves of the rule.
use Rattle.std.proofs.Common.{◌≡◌, ◌≢◌, ℕ, zero, suc, ◌%◌, ◌^◌, ◌<◌, ◌≤◌, ⊎_elim, inl, inr, List, [], ◌∷◌, set, refl, ap, sym}
use Rattle.std.proofs.Common.{◌∙◌, subst, arith}
use mathlib.Core.Logic.{dite}
use mathlib.Core.Option.{none, some, some-injective, some-ne-none}
use mathlib.Core.Option as maybe
use native.Mathlib.Decide.{ℕ_discrete}
use lib.ListN.{get_elem?}
use Rattle.atomic_table.specs.Table.{State}
use Rattle.atomic_table.proofs.Lists.{at_set, set_else, one_turn}
use Rattle.history_lock.specs.declared.entry.Entry.{Entry}
use Rattle.history_lock.specs.declared.rule.Origin.{Origin}
use Rattle.history_lock.specs.declared.rule.Held.{Held}
use Rattle.history_lock.specs.declared.rule.Stage.{Stage}
use Rattle.history_lock.specs.declared.rule.Stage.TheVariants.{Free, Waits, Serves}
use Rattle.history_lock.specs.declared.rule.Known.{Known}
use Rattle.history_lock.specs.Rule.{Meaning, total, queued, HasTicket, parts_of, queued_of, Serving, NoneServes, Placed, Kept}
use Rattle.history_lock.proofs.Totals.{total-below, total-alone}

-- a seat with a ticket has a part
queued-parts : (st : Stage) (n : ℕ) → ((t : ℕ) → HasTicket st t → 0 < n) → queued st ≤ n
queued-parts Free n h = omega arith
queued-parts (Waits t) n h = h t refl
queued-parts (Serves t) n h = h t refl

-- a seat that has none is not counted
pub queued-none : (st : Stage) → ((t : ℕ) → HasTicket st t → ⊥) → queued st ≡ 0
queued-none Free h = refl
queued-none (Waits t) h = absurd (h t refl)
queued-none (Serves t) h = absurd (h t refl)

-- no seat is counted twice
queued-most : (st : Stage) → queued st ≤ 1
queued-most Free = omega arith
queued-most (Waits t) = omega arith
queued-most (Serves t) = omega arith

-- what was put at a place stands there
pub set-at : {A : Type 0} (xs : List A) (i : ℕ) (v w : A) → get_elem? xs i ≡ some v → get_elem? (set xs i w) i ≡ some w
set-at [] i v w at = absurd (some-ne-none v (sym at))
set-at (x ∷ xs) zero v w at = refl
set-at (x ∷ xs) (suc i) v w at = set-at xs i v w at

module _ {S C R : Type 0} where
  -- no two seats have one ticket
  abbrev pub Distinct : List (Known S C R) → Type 0
  Distinct vs = (i j t : ℕ) (v w : Known S C R) → get_elem? vs i ≡ some v → get_elem? vs j ≡ some w → HasTicket v.stage t
      → HasTicket w.stage t → i ≡ j

  -- what holds of each view, after one changed
  pub each-set : (F : Known S C R → Type 0) (vs : List (Known S C R)) (id : ℕ) (w : Known S C R) → F w
      → ((j : ℕ) (u : Known S C R) → j ≢ id → get_elem? vs j ≡ some u → F u)
      → (j : ℕ) (u : Known S C R) → get_elem? (set vs id w) j ≡ some u → F u
  each-set F vs id w mine others j u at =
      ⊎_elim (λ (h : (j ≡ id) × (w ≡ u)). subst F h.1 mine) (λ (h : (j ≢ id) × (get_elem? vs j ≡ some u)). others j u h.0 h.1)
      (at_set vs id j w u at)

  -- tickets stay distinct where the new one clashes with none
  pub distinct-set : (vs : List (Known S C R)) (id : ℕ) (w : Known S C R) → Distinct vs
      → ((j t : ℕ) (u : Known S C R) → j ≢ id → get_elem? vs j ≡ some u → HasTicket u.stage t → HasTicket w.stage t → ⊥)
      → Distinct (set vs id w)
  distinct-set vs id w apart clash i j t a b p q x y =
      ⊎_elim
      (λ (h : (i ≡ id) × (w ≡ a)). ⊎_elim (λ (k : (j ≡ id) × (w ≡ b)). h.0 ∙ sym k.0)
      (λ (k : (j ≢ id) × (get_elem? vs j ≡ some b)). absurd
      (clash j t b k.0 k.1 y (subst (λ (z : Known S C R). HasTicket z.stage t) (sym h.1) x))) (at_set vs id j w b q))
      (λ (h : (i ≢ id) × (get_elem? vs i ≡ some a)). ⊎_elim
      (λ (k : (j ≡ id) × (w ≡ b)). absurd (clash i t a h.0 h.1 x (subst (λ (z : Known S C R). HasTicket z.stage t) (sym k.1) y)))
      (λ (k : (j ≢ id) × (get_elem? vs j ≡ some b)). apart i j t a b h.1 k.1 x y) (at_set vs id j w b q))
      (at_set vs id i w a p)

  -- a seat still serves where the one that changed does
  pub serving-set : (vs : List (Known S C R)) (id passed : ℕ) (v w : Known S C R) → get_elem? vs id ≡ some v
      → (v.stage ≡ Serves passed → w.stage ≡ Serves passed) → Serving vs passed → Serving (set vs id w) passed
  serving-set vs id passed v w at keeps s =
      dite (ℕ_discrete s.0 id)
      (λ e. (
        id,
        w,
        set-at vs id v w at,
        keeps (ap (λ (z : Known S C R). z.stage) (some-injective v s.1 (sym at ∙ (ap (get_elem? vs) (sym e) ∙ s.2))) ∙ s.3),
      ))
      (λ ne. (s.0, s.1, set_else vs id s.0 w ne ∙ s.2, s.3))

  -- none serves where the one that changed does not
  pub none-serves-set : (vs : List (Known S C R)) (id : ℕ) (w : Known S C R) → ((t : ℕ) → w.stage ≡ Serves t → ⊥) → NoneServes vs
      → NoneServes (set vs id w)
  none-serves-set vs id w mine others = each-set (λ u. (t : ℕ) → u.stage ≡ Serves t → ⊥) vs id w mine (λ j u _. others j u)

module _ {O S C R : Type 0} (m : Meaning O S C R) (key : Origin S) where
  -- where the object is, after a change of a view that serves no more and no less
  pub placed-set : (log : List (Entry C R)) (passed id : ℕ) (homes : List (maybe.Option (Held O C R))) (vs : List (Known S C R))
      (v w : Known S C R) → get_elem? vs id ≡ some v
      → (v.stage ≡ Serves passed → w.stage ≡ Serves passed) → ((t : ℕ) → w.stage ≡ Serves t → v.stage ≡ Serves t)
      → Placed m key log passed homes vs → Placed m key log passed homes (set vs id w)
  placed-set log passed id homes vs v w at still before p =
      ⊎_elim
      (λ h. inl (h.0, h.1, h.2, none-serves-set vs id w (λ t e. h.3 id v at t (before t e)) h.3))
      (λ h. inr (h.0, serving-set vs id passed v w at still h.1)) p

  -- a seat that serves has the object
  pub out-with : (log : List (Entry C R)) (passed id t : ℕ) (homes : List (maybe.Option (Held O C R))) (vs : List (Known S C R))
      (v : Known S C R) → get_elem? vs id ≡ some v
      → v.stage ≡ Serves t → Placed m key log passed homes vs → homes ≡ none ∷ []
  out-with log passed id t homes vs v at serves p = ⊎_elim (λ h. absurd (h.3 id v at t serves)) (λ h. h.0) p

module _ {O S C R : Type 0} (m : Meaning O S C R) (key : Origin S) (s : State (Held O C R) (Known S C R)) (r : Kept m key s) where
  -- no more seats have a ticket than there are parts
  pub queue-bound : total queued_of s.views ≤ key.parts
  queue-bound =
      let b = total-below queued_of parts_of s.views (λ i v at. queued-parts v.stage v.parts (r.each i v at).sits) in
      let p = r.parts in omega arith

  -- the ticket that is served is known by its number in the word
  pub same-ticket : (id t : ℕ) (v : Known S C R) → get_elem? s.views id ≡ some v → HasTicket v.stage t → r.passed % 2 ^ 64 ≡ t % 2 ^ 64
      → t ≡ r.passed
  same-ticket id t v at has e =
      let k = (r.each id v at).ticket t has in let lo = k.0 in let hi = k.1 in
      let b = queue-bound in let q = r.queue in let z = r.bounded in
      sym (one_turn r.passed t (2 ^ 64) lo (omega arith) e)

  -- a seat with all parts has the ticket that is served
  pub first-in-line : (id t : ℕ) (v : Known S C R) → get_elem? s.views id ≡ some v → HasTicket v.stage t → v.parts ≡ key.parts
      → t ≡ r.passed
  first-in-line id t v at has all =
      let alone = total-alone parts_of queued_of s.views id v at (r.parts
      ∙ sym all) (λ i u there none_left. queued-none u.stage (λ k h. let p = (r.each i u there).sits k h in omega arith)) in
      let most = queued-most v.stage in
      let k = (r.each id v at).ticket t has in let lo = k.0 in let hi = k.1 in
      let q = r.queue in omega arith
