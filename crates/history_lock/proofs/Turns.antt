-- How a seat comes to its turn.
use Rattle.std.proofs.Common.{◌≡◌, ℕ, ◌%◌, ◌^◌, [], ◌∷◌, true, refl, ap, ◌∙◌, subst, Some}
use mathlib.Core.Option.{none}
use Rattle.atomic_table.specs.Table.{Me, step, Allows}
use Rattle.history_lock.specs.declared.rule.Origin.{Origin}
use Rattle.history_lock.specs.declared.rule.Held.{Held}
use Rattle.history_lock.specs.declared.rule.Held.TheVariants.{Here}
use Rattle.history_lock.specs.declared.rule.Stage.TheVariants.{Free, Waits, Serves}
use Rattle.history_lock.specs.declared.rule.Known.{Known}
use Rattle.history_lock.specs.declared.rule.Stage.{Stage}
use Rattle.history_lock.specs.Rule.{Meaning, Kept, StandsAt}
use Rattle.history_lock.specs.Parts.{Sits, HasSlot, is_turn}
use Rattle.history_lock.specs.Steps.{Served, looks}
use Rattle.history_lock.proofs.Waiting.{looks-allowed}

module _ {O S C R : Type 0} where
  -- the seat waits with the ticket t, and has otherwise not changed
  pub record Waiting (old : Me (Held O C R) (Known S C R)) (t : ℕ) (new : Me (Held O C R) (Known S C R)) : Type 0 where
    pub is : new ≡ (record old.0 { stage = Waits t }, old.1)

module _ {O S C R : Type 0} (m : Meaning O S C R) (key : Origin S) where
  -- a seat that waits may look
  pub may-look : (slots id t : ℕ) (old mid : Me (Held O C R) (Known S C R)) (o : Origin S) → Waiting old t mid → old.0.origin ≡ Some o
      → old.1 ≡ []
      → Allows (Kept m key) slots id mid 2 (λ n. n) (looks m (step slots 2 0 0 none) mid)
  may-look slots id t old mid o w from empty =
      looks-allowed m key slots id t mid o
      (ap (λ (z : Me (Held O C R) (Known S C R)). z.0.stage) w.is)
      (ap (λ (z : Me (Held O C R) (Known S C R)). z.0.origin) w.is ∙ from)
      (ap (λ (z : Me (Held O C R) (Known S C R)). z.1) w.is ∙ empty)

module _ {O S C R : Type 0} (m : Meaning O S C R) where
  -- the turn begins, whether the seat waited before or not
  served-since : (t : ℕ) (old mid new : Me (Held O C R) (Known S C R)) → Waiting old t mid → Served m t mid new → Served m t old new
  served-since t old mid new w served = let s = subst (λ (z : Me (Held O C R) (Known S C R)). Served m t z new) w.is served in record {
    key = s.key;
    object = s.object;
    more = s.more;
    origin = s.origin;
    view = s.view;
    slot = s.slot;
    stands = s.stands;
    legally = s.legally;
    alone = s.alone;
  }

  -- the look found the seat's ticket
  pub has-turn : (t found : ℕ) (old mid new : Me (Held O C R) (Known S C R)) → Waiting old t mid
      → looks m (step 1 2 0 0 none) mid found new → found ≡ t % 2 ^ 64 → Served m t old new
  has-turn t found old mid new w look hit =
      served-since t old mid new w ((look t (ap (λ (z : Me (Held O C R) (Known S C R)). z.0.stage) w.is)).1 hit)

  -- it always does where the seat has all parts
  pub has-turn-alone : (t found : ℕ) (old mid new : Me (Held O C R) (Known S C R)) (o : Origin S) → Waiting old t mid
      → looks m (step 1 2 0 0 none) mid found new → old.0.origin ≡ Some o → old.0.parts ≡ o.parts
      → Served m t old new
  has-turn-alone t found old mid new o w look from all =
      let l = look t (ap (λ (z : Me (Held O C R) (Known S C R)). z.0.stage) w.is) in
      served-since t old mid new w
      (l.1 (l.2 o (ap (λ (z : Me (Held O C R) (Known S C R)). z.0.origin) w.is
      ∙ from) (ap (λ (z : Me (Held O C R) (Known S C R)). z.0.parts) w.is ∙ all)))

  -- and then nothing came since its last call
  pub sees-no-more : (t : ℕ) (old new : Me (Held O C R) (Known S C R)) (o : Origin S) → Served m t old new → old.0.origin ≡ Some o
      → old.0.parts ≡ o.parts → new.0.at ≡ old.0.at
  sees-no-more t old new o s from all = let same : o ≡ s.key = cc (from, s.origin) in s.alone (all ∙ ap (λ (z : Origin S). z.parts) same)

module _ {O S C R : Type 0} (m : Meaning O S C R) (key : Origin S) where
  -- in a turn the seat has the slot with this object in it
  pub record InTurn (me : Me (Held O C R) (Known S C R)) (object : O) : Type 0 where
    pub ticket : ℕ
    pub serves : me.0.stage ≡ Serves ticket
    pub slot : me.1 ≡ (0, Here object) ∷ []
    pub stands : StandsAt m key me.0.at.seen object

  -- by cases on the stage
  in-turn-at : (me : Me (Held O C R) (Known S C R)) (stage : Stage) → me.0.stage ≡ stage → is_turn stage ≡ true → HasSlot m key me stage
      → (object : O) × InTurn me object
  in-turn-at me Free e b h = absurd (cc (b))
  in-turn-at me (Waits t) e b h = absurd h
  in-turn-at me (Serves t) e b h = (h.0, record { ticket = t; serves = e; slot = h.1; stands = h.2 })

  -- a seat in a turn has some object
  pub in-turn : (me : Me (Held O C R) (Known S C R)) → Sits m key me → is_turn me.0.stage ≡ true → (object : O) × InTurn me object
  in-turn me sits turn = in-turn-at me me.0.stage refl turn sits.slot

  -- the object that was found there
  pub in-turn-with : (me : Me (Held O C R) (Known S C R)) (object : O) → Sits m key me → is_turn me.0.stage ≡ true
      → me.1 ≡ (0, Here object) ∷ [] → InTurn me object
  in-turn-with me object sits turn slot =
      let h = in-turn me sits turn in
      let pair : ◌≡◌ {A = ℕ × Held O C R} (0, Here h.0) (0, Here object) = cc (h.1.slot, slot) in
      let held : Here h.0 ≡ Here object = ap (λ (x : ℕ × Held O C R). x.1) pair in
      let same : h.0 ≡ object = cc (held) in
      subst (InTurn me) same h.1
