-- What the parts of a history and of a seat keep between two calls.
use Rattle.std.specs.Prelude.{ℕ, ◌≡◌, ◌<◌, Bool, true, false, [], ◌∷◌, Some}
use Rattle.atomic_table.specs.Table.{Me}
use Rattle.atomic_table.specs.Seated.{TableId}
use Rattle.history_lock.specs.declared.entry.Who.{Who}
use Rattle.history_lock.specs.declared.rule.Origin.{Origin}
use Rattle.history_lock.specs.declared.rule.Held.{Held}
use Rattle.history_lock.specs.declared.rule.Held.TheVariants.{Here}
use Rattle.history_lock.specs.declared.rule.Stage.{Stage}
use Rattle.history_lock.specs.declared.rule.Stage.TheVariants.{Free, Waits, Serves}
use Rattle.history_lock.specs.declared.rule.Known.{Known}
use Rattle.history_lock.specs.Legal.{legal}
use Rattle.history_lock.specs.Logged.{LoggedNext}
use Rattle.history_lock.specs.Rule.{Meaning, StandsAt}
use Rattle.history_lock.specs.Seats.{Beginning, Sitting}

-- the history of this name, from this origin
abbrev pub beginning : {S : Type 0} → TableId → Origin S → Beginning S
beginning name origin = record { name = name; opening = origin.opening; first = origin.first; parts = origin.parts }

-- the lock has three words and one slot
abbrev pub IsLock : TableId → Type 0
IsLock z = (z.words ≡ 3) × (z.slots ≡ 1)

-- a stage in a turn
abbrev pub is_turn : Stage → Bool
is_turn (Serves t) = true
is_turn _ = false

-- a seat of that history, with this number and this view
abbrev pub sitting : {S C R : Type 0} → TableId → Origin S → ℕ → Known S C R → Sitting S C R
sitting name origin number v =
    record { history = beginning name origin; number = number; parts = v.parts; held = is_turn v.stage; at = v.at }

module _ {O S C R : Type 0} where
  -- a seat has the slot in a turn alone, and then the object stands where it has seen the history lead
  abbrev pub HasSlot : Meaning O S C R → Origin S → Me (Held O C R) (Known S C R) → Stage → Type 0
  HasSlot m key me Free = me.1 ≡ []
  HasSlot m key me (Waits t) = ⊥
  HasSlot m key me (Serves t) = (object : O) × (me.1 ≡ (0, Here object) ∷ []) × StandsAt m key me.0.at.seen object

  -- what holds of a seat between two calls
  pub record Sits (m : Meaning O S C R) (key : Origin S) (me : Me (Held O C R) (Known S C R)) : Type 0 where
    pub origin : me.0.origin ≡ Some key
    pub some_parts : 0 < me.0.parts
    pub untold : me.0.told ≡ []
    pub slot : HasSlot m key me me.0.stage
    pub legally : legal m.allows m.next key.opening key.first me.0.at.seen

  -- in its turn the seat made a call, which was logged, and sits as before
  pub record Called (m : Meaning O S C R) (key : Origin S) (old new : Me (Held O C R) (Known S C R)) (who : Who) (call : C) (reply : R)
      : Type 0 where
    pub sits : Sits m key new
    pub same : new.0 ≡ record old.0 { at = new.0.at }
    pub logged : LoggedNext old.0.at new.0.at who call reply
