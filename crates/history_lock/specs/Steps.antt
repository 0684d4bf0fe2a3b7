-- What each step does to the view and the slots of the seat that makes it.
use Rattle.std.specs.Prelude.{ℕ, ◌≡◌, ◌≢◌, ◌+◌, ◌-◌, ◌%◌, ◌^◌, if◌then◌else◌, nat_lt, List, [], ◌∷◌, ◌++◌, length, None, Some}
use mathlib.Core.Option.{some}
use mathlib.Core.List.{IsPrefix}
use lib.ListN.{get_elem?}
use Rattle.atomic_table.specs.Table.{Me, Step}
use Rattle.history_lock.specs.declared.entry.Entry.{Entry}
use Rattle.history_lock.specs.declared.view.View.{View}
use Rattle.history_lock.specs.declared.rule.Origin.{Origin}
use Rattle.history_lock.specs.declared.rule.Note.{Note}
use Rattle.history_lock.specs.declared.rule.Held.{Held}
use Rattle.history_lock.specs.declared.rule.Held.TheVariants.{Here, Made}
use Rattle.history_lock.specs.declared.rule.Stage.TheVariants.{Free, Waits, Serves}
use Rattle.history_lock.specs.declared.rule.Known.{Known}
use Rattle.history_lock.specs.Places.{AllPlaces}
use Rattle.history_lock.specs.Legal.{legal}
use Rattle.history_lock.specs.Rule.{Meaning, StandsAt}

-- the longer of two lists
abbrev pub longer : {A : Type 0} → List A → List A → List A
longer xs ys = if nat_lt (length xs) (length ys) then ys else xs

-- the other one
abbrev pub shorter : {A : Type 0} → List A → List A → List A
shorter xs ys = if nat_lt (length xs) (length ys) then xs else ys

module _ {S C R : Type 0} where
  -- what the seat knows that makes the history
  abbrev pub newly : Origin S → Known S C R
  newly key = record { origin = Some key; parts = key.parts; offer = 0; stage = Free; at = record { seen = []; own = [] }; told = [] }

  -- the seat after a split
  abbrev pub staying : Known S C R → Known S C R
  staying v = record v { parts = v.parts - v.offer; offer = 0 }

  -- the new seat
  abbrev pub leaving : Known S C R → Known S C R
  leaving v = record v { parts = v.offer; offer = 0; at = record { seen = v.at.seen; own = [] } }

  -- the seat after a join
  abbrev pub merged : Known S C R → Known S C R → Known S C R
  merged v w = record v {
    parts = v.parts + w.parts;
    at = record { seen = longer v.at.seen w.at.seen; own = v.at.own ++ w.at.own };
    told = shorter v.at.seen w.at.seen;
  }

  -- the other one, which knows nothing
  abbrev pub spent : Known S C R
  spent = record { origin = None; parts = 0; offer = 0; stage = Free; at = record { seen = []; own = [] }; told = [] }

module _ {O C R : Type 0} where
  -- the entry of a note
  abbrev pub entry_of : (O → ℕ) → Note O C R → Entry C R
  entry_of faults n = record {
    who = n.who;
    call = n.call.value;
    reply = n.reply.value;
    before = faults n.before.value;
    after = faults n.after.value;
  }

  -- the call of a note came last, and its place is one more of the seat's own
  abbrev pub logged : (O → ℕ) → Note O C R → View C R → View C R
  logged faults n v = record { seen = v.seen ++ entry_of faults n ∷ []; own = v.own ++ length v.seen ∷ [] }

module _ {O S C R : Type 0} where
  -- a ticket was drawn
  abbrev pub draws : Step (Held O C R) → Me (Held O C R) (Known S C R) → ℕ → Me (Held O C R) (Known S C R) → Type 0
  draws st old found new = (t : ℕ) × (found ≡ t % 2 ^ 64) × (new ≡ (record old.0 { stage = Waits t }, old.1))

  -- the call of the slot's note was logged
  abbrev pub logs : (O → ℕ) → Step (Held O C R) → Me (Held O C R) (Known S C R) → ℕ → Me (Held O C R) (Known S C R) → Type 0
  logs faults st old found new = (n : Note O C R) → old.1 ≡ (0, Made n) ∷ [] → new ≡ (record old.0 { at = logged faults n old.0.at }, old.1)

  -- the slot is back home, and the turn over
  abbrev pub passes : Step (Held O C R) → Me (Held O C R) (Known S C R) → ℕ → Me (Held O C R) (Known S C R) → Type 0
  passes st old found new = new ≡ (record old.0 { stage = Free }, [])

  -- so many parts are for the next split
  abbrev pub offers : Step (Held O C R) → Me (Held O C R) (Known S C R) → ℕ → Me (Held O C R) (Known S C R) → Type 0
  offers st old found new = new ≡ (record old.0 { offer = st.first }, old.1)

  -- the list that was told begins the one that was seen
  abbrev pub learns : Step (Held O C R) → Me (Held O C R) (Known S C R) → ℕ → Me (Held O C R) (Known S C R) → Type 0
  learns st old found new = IsPrefix old.0.told old.0.at.seen × (new ≡ (record old.0 { told = [] }, old.1))

  -- the ticket t is served: the whole history was seen, and the slot taken
  pub record Served (m : Meaning O S C R) (t : ℕ) (old new : Me (Held O C R) (Known S C R)) : Type 0 where
    pub key : Origin S
    pub object : O
    pub more : List (Entry C R)
    pub origin : old.0.origin ≡ Some key
    pub view : new.0 ≡ record old.0 { stage = Serves t; at = record { seen = old.0.at.seen ++ more; own = old.0.at.own } }
    pub slot : new.1 ≡ (0, Here object) ∷ []
    pub stands : StandsAt m key new.0.at.seen object
    pub legally : legal m.allows m.next key.opening key.first new.0.at.seen
    pub alone : old.0.parts ≡ key.parts → new.0.at ≡ old.0.at

  -- where the number found is the ticket's, it is served. It is so where the seat has all parts
  abbrev pub looks : Meaning O S C R → Step (Held O C R) → Me (Held O C R) (Known S C R) → ℕ → Me (Held O C R) (Known S C R) → Type 0
  looks m st old found new =
      (t : ℕ) → old.0.stage ≡ Waits t
      → (found ≢ t % 2 ^ 64 → new ≡ old) × (found ≡ t % 2 ^ 64 → Served m t old new)
      × ((key : Origin S) → old.0.origin ≡ Some key → old.0.parts ≡ key.parts → found ≡ t % 2 ^ 64)

  -- what is left where a seat with the view v had all parts
  pub record Ends (m : Meaning O S C R) (key : Origin S) (v : View C R) (object : O) (count : ℕ) : Type 0 where
    pub counted : count ≡ length v.seen % 2 ^ 64
    pub stands : StandsAt m key v.seen object
    pub legally : legal m.allows m.next key.opening key.first v.seen
    pub places : AllPlaces v.own (length v.seen)

  -- the same of the table's words and slots
  pub record Closing (m : Meaning O S C R) (key : Origin S) (v : View C R) (words : List ℕ) (slots : List (Held O C R)) : Type 0 where
    pub object : O
    pub slot : get_elem? slots 0 ≡ some (Here object)
    pub word : get_elem? words 0 ≡ some (length v.seen % 2 ^ 64)
    pub ends : Ends m key v object (length v.seen % 2 ^ 64)
