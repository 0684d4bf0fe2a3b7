-- The rule of the table, which holds between any two steps.
use Rattle.std.specs.Prelude.{ℕ, ◌≡◌, ◌⊎◌, ◌+◌, ◌%◌, ◌^◌, ◌<◌, ◌≤◌, if◌then◌else◌, nat_lt, List, [], ◌∷◌, length, Some}
use mathlib.Core.Option.{none, some}
use mathlib.Core.Option as maybe
use mathlib.Core.List.{IsPrefix}
use lib.ListN.{get_elem?}
use Rattle.atomic_table.specs.Table.{State}
use Rattle.history_lock.specs.declared.entry.Entry.{Entry}
use Rattle.history_lock.specs.declared.rule.Origin.{Origin}
use Rattle.history_lock.specs.declared.rule.Start.{Start}
use Rattle.history_lock.specs.declared.rule.Held.{Held}
use Rattle.history_lock.specs.declared.rule.Held.TheVariants.{Here}
use Rattle.history_lock.specs.declared.rule.Stage.{Stage}
use Rattle.history_lock.specs.declared.rule.Stage.TheVariants.{Free, Waits, Serves}
use Rattle.history_lock.specs.declared.rule.Known.{Known}
use Rattle.history_lock.specs.Places.{times, is_own, Within}
use Rattle.history_lock.specs.Legal.{replay, count_after, legal}

-- what an object means
pub record Meaning (O S C R : Type 0) : Type 1 where
  pub state : O → S
  pub faults : O → ℕ
  pub allows : S → C → R → ℕ → ℕ → Type 0
  pub next : S → C → R → S

-- the same, of its parts
abbrev pub meaning : {O S C R : Type 0} → (O → S) → (O → ℕ) → (S → C → R → ℕ → ℕ → Type 0) → (S → C → R → S) → Meaning O S C R
meaning state faults allows next = record { state = state; faults = faults; allows = allows; next = next }

-- what a history begins with
abbrev pub origin_of : {O S : Type 0} → (O → S) → (O → ℕ) → Start O → Origin S
origin_of state faults start = record { opening = state start.object.value; first = faults start.object.value; parts = start.parts }

-- f of each, added up
abbrev pub total : {X : Type 0} → (X → ℕ) → List X → ℕ
total f [] = 0
total f (x ∷ xs) = f x + total f xs

-- 1 below n, and 0 from there on
abbrev pub below : ℕ → ℕ → ℕ
below n i = if nat_lt i n then 1 else 0

-- 1 for a stage with a ticket
abbrev pub queued : Stage → ℕ
queued Free = 0
queued (Waits t) = 1
queued (Serves t) = 1

-- a stage with this ticket
abbrev pub HasTicket : Stage → ℕ → Type 0
HasTicket Free t = ⊥
HasTicket (Waits u) t = u ≡ t
HasTicket (Serves u) t = u ≡ t

module _ {S C R : Type 0} where
  -- a seat's parts
  abbrev pub parts_of : Known S C R → ℕ
  parts_of v = v.parts

  -- 1 for a seat that has a ticket
  abbrev pub queued_of : Known S C R → ℕ
  queued_of v = queued v.stage

  -- how often a place is among a seat's own
  abbrev pub times_of : ℕ → Known S C R → ℕ
  times_of i v = times v.at.own i

  -- what holds of each view: `passed` is the ticket that is served, and `drawn` the one that is drawn next
  pub record Fits (key : Origin S) (log : List (Entry C R)) (drawn passed : ℕ) (v : Known S C R) : Type 0 where
    pub origin : (o : Origin S) → v.origin ≡ Some o → o ≡ key
    pub sits : (t : ℕ) → HasTicket v.stage t → 0 < v.parts
    pub ticket : (t : ℕ) → HasTicket v.stage t → (passed ≤ t) × (t < drawn)
    pub serves : (t : ℕ) → v.stage ≡ Serves t → (t ≡ passed) × (v.at.seen ≡ log)
    pub seen : IsPrefix v.at.seen log
    pub told : IsPrefix v.told v.at.seen
    pub own : Within (is_own v.at.own) (length v.at.seen)
    pub idle : v.parts ≡ 0 → v.at.own ≡ []

  -- some seat knows that this ticket is served
  abbrev pub Serving : List (Known S C R) → ℕ → Type 0
  Serving views passed = (id : ℕ) × (v : Known S C R) × (get_elem? views id ≡ some v) × (v.stage ≡ Serves passed)

  -- no seat knows that its ticket is served
  abbrev pub NoneServes : List (Known S C R) → Type 0
  NoneServes views = (id : ℕ) (v : Known S C R) → get_elem? views id ≡ some v → (t : ℕ) → v.stage ≡ Serves t → ⊥

module _ {O S C R : Type 0} where
  -- the object stands where these entries lead, with the count that they left
  abbrev pub StandsAt : Meaning O S C R → Origin S → List (Entry C R) → O → Type 0
  StandsAt m key log object =
      (m.state object ≡ replay m.next key.opening log) × (m.faults object ≡ count_after key.first log)

  -- the object is at home and stands where the history leads, or it is out with the seat whose ticket is served
  abbrev pub Placed : Meaning O S C R → Origin S → List (Entry C R) → ℕ → List (maybe.Option (Held O C R)) → List (Known S C R) → Type 0
  Placed m key log passed homes views =
      ((object : O) × (homes ≡ some (Here object) ∷ []) × StandsAt m key log object × NoneServes views)
      ⊎ ((homes ≡ none ∷ []) × Serving views passed)

  -- there is one history, which each seat has seen a beginning of, and the object stands where it leads
  pub record Kept (m : Meaning O S C R) (key : Origin S) (s : State (Held O C R) (Known S C R)) : Type 0 where
    pub log : List (Entry C R)
    pub drawn : ℕ
    pub passed : ℕ
    pub words : s.words ≡ (length log % 2 ^ 64) ∷ (drawn % 2 ^ 64) ∷ (passed % 2 ^ 64) ∷ []
    pub legally : legal m.allows m.next key.opening key.first log
    pub bounded : key.parts < 2 ^ 64
    pub parts : total parts_of s.views ≡ key.parts
    pub queue : passed + total queued_of s.views ≡ drawn
    pub places : (i : ℕ) → total (times_of i) s.views ≡ below (length log) i
    pub each : (id : ℕ) (v : Known S C R) → get_elem? s.views id ≡ some v → Fits key log drawn passed v
    pub apart : (i j t : ℕ) (v w : Known S C R) → get_elem? s.views i ≡ some v → get_elem? s.views j ≡ some w
        → HasTicket v.stage t → HasTicket w.stage t → i ≡ j
    pub home : Placed m key log passed s.homes s.views
