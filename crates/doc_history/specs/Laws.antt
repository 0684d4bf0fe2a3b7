-- Laws of what is told.
use Rattle.std.specs.Prelude.{ℕ, ◌≡◌, ◌<◌, true, List, [], ◌∷◌, ◌++◌, length, map}
use Rattle.history_lock.specs.Places.{Each, Within, Apart, is_own, story}
use Rattle.history_lock.specs.Legal.{replay}
use Rattle.doc_model.specs.Run.{Done, whos, run}
use Rattle.table_words.specs.Tables.{Tables}
use Rattle.table_words.specs.Step.{tables_after}
use Rattle.doc_history.specs.Docs.{docs}
use Rattle.doc_history.specs.Told.{Tcall, told, told_part}
use Rattle.doc_history.specs.Part.{Views, Served}

-- a part stays one as the history goes on
abbrev pub Grows : Type 0
Grows = (s : Tables) (seen more : List Tcall) (own : List ℕ) (ds : List Done) → Within (is_own own) (length seen)
    → told_part s seen own ds → told_part s (seen ++ more) own ds

-- two parts with no operation in common are one
abbrev pub Joins : Type 0
Joins = (s : Tables) (h : List Tcall) (own own' : List ℕ) (ds ds' : List Done) → Apart (whos ds) (whos ds')
    → told_part s h own ds → told_part s h own' ds' → told_part s h (own ++ own') (ds ++ ds')

-- a part with all places is the whole
abbrev pub Wholes : Type 0
Wholes = (s : Tables) (h : List Tcall) (own : List ℕ) (ds : List Done) → ((i : ℕ) → i < length h → is_own own i ≡ true)
    → told_part s h own ds → told s h ds

-- one of some operations
abbrev pub IsOneOf : List Done → Done → Type 0
IsOneOf ds d = (before : List Done) × (behind : List Done) × (ds ≡ before ++ d ∷ behind)

-- the story of a history, in order: these operations made its last entries, and with their replies they are a run of the one-thread store
pub record Story (s : Tables) (h : List Tcall) (ds : List Done) : Type 0 where
  pub dones : List Done
  pub in_order : whos dones ≡ map (λ (e : Tcall). e.who) (story h)
  pub from_these : Each (IsOneOf ds) dones
  pub runs : run (docs s) dones (docs (replay tables_after s h))

abbrev pub Tells : Type 0
Tells = (s : Tables) (h : List Tcall) (ds : List Done) → told s h ds → Story s h ds

-- nothing was done for no operation
abbrev pub ServedNone : Type 0
ServedNone = (s : Tables) (v : Views) → Served s v v []

-- some operations, and then others, no one of which is among the first
abbrev pub ServedOn : Type 0
ServedOn = (s : Tables) (a b c : Views) (ds ds' : List Done) → Apart (whos ds) (whos ds')
    → Served s a b ds → Served s b c ds' → Served s a c (ds ++ ds')
