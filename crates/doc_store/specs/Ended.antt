-- How far an operation has come. Links between lemmas; nobody has to read them for the main clause.
use Rattle.std.specs.Prelude.{ℕ, ◌≡◌, ◌≤◌, ◌+◌, ◌↔◌, Bool, true, List, [], ◌∷◌, ◌++◌, length}
use Rattle.history_lock.specs.declared.entry.Who.{Who}
use Rattle.history_lock.specs.Legal.{replay}
use Rattle.history_lock.specs.Places.{is_own, same_who, Within}
use Rattle.doc_model.specs.declared.op.OpReply.TheVariants.{Fault}
use Rattle.doc_model.specs.Run.{Done}
use Rattle.doc_model.specs.Step.{step}
use Rattle.table_words.specs.declared.call.TableReply.{TableReply}
use Rattle.table_words.specs.declared.call.TableReply.TheVariants as reply
use Rattle.table_words.specs.Tables.{Tables}
use Rattle.table_words.specs.Step.{tables_after}
use Rattle.doc_history.specs.Docs.{docs}
use Rattle.doc_history.specs.Part.{Views}
use Rattle.doc_history.specs.Told.{Tcall, after, Last}

-- the entries at those places are of this operation, and left the documents
abbrev pub Left : (ℕ → Bool) → Who → Tables → ℕ → List Tcall → Type 0
Left mine who s i [] = Unit {0}
Left mine who s i (e ∷ es) =
    (mine i ≡ true → (same_who e.who who ≡ true) × (docs (after s e) ≡ docs s)) × Left mine who (after s e) (i + 1) es

-- the history went on, and this operation made at most so many calls, each of which left the documents
pub record Tried (s : Tables) (old new : Views) (who : Who) (calls : ℕ) : Type 0 where
  pub more : List Tcall
  pub places : List ℕ
  pub seen : new.seen ≡ old.seen ++ more
  pub own : new.own ≡ old.own ++ places
  pub fresh : (i : ℕ) → is_own places i ≡ true → length old.seen ≤ i
  pub within : Within (is_own places) (length new.seen)
  pub left : Left (is_own places) who s 0 new.seen
  pub few : length places ≤ calls

-- and then one more call, which is the operation's step
pub record Ended (s : Tables) (old new : Views) (d : Done) (calls : ℕ) : Type 0 where
  pub before : Views
  pub entry : Tcall
  pub tried : Tried s old before d.who calls
  pub seen : new.seen ≡ before.seen ++ entry ∷ []
  pub own : new.own ≡ before.own ++ length before.seen ∷ []
  pub same : entry.who ≡ d.who
  pub last : Last (replay tables_after s before.seen) entry d

-- one call, with its reply and the tables around it, is the operation's step
abbrev pub Comes : Done → Tables → Tables → TableReply → Type 0
Comes d s t r = step d.who d.now d.op (docs s) d.reply (docs t) × ((d.reply ≡ Fault) ↔ (r ≡ reply.Fault))
