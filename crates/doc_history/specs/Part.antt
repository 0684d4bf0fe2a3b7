-- What a desk did for some operations.
use Rattle.std.specs.Prelude.{ℕ, ◌≡◌, ◌≤◌, true, List, ◌++◌, length}
use Rattle.history_lock.specs.declared.view.View.{View}
use Rattle.history_lock.specs.Places.{is_own, Within}
use Rattle.doc_model.specs.Run.{Done}
use Rattle.table_words.specs.declared.call.TableCall.{TableCall}
use Rattle.table_words.specs.declared.call.TableReply.{TableReply}
use Rattle.table_words.specs.Tables.{Tables}
use Rattle.doc_history.specs.Told.{Tcall, told_part}

-- what a seat at the tables has seen, and its own places in it
abbrev pub Views : Type 0
Views = View TableCall TableReply

-- The history went on, and these operations made the own places that came.
pub record Served (s : Tables) (old new : Views) (ds : List Done) : Type 0 where
  pub more : List Tcall
  pub places : List ℕ
  pub seen : new.seen ≡ old.seen ++ more
  pub own : new.own ≡ old.own ++ places
  pub fresh : (i : ℕ) → is_own places i ≡ true → length old.seen ≤ i
  pub within : Within (is_own places) (length new.seen)
  pub told : told_part s new.seen places ds
