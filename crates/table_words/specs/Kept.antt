-- What every legal history keeps: the laws of stamps and of numbers.
use Rattle.std.specs.Prelude.{ℕ, ◌≡◌, ◌<◌, ◌≤◌, List, ◌++◌, Option, Some}
use Rattle.history_lock.specs.declared.entry.Entry.{Entry}
use Rattle.history_lock.specs.Legal.{legal, replay}
use Rattle.table_words.specs.declared.call.TableCall.{TableCall}
use Rattle.table_words.specs.declared.call.TableReply.{TableReply}
use Rattle.table_words.specs.Tables.{Table, Tables, numbered}
use Rattle.table_words.specs.Sound.{Sound}
use Rattle.table_words.specs.Step.{tstep, tables_after}

-- a table with a stamp that was given before is the table that it was then, and one with a number that was given before had its space
pub record Kept (early late : Tables) : Type 0 where
  pub next : early.next ≤ late.next
  pub table : (n : ℕ) (t : Table) → numbered n late.live ≡ Some t → t.stamp < early.next → numbered n early.live ≡ Some t
  pub space : (n : ℕ) (t : Table) → numbered n late.live ≡ Some t → n < early.next
      → (u : Table) × (numbered n early.live ≡ Some u) × (u.space ≡ t.space)

-- calls on tables with their replies, in order
abbrev pub History : Type 0
History = List (Entry TableCall TableReply)

-- the tables after them
abbrev pub after : Tables → History → Tables
after s h = replay tables_after s h

-- from sound tables a legal history leads to sound ones, and keeps what has older stamps and numbers
abbrev pub SoundAfter : Type 0
SoundAfter = (s : Tables) (faults : ℕ) (h : History) → Sound s → legal tstep tables_after s faults h
    → Sound (after s h) × Kept s (after s h)

-- where the table of a number has one stamp at two moments of a history, it has the same rows at both
abbrev pub StampsTellRows : Type 0
StampsTellRows = (s : Tables) (faults : ℕ) (h more : History) → Sound s → legal tstep tables_after s faults (h ++ more)
    → (n : ℕ) (t u : Table) → numbered n (after s h).live ≡ Some t → numbered n (after s (h ++ more)).live ≡ Some u
    → t.stamp ≡ u.stamp → t.rows ≡ u.rows

-- the table of a number has the same space at any two moments of a history
abbrev pub NumbersNameSpaces : Type 0
NumbersNameSpaces = (s : Tables) (faults : ℕ) (h more : History) → Sound s → legal tstep tables_after s faults (h ++ more)
    → (n : ℕ) (t u : Table) → numbered n (after s h).live ≡ Some t → numbered n (after s (h ++ more)).live ≡ Some u → t.space ≡ u.space
