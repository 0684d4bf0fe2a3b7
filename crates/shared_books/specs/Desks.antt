-- Desks as clauses see them.
use Rattle.std.specs.Prelude.{ℕ, ◌≡◌, Bool, true, false, Option, None, Some}
use Rattle.history_lock.specs.Seats.{Beginning, Sitting, Whose, turn_of}
use Rattle.table_words.specs.declared.call.TableCall.{TableCall}
use Rattle.table_words.specs.declared.call.TableReply.{TableReply}
use Rattle.table_words.specs.Tables.{Tables}

-- a desk over a history with one seat: that seat, whether it holds a turn, and how many turns it began, modulo 2^64
pub record SoloDesk : Type 0 where
  pub seat : Sitting Tables TableCall TableReply
  pub held : Bool
  pub turns : ℕ

-- a desk that began no turn
abbrev pub fresh : Sitting Tables TableCall TableReply → SoloDesk
fresh seat = record { seat = seat; held = false; turns = 0 }

-- a desk at one of many seats
pub record SharedDesk : Type 0 where
  pub history : Beginning Tables
  pub seat : Sitting Tables TableCall TableReply
  pub turns : ℕ

abbrev pub shared : Beginning Tables → Sitting Tables TableCall TableReply → SharedDesk
shared history seat = record { history = history; seat = seat; turns = 0 }

-- the turn that it has is the seat's
abbrev pub IsHeld : Sitting Tables TableCall TableReply → Option Whose → Type 0
IsHeld seat None = seat.held ≡ false
IsHeld seat (Some turn) = (seat.held ≡ true) × (turn ≡ turn_of seat)
