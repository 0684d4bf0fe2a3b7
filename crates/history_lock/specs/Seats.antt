-- Histories, seats and turns, as clauses see them.
use Rattle.std.specs.Prelude.{ℕ, ◌≡◌, Bool, false}
use Rattle.atomic_table.specs.Seated.{TableId}
use Rattle.history_lock.specs.declared.view.View.{View}

-- a history: its name, which no other has, the state and the count of faults of the object that it was made with, and the
-- parts of all its seats
pub record Beginning (S : Type 0) : Type 0 where
  pub name : TableId
  pub opening : S
  pub first : ℕ
  pub parts : ℕ

-- a seat: its history and its number there, its parts, whether it is in a turn, and what it has seen and made
pub record Sitting (S C R : Type 0) : Type 0 where
  pub history : Beginning S
  pub number : ℕ
  pub parts : ℕ
  pub held : Bool
  pub at : View C R

-- a turn: whose it is
pub record Whose : Type 0 where
  pub name : TableId
  pub number : ℕ

module _ {S C R : Type 0} where
  -- the turn that a seat has
  abbrev pub turn_of : Sitting S C R → Whose
  turn_of seat = record { name = seat.history.name; number = seat.number }

  -- the seat after a call: another view, and perhaps a turn
  abbrev pub moved : Sitting S C R → Bool → View C R → Sitting S C R
  moved seat held at = record seat { held = held; at = at }

  -- the seat is of this history and in no turn, and has these parts and this view
  pub record Seated (history : Beginning S) (parts : ℕ) (at : View C R) (seat : Sitting S C R) : Type 0 where
    pub history_is : seat.history ≡ history
    pub parts_is : seat.parts ≡ parts
    pub free : seat.held ≡ false
    pub at_is : seat.at ≡ at
