-- The cursors that are held.
use Rattle.std.specs.Prelude.{ℕ, ◌-◌, ◌^◌, ◌==◌, Bool, not, if◌then◌else◌, List, [], ◌∷◌, Option, None, Some, nat_lt}
use Rattle.std.specs.List.{filter}
use Rattle.cursor_core.specs.declared.state.Cursor.{Cursor}
use Rattle.cursor_core.specs.declared.state.CursorsState.{CursorsState}

-- how many cursors may be held
abbrev pub MOST_CURSORS : ℕ
MOST_CURSORS = 65536

-- the id that is not given any more
abbrev pub LAST_ID : ℕ
LAST_ID = 2 ^ 63 - 1

-- a cursor that nobody asked for so many milliseconds goes
abbrev pub IDLE : ℕ
IDLE = 600000

-- the cursors, the one asked last first; the next id; and the greatest moment of all calls
abbrev pub Cursors : Type 0
Cursors = CursorsState

abbrev pub no_cursors : Cursors
no_cursors = record { held = []; next = 1; latest = 0 }

abbrev pub is_awake : ℕ → Cursor → Bool
is_awake latest c = nat_lt (latest - c.last) IDLE

-- those that are not idle
abbrev pub kept : ℕ → List Cursor → List Cursor
kept latest cs = filter (is_awake latest) cs

-- the cursor of that id
abbrev pub of_id : ℕ → List Cursor → Option Cursor
of_id id [] = None
of_id id (c ∷ cs) = if id == c.id then Some c else of_id id cs

abbrev pub is_other : ℕ → Cursor → Bool
is_other id c = not (id == c.id)

-- those of other ids
abbrev pub without : ℕ → List Cursor → List Cursor
without id cs = filter (is_other id) cs
