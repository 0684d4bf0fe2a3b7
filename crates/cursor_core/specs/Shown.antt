-- What the cursors in memory show.
use Rattle.std.specs.Prelude.{ℕ, ◌≡◌, ◌-◌, List, [], ◌∷◌, length, map, take, drop, slice_get, Option, None, Some}
use Rattle.lru.specs.LruCache.{LruCache}
use Rattle.cursor_core.specs.declared.state.Cursor.{Cursor}
use Rattle.cursor_core.specs.declared.asked.Held.{Held}
use Rattle.cursor_core.specs.Held.{of_id, without}

-- under its id
abbrev pub shown : ℕ → Held → Cursor
shown id h = record { id = id; space = h.space; rest = h.rest; last = h.last }

abbrev pub entry_shown : ℕ × Held → Cursor
entry_shown e = shown e.0 e.1

-- no memory is taken before the first start
abbrev pub all_shown : Option (LruCache ℕ Held) → List Cursor
all_shown None = []
all_shown (Some cache) = map entry_shown cache.entries

-- the last one of a list
abbrev pub last_of : List Cursor → Option Cursor
last_of cs = slice_get cs (length cs - 1)

-- the cursor of the id gave its first items and was asked at this moment
pub record Gives (id count latest : ℕ) (batch : List (List ℕ)) (old new : List Cursor) : Type 0 where
  pub cursor : Cursor
  pub found : of_id id old ≡ Some cursor
  pub are : batch ≡ take count cursor.rest
  pub left : new ≡ record cursor { rest = drop count cursor.rest; last = latest } ∷ without id old
