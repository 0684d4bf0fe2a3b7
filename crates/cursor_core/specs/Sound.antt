-- Which calls and cursors are sound.
use Rattle.std.specs.Prelude.{ℕ, ◌≡◌, ◌<◌, ◌≤◌, List, [], ◌∷◌, length, None}
use Rattle.history_lock.specs.Places.{Each}
use Rattle.cursor_core.specs.declared.call.CursorCall.{CursorCall}
use Rattle.cursor_core.specs.declared.call.CursorCall.TheVariants as call
use Rattle.cursor_core.specs.declared.state.Cursor.{Cursor}
use Rattle.cursor_core.specs.Held.{Cursors, MOST_CURSORS, LAST_ID, of_id}

-- the bytes of a document that may be stored are so many
pub record IsItem (bytes : List ℕ) : Type 0 where
  pub least : 5 ≤ length bytes
  pub most : length bytes ≤ 16777216

-- which calls may be made
abbrev pub accepted : CursorCall → Type 0
accepted (call.Start now space rest) = Each IsItem rest
accepted c = Unit {0}

-- its id was given, and its items are such
pub record SoundCursor (next : ℕ) (c : Cursor) : Type 0 where
  pub id : (0 < c.id) × (c.id < next)
  pub items : Each IsItem c.rest

-- none was asked later than the one before it
abbrev pub Falls : ℕ → List Cursor → Type 0
Falls most [] = Unit {0}
Falls most (c ∷ cs) = (c.last ≤ most) × Falls c.last cs

-- no id is there twice
abbrev pub Apart : List Cursor → Type 0
Apart [] = Unit {0}
Apart (c ∷ cs) = (of_id c.id cs ≡ None) × Apart cs

-- each is sound, ids are distinct, they stand in the order of their last moments, and there are not too many
pub record Sound (s : Cursors) : Type 0 where
  pub each : Each (SoundCursor s.next) s.held
  pub apart : Apart s.held
  pub falls : Falls s.latest s.held
  pub few : length s.held ≤ MOST_CURSORS
  pub next : (0 < s.next) × (s.next ≤ LAST_ID)
