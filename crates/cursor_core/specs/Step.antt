-- One call on cursors.
use Rattle.std.specs.Prelude.{ℕ, ◌≡◌, ◌+◌, Bool, true, false, ◌||◌, if◌then◌else◌, List, [], ◌∷◌, length, map, take, drop, max, Option, None, Some, is_some, nat_lt, nat_le}
use Rattle.bson_values.specs.declared.space.Space.{Space}
use Rattle.bson_values.specs.Names.{same_space}
use Rattle.bson_values.specs.Cut.{cut}
use Rattle.cursor_core.specs.declared.call.Mark.{Mark}
use Rattle.cursor_core.specs.declared.call.CursorCall.{CursorCall}
use Rattle.cursor_core.specs.declared.call.CursorCall.TheVariants as call
use Rattle.cursor_core.specs.declared.call.CursorReply.{CursorReply}
use Rattle.cursor_core.specs.declared.call.CursorReply.TheVariants as reply
use Rattle.cursor_core.specs.declared.state.Cursor.{Cursor}
use Rattle.cursor_core.specs.Held.{Cursors, MOST_CURSORS, LAST_ID, kept, of_id, without}
use Rattle.cursor_core.specs.Sound.{accepted}

abbrev pub moment : CursorCall → ℕ
moment (call.Start now space rest) = now
moment (call.More now id space most) = now
moment (call.Kill now marks) = now
moment (call.Count now) = now

-- the greatest moment is raised and the idle ones go, whatever is replied
abbrev pub awake : ℕ → Cursors → Cursors
awake now s = record { held = kept (max now s.latest) s.held; next = s.next; latest = max now s.latest }

-- a reply, and the cursors after it
pub record Meant : Type 0 where
  pub reply : CursorReply
  pub cursors : Cursors

-- a reply that changes nothing
abbrev pub same : CursorReply → Cursors → Meant
same r s = record { reply = r; cursors = s }

abbrev pub starts : Space → List (List ℕ) → Cursors → Meant
starts space rest s =
    if nat_le MOST_CURSORS (length s.held) || nat_le LAST_ID s.next then same reply.TooMany s
    else record {
      reply = reply.Started s.next;
      cursors = record {
        held = record { id = s.next; space = space; rest = rest; last = s.latest } ∷ s.held;
        next = s.next + 1;
        latest = s.latest;
      };
    }

-- the first n items: the cursor comes first, with what rests, or goes where nothing does
abbrev pub gives : ℕ → Cursors → Cursor → Meant
gives n s c =
    if nat_lt n (length c.rest) then record {
      reply = reply.Batch (take n c.rest) c.id;
      cursors = record s { held = record c { rest = drop n c.rest; last = s.latest } ∷ without c.id s.held };
    } else record { reply = reply.Batch c.rest 0; cursors = record s { held = without c.id s.held } }

abbrev pub fetches : Space → ℕ → Cursors → Option Cursor → Meant
fetches space most s None = same reply.NotFound s
fetches space most s (Some c) =
    if same_space space c.space then gives (cut (map length c.rest) most) s c else same reply.OtherSpace s

-- each mark says whether its cursor is held when its turn comes
abbrev pub marked : List Mark → List Cursor → List Mark
marked [] cs = []
marked (m ∷ ms) cs = record { id = m.id; was = is_some (of_id m.id cs) } ∷ marked ms (without m.id cs)

-- those of other ids than the marks'
abbrev pub outlive : List Mark → List Cursor → List Cursor
outlive [] cs = cs
outlive (m ∷ ms) cs = outlive ms (without m.id cs)

abbrev pub kills : List Mark → Cursors → Meant
kills marks s = record { reply = reply.Killed (marked marks s.held); cursors = record s { held = outlive marks s.held } }

abbrev pub counts : Cursors → Meant
counts s = same (reply.Counted (length s.held)) s

-- what a call is replied, and the cursors after it, where memory lasts
abbrev pub meant : Cursors → CursorCall → Meant
meant s (call.Start now space rest) = starts space rest s
meant s (call.More now id space most) = fetches space most s (of_id id s.held)
meant s (call.Kill now marks) = kills marks s
meant s (call.Count now) = counts s

-- what takes memory
abbrev pub needs_memory : CursorReply → Bool
needs_memory (reply.Started id) = true
needs_memory (reply.Batch items id) = true
needs_memory r = false

-- which reply may be given where this is meant
abbrev pub replies : Meant → CursorReply → Type 0
replies m reply.NoMemory = needs_memory m.reply ≡ true
replies m r = r ≡ m.reply

-- the cursors after a reply where this is meant
abbrev pub leaves : Cursors → Meant → CursorReply → Cursors
leaves s m reply.NoMemory = s
leaves s m r = m.cursors

-- the cursors after a call, which the call and its reply fix
abbrev pub cursors_after : Cursors → CursorCall → CursorReply → Cursors
cursors_after s c r = leaves (awake (moment c) s) (meant (awake (moment c) s) c) r

-- the call may be made, and this is its reply; nothing outside is called, so no fault is counted
pub record cstep (s : Cursors) (c : CursorCall) (r : CursorReply) (before after : ℕ) : Type 0 where
  pub may : accepted c
  pub replied : replies (meant (awake (moment c) s) c) r
  pub faults : after ≡ before
