-- What a call did.
use Rattle.std.specs.Prelude.{◌≡◌}
use Rattle.cursor_core.specs.declared.call.CursorCall.{CursorCall}
use Rattle.cursor_core.specs.declared.call.CursorReply.{CursorReply}
use Rattle.cursor_core.specs.declared.live.LiveCursors.{LiveCursors}
use Rattle.cursor_core.specs.Held.{Cursors}
use Rattle.cursor_core.specs.Step.{Meant, moment, awake, meant, replies, leaves}

abbrev pub state_of : LiveCursors → Cursors
state_of live = record { held = live.held; next = live.next; latest = live.latest }

-- a call that means this gave this reply and left these cursors
pub record Ran (m : Meant) (s t : Cursors) (r : CursorReply) : Type 0 where
  pub replied : replies m r
  pub after : t ≡ leaves s m r

-- a call on cursors from which the idle ones were not dropped yet
abbrev pub Called : Cursors → Cursors → CursorCall → CursorReply → Type 0
Called s t c r = Ran (meant (awake (moment c) s) c) (awake (moment c) s) t r
