-- What every history of cursors keeps: the batches of a cursor are a prefix of what it was started with.
use Rattle.std.specs.Prelude.{ℕ, ◌≡◌, ◌==◌, Bool, true, false, ◌&&◌, ◌||◌, if◌then◌else◌, List, [], ◌∷◌, ◌++◌}
use Rattle.bson_values.specs.declared.space.Space.{Space}
use Rattle.history_lock.specs.declared.entry.Entry.{Entry}
use Rattle.history_lock.specs.Legal.{legal, replay}
use Rattle.cursor_core.specs.declared.call.CursorCall.{CursorCall}
use Rattle.cursor_core.specs.declared.call.CursorCall.TheVariants as call
use Rattle.cursor_core.specs.declared.call.CursorReply.{CursorReply}
use Rattle.cursor_core.specs.declared.call.CursorReply.TheVariants as reply
use Rattle.cursor_core.specs.Held.{Cursors}
use Rattle.cursor_core.specs.Step.{cstep, cursors_after}
use Rattle.cursor_core.specs.Sound.{Sound}

-- calls on cursors with their replies, in order
abbrev pub History : Type 0
History = List (Entry CursorCall CursorReply)

-- the cursors after them
abbrev pub after : Cursors → History → Cursors
after s h = replay cursors_after s h

-- from sound cursors a legal history leads to sound ones
abbrev pub SoundAfter : Type 0
SoundAfter = (s : Cursors) (faults : ℕ) (h : History) → Sound s → legal cstep cursors_after s faults h → Sound (after s h)

-- the items of a batch of that id
abbrev pub batch : ℕ → CursorCall → CursorReply → List (List ℕ)
batch id (call.More now of space most) (reply.Batch items left) = if id == of then items else []
batch id c r = []

-- the items of all batches of that id, in order, whoever asked for them
abbrev pub batches : ℕ → History → List (List ℕ)
batches id [] = []
batches id (e ∷ es) = batch id e.call e.reply ++ batches id es

-- it is a batch of that id, and the last one
abbrev pub is_last : ℕ → CursorCall → CursorReply → Bool
is_last id (call.More now of space most) (reply.Batch items left) = (id == of) && (left == 0)
is_last id c r = false

-- one of the batches of that id was the last
abbrev pub is_ended : ℕ → History → Bool
is_ended id [] = false
is_ended id (e ∷ es) = is_last id e.call e.reply || is_ended id es

-- the batches of that id are a prefix of these items, and all of them where one was the last
pub record Gave (id : ℕ) (items : List (List ℕ)) (h : History) : Type 0 where
  pub left : List (List ℕ)
  pub are : items ≡ batches id h ++ left
  pub all : is_ended id h ≡ true → batches id h ≡ items

-- the call started a cursor of these items, with that id
pub record Began (id : ℕ) (items : List (List ℕ)) (e : Entry CursorCall CursorReply) : Type 0 where
  pub now : ℕ
  pub space : Space
  pub asked : e.call ≡ call.Start now space items
  pub replied : e.reply ≡ reply.Started id

-- so it is with each cursor of a legal history
abbrev pub BatchesArePrefixes : Type 0
BatchesArePrefixes = (s : Cursors) (faults : ℕ) (h more : History) (e : Entry CursorCall CursorReply) (id : ℕ) (items : List (List ℕ))
    → Sound s → legal cstep cursors_after s faults (h ++ e ∷ more) → Began id items e → Gave id items (h ++ e ∷ more)
