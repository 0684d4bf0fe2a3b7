-- Each step goes from sound cursors to sound cursors.
use Rattle.std.proofs.Common.{◌≡◌, ℕ, length, max, drop, map, ◌<◌, ◌≤◌, ◌+◌, ◌||◌, Bool, true, false, List, [], ◌∷◌, Option, None, Some, nat_lt, nat_le, refl, subst, arith}
use Rattle.std.specs.Prelude.{zero, suc}
use Rattle.std.proofs.Math.Nat.{le-max_right}
use Rattle.std.proofs.lemmas.Bool.Decides.{nat_tests}
use Rattle.std.specs.List.{filter}
use Rattle.std_words.proofs.Tests.{or-not-first, or-not-second}
use Rattle.bson_values.specs.declared.space.Space.{Space}
use Rattle.bson_values.specs.Names.{same_space}
use Rattle.bson_values.specs.Cut.{cut}
use Rattle.history_lock.specs.Places.{Each}
use Rattle.cursor_core.specs.declared.call.Mark.{Mark}
use Rattle.cursor_core.specs.declared.call.CursorCall.{CursorCall}
use Rattle.cursor_core.specs.declared.call.CursorCall.TheVariants as call
use Rattle.cursor_core.specs.declared.call.CursorReply.{CursorReply}
use Rattle.cursor_core.specs.declared.call.CursorReply.TheVariants as reply
use Rattle.cursor_core.specs.declared.state.Cursor.{Cursor}
use Rattle.cursor_core.specs.Held.{Cursors, MOST_CURSORS, LAST_ID, is_awake, is_other, of_id, without}
use Rattle.cursor_core.specs.Sound.{IsItem, accepted, SoundCursor, Sound}
use Rattle.cursor_core.specs.Step.{moment, awake, Meant, starts, gives, fetches, outlive, meant, leaves, cursors_after}
use Rattle.cursor_core.proofs.Finds.{has-id, each-found, none-above, each-fewer, length-fewer, falls-later, falls-fewer, apart-fewer, gone-without, length-without}

-- fewer of them
pub sound-fewer : (test : Cursor → Bool) (s : Cursors) → Sound s → Sound (record s { held = filter test s.held })
sound-fewer test s sound = record {
  each = each-fewer (SoundCursor s.next) test s.held sound.each;
  apart = apart-fewer test s.held sound.apart;
  falls = falls-fewer test s.latest s.held sound.falls;
  few = let le = length-fewer test s.held in let few = sound.few in omega (arith, le, few);
  next = sound.next;
}

-- a later moment
sound-later : (latest : ℕ) (s : Cursors) → Sound s → s.latest ≤ latest → Sound (record s { latest = latest })
sound-later latest s sound le = record {
  each = sound.each;
  apart = sound.apart;
  falls = falls-later s.latest latest s.held le sound.falls;
  few = sound.few;
  next = sound.next;
}

pub sound-awake : (now : ℕ) (s : Cursors) → Sound s → Sound (awake now s)
sound-awake now s sound =
    sound-fewer (is_awake (max now s.latest)) (record s { latest = max now s.latest })
    (sound-later (max now s.latest) s sound (le-max_right now s.latest))

each-next : (n m : ℕ) (cs : List Cursor) → n ≤ m → Each (SoundCursor n) cs → Each (SoundCursor m) cs
each-next n m [] le each = tt
each-next n m (c ∷ cs) le each =
    let is = each.0 in
    (record { id = ((is.id).0, let less = (is.id).1 in omega (arith, less, le)); items = is.items }, each-next n m cs le each.1)

sound-starts : (space : Space) (rest : List (List ℕ)) (s : Cursors) → Sound s → Each IsItem rest → Sound (starts space rest s).cursors
sound-starts space rest s sound are = cases (nat_le MOST_CURSORS (length s.held) || nat_le LAST_ID s.next) refl
  where
    cases : (b : Bool) → (nat_le MOST_CURSORS (length s.held) || nat_le LAST_ID s.next) ≡ b → Sound (starts space rest s).cursors
    cases true e = rw e sound
    cases false e =
        let room = or-not-first (nat_le MOST_CURSORS (length s.held)) (nat_le LAST_ID s.next) e in
        let left = or-not-second (nat_le MOST_CURSORS (length s.held)) (nat_le LAST_ID s.next) e in
        let few : length s.held < 65536 = grind (arith, nat_tests, room) in
        let less : s.next < LAST_ID = grind (arith, nat_tests, left) in
        rw e (record {
          each = (
            record { id = ((sound.next).0, omega arith); items = are },
            each-next s.next (s.next + 1) s.held (omega arith) sound.each,
          );
          apart = (none-above (SoundCursor s.next) s.next s.held (λ c is. (is.id).1) sound.each, sound.apart);
          falls = (omega arith, sound.falls);
          few = omega (arith, few);
          next = (omega arith, omega (arith, less));
        })

each-drop : (P : List ℕ → Type 0) (n : ℕ) (xs : List (List ℕ)) → Each P xs → Each P (drop n xs)
each-drop P zero xs each = each
each-drop P (suc n) [] each = tt
each-drop P (suc n) (x ∷ xs) each = each-drop P n xs each.1

sound-gives : (n id : ℕ) (s : Cursors) (c : Cursor) → Sound s → of_id id s.held ≡ Some c → Sound (gives n s c).cursors
sound-gives n id s c sound found = cases (nat_lt n (length c.rest)) refl
  where
    own : of_id c.id s.held ≡ Some c
    own = subst (λ k. of_id k s.held ≡ Some c) (has-id id c s.held found) found

    fewer : Sound (record s { held = without c.id s.held })
    fewer = sound-fewer (is_other c.id) s sound

    is : SoundCursor s.next c
    is = each-found (SoundCursor s.next) id c s.held sound.each found

    cases : (b : Bool) → nat_lt n (length c.rest) ≡ b → Sound (gives n s c).cursors
    cases true e = rw e (record {
      each = (record { id = is.id; items = each-drop IsItem n c.rest is.items }, fewer.each);
      apart = (gone-without c.id s.held, fewer.apart);
      falls = (omega arith, fewer.falls);
      few = let less = length-without c.id c s.held own in let few = sound.few in omega (arith, less, few);
      next = sound.next;
    })
    cases false e = rw e fewer

sound-fetches : (id : ℕ) (space : Space) (most : ℕ) (s : Cursors) (o : Option Cursor) → Sound s → of_id id s.held ≡ o
    → Sound (fetches space most s o).cursors
sound-fetches id space most s None sound found = sound
sound-fetches id space most s (Some c) sound found = cases (same_space space c.space) refl
  where
    cases : (b : Bool) → same_space space c.space ≡ b → Sound (fetches space most s (Some c)).cursors
    cases true e = rw e (sound-gives (cut (map length c.rest) most) id s c sound found)
    cases false e = rw e sound

sound-outlive : (ms : List Mark) (s : Cursors) → Sound s → Sound (record s { held = outlive ms s.held })
sound-outlive [] s sound = sound
sound-outlive (m ∷ ms) s sound = sound-outlive ms (record s { held = without m.id s.held }) (sound-fewer (is_other m.id) s sound)

sound-meant : (s : Cursors) (c : CursorCall) → Sound s → accepted c → Sound (meant s c).cursors
sound-meant s (call.Start now space rest) sound may = sound-starts space rest s sound may
sound-meant s (call.More now id space most) sound may = sound-fetches id space most s (of_id id s.held) sound refl
sound-meant s (call.Kill now marks) sound may = sound-outlive marks s sound
sound-meant s (call.Count now) sound may = sound

sound-leaves : (s : Cursors) (m : Meant) (r : CursorReply) → Sound s → Sound m.cursors → Sound (leaves s m r)
sound-leaves s m reply.NoMemory sound then = sound
sound-leaves s m r sound then = then

pub sound-after : (s : Cursors) (c : CursorCall) (r : CursorReply) → Sound s → accepted c → Sound (cursors_after s c r)
sound-after s c r sound may = let up = sound-awake (moment c) s sound in
    sound-leaves (awake (moment c) s) (meant (awake (moment c) s) c) r up (sound-meant (awake (moment c) s) c up may)
