-- The batches of a cursor are a prefix of what it was started with.
use Rattle.std.proofs.Common.{◌≡◌, ℕ, length, map, ◌<◌, ◌≤◌, inl, inr, ◌||◌, Bool, true, false, List, [], ◌∷◌, ◌++◌, Option, None, Some, nat_lt, nat_le, refl, ap, sym, ◌∙◌, subst, arith, append_assoc, append-nil}
use Rattle.bson_values.specs.declared.space.Space.{Space}
use Rattle.bson_values.specs.Names.{same_space}
use Rattle.bson_values.specs.Cut.{cut}
use Rattle.history_lock.specs.declared.entry.Entry.{Entry}
use Rattle.history_lock.specs.Legal.{legal, count_after}
use Rattle.history_lock.proofs.Histories.{legal-front, legal-back}
use Rattle.cursor_core.specs.declared.call.CursorCall.{CursorCall}
use Rattle.cursor_core.specs.declared.call.CursorCall.TheVariants as call
use Rattle.cursor_core.specs.declared.call.CursorReply.{CursorReply}
use Rattle.cursor_core.specs.declared.call.CursorReply.TheVariants as reply
use Rattle.cursor_core.specs.declared.state.Cursor.{Cursor}
use Rattle.cursor_core.specs.Held.{Cursors, MOST_CURSORS, LAST_ID, of_id}
use Rattle.cursor_core.specs.Sound.{SoundCursor, Sound}
use Rattle.cursor_core.specs.Step.{moment, awake, Meant, starts, gives, fetches, meant, leaves, replies, cursors_after, cstep}
use Rattle.cursor_core.specs.Batches.{History, after, batch, batches, is_last, is_ended, Gave, Began, BatchesArePrefixes}
use Rattle.cursor_core.proofs.Finds.{id-same, none-above}
use Rattle.cursor_core.proofs.Goes.{sound-after}
use Rattle.cursor_core.proofs.Histories.{sound_after}
use Rattle.cursor_core.proofs.Gives.{NoBatch, nothing-after, missed-after, turns-after, was-given}

-- ---- ids are never taken back

next-fetches : (space : Space) (most : ℕ) (s : Cursors) (o : Option Cursor) → ((fetches space most s o).cursors).next ≡ s.next
next-fetches space most s None = refl
next-fetches space most s (Some c) = cases (same_space space c.space) refl
  where
    by : (n : ℕ) (b : Bool) → nat_lt n (length c.rest) ≡ b → ((gives n s c).cursors).next ≡ s.next
    by n true e = rw e refl
    by n false e = rw e refl

    cases : (b : Bool) → same_space space c.space ≡ b → ((fetches space most s (Some c)).cursors).next ≡ s.next
    cases true e = rw e (by (cut (map length c.rest) most) (nat_lt (cut (map length c.rest) most) (length c.rest)) refl)
    cases false e = rw e refl

next-starts : (space : Space) (rest : List (List ℕ)) (s : Cursors) → s.next ≤ ((starts space rest s).cursors).next
next-starts space rest s = cases (nat_le MOST_CURSORS (length s.held) || nat_le LAST_ID s.next) refl
  where
    cases : (b : Bool) → (nat_le MOST_CURSORS (length s.held) || nat_le LAST_ID s.next) ≡ b → s.next ≤ ((starts space rest s).cursors).next
    cases true e = rw e (omega arith)
    cases false e = rw e (omega arith)

next-meant : (s : Cursors) (asked : CursorCall) → s.next ≤ ((meant s asked).cursors).next
next-meant s (call.Start now space rest) = next-starts space rest s
next-meant s (call.More now of space most) = let same = next-fetches space most s (of_id of s.held) in omega (arith, same)
next-meant s (call.Kill now marks) = omega arith
next-meant s (call.Count now) = omega arith

next-leaves : (s : Cursors) (m : Meant) (r : CursorReply) → s.next ≤ (m.cursors).next → s.next ≤ (leaves s m r).next
next-leaves s m reply.NoMemory le = omega arith
next-leaves s m r le = le

next-after : (s : Cursors) (asked : CursorCall) (r : CursorReply) → s.next ≤ (cursors_after s asked r).next
next-after s asked r =
    next-leaves (awake (moment asked) s) (meant (awake (moment asked) s) asked) r (next-meant (awake (moment asked) s) asked)

next-on : (s : Cursors) (h : History) → s.next ≤ (after s h).next
next-on s [] = omega arith
next-on s (e ∷ es) =
    let one = next-after s e.call e.reply in let more = next-on (cursors_after s e.call e.reply) es in omega (arith, one, more)

-- ---- before a cursor is started

-- nothing of the id is in h, whatever comes behind it
abbrev Skips : ℕ → History → History → Type 0
Skips id h more = (batches id (h ++ more) ≡ batches id more) × (is_ended id (h ++ more) ≡ is_ended id more)

skip-one : (id : ℕ) (e : Entry CursorCall CursorReply) (es more : History) → NoBatch id e.call e.reply → Skips id es more
    → Skips id (e ∷ es) more
skip-one id e es more first rest = (rw first.0 rest.0, rw first.1 rest.1)

not-yet : (id faults : ℕ) (s : Cursors) (h more : History) → Sound s → legal cstep cursors_after s faults h → (after s h).next ≤ id
    → Skips id h more
not-yet id faults s [] more sound lawful above = (refl, refl)
not-yet id faults s (e ∷ es) more sound lawful above =
    let below : s.next ≤ id = let le = next-on s (e ∷ es) in omega (arith, le, above) in
    let none = none-above (SoundCursor s.next) id s.held (λ c is. let less = (is.id).1 in omega (arith, less, below)) sound.each in
    skip-one id e es more (nothing-after id s e.call e.reply faults e.after none lawful.1)
    (not-yet id e.after (cursors_after s e.call e.reply) es more (sound-after s e.call e.reply sound (lawful.1).may) lawful.2 above)

-- ---- behind the start

-- no batch of the id is there
abbrev NoBatches : ℕ → History → Type 0
NoBatches id h = (batches id h ≡ []) × (is_ended id h ≡ false)

no-more : (id : ℕ) (e : Entry CursorCall CursorReply) (es : History) → NoBatch id e.call e.reply → NoBatches id es → NoBatches id (e ∷ es)
no-more id e es first rest = (rw (first.0, rest.0) refl, rw (first.1, rest.1) refl)

gone-on : (id faults : ℕ) (s : Cursors) (h : History) → id < s.next → of_id id s.held ≡ None → legal cstep cursors_after s faults h
    → NoBatches id h
gone-on id faults s [] less missed lawful = (refl, refl)
gone-on id faults s (e ∷ es) less missed lawful =
    no-more id e es (nothing-after id s e.call e.reply faults e.after missed lawful.1)
    (gone-on id e.after (cursors_after s e.call e.reply) es (let le = next-after s e.call e.reply in omega (arith, less, le))
    (missed-after id s e.call e.reply less missed) lawful.2)

gives-more : (id : ℕ) (items rest : List (List ℕ)) (e : Entry CursorCall CursorReply) (es : History)
    → items ≡ batch id e.call e.reply ++ rest → is_last id e.call e.reply ≡ false → Gave id rest es → Gave id items (e ∷ es)
gives-more id items rest e es is not gave = record {
  left = gave.left;
  are = is ∙ ap (λ x. batch id e.call e.reply ++ x) gave.are ∙ sym (append_assoc (batch id e.call e.reply) (batches id es) gave.left);
  all = λ ended. ap (λ x. batch id e.call e.reply ++ x) (gave.all (rw not at ended)) ∙ sym is;
}

gives-no-more : (id : ℕ) (items left : List (List ℕ)) (e : Entry CursorCall CursorReply) (es : History)
    → items ≡ batch id e.call e.reply ++ left → (is_last id e.call e.reply ≡ true → left ≡ []) → NoBatches id es → Gave id items (e ∷ es)
gives-no-more id items left e es is whole none =
    let only : batches id (e ∷ es) ≡ batch id e.call e.reply =
    ap (λ x. batch id e.call e.reply ++ x) none.0 ∙ append-nil (batch id e.call e.reply) in
    record {
      left = left;
      are = is ∙ ap (λ x. x ++ left) (sym only);
      all = λ ended. let last : is_last id e.call e.reply ≡ true = or-true _ _ none.1 ended in
          only ∙ sym (append-nil (batch id e.call e.reply)) ∙ ap (λ x. batch id e.call e.reply ++ x) (sym (whole last)) ∙ sym is;
    }
  where
    or-true : (a b : Bool) → b ≡ false → (a || b) ≡ true → a ≡ true
    or-true true b lacks both = refl
    or-true false b lacks both = absurd (cc (lacks, both))

held-on : (id faults : ℕ) (s : Cursors) (c : Cursor) (h : History) → Sound s → of_id id s.held ≡ Some c
    → legal cstep cursors_after s faults h → Gave id c.rest h
held-on id faults s c [] sound found lawful = record { left = c.rest; are = refl; all = λ never. absurd cc }
held-on id faults s c (e ∷ es) sound found lawful =
    let then = sound-after s e.call e.reply sound (lawful.1).may in
    elim (turns-after id s c e.call e.reply faults e.after sound found lawful.1) [
      | inl p ↦ gives-more id c.rest (p.0).rest e es p.2 p.3
          (held-on id e.after (cursors_after s e.call e.reply) p.0 es then p.1 lawful.2)
      | inr q ↦ gives-no-more id c.rest q.1 e es q.2 q.3
          (gone-on id e.after (cursors_after s e.call e.reply) es
          (let le = next-after s e.call e.reply in let less = was-given id c s sound found in omega (arith, less, le)) q.0 lawful.2)
    ]

-- ---- the start

record Starts (id : ℕ) (items : List (List ℕ)) (s t : Cursors) : Type 0 where
  given : id ≡ s.next
  cursor : Cursor
  found : of_id id t.held ≡ Some cursor
  are : cursor.rest ≡ items

starts-so : (id : ℕ) (space : Space) (items : List (List ℕ)) (s : Cursors) → reply.Started id ≡ (starts space items s).reply
    → Starts id items s (starts space items s).cursors
starts-so id space items s is = cases (nat_le MOST_CURSORS (length s.held) || nat_le LAST_ID s.next) refl
  where
    cases : (b : Bool) → (nat_le MOST_CURSORS (length s.held) || nat_le LAST_ID s.next) ≡ b
        → Starts id items s (starts space items s).cursors
    cases true e = let never : reply.Started id ≡ reply.TooMany = rw e at is in absurd cc
    cases false e =
        let started : reply.Started id ≡ reply.Started s.next = rw e at is in
        let given : id ≡ s.next = cc in
        rw e (record {
          given = given;
          cursor = record { id = s.next; space = space; rest = items; last = s.latest };
          found = rw (given, id-same s.next) refl;
          are = refl;
        })

-- a call that started a cursor
begins : (id : ℕ) (items : List (List ℕ)) (s : Cursors) (asked : CursorCall) (r : CursorReply) (now : ℕ) (space : Space)
    → asked ≡ call.Start now space items → r ≡ reply.Started id → replies (meant (awake (moment asked) s) asked) r
    → NoBatch id asked r × Starts id items s (cursors_after s asked r)
begins id items s asked r now space is started replied =
    subst (λ (c : CursorCall). replies (meant (awake (moment c) s) c) r → NoBatch id c r × Starts id items s (cursors_after s c r)) (sym is)
    (subst (λ (x : CursorReply). replies (starts space items (awake now s)) x
    → NoBatch id (call.Start now space items) x × Starts id items s (cursors_after s (call.Start now space items) x)) (sym started)
    (λ so. ((refl, refl), again (starts-so id space items (awake now s) so))))
    replied
  where
    again : {t : Cursors} → Starts id items (awake now s) t → Starts id items s t
    again p = record { given = p.given; cursor = p.cursor; found = p.found; are = p.are }

behind : (id faults : ℕ) (items : List (List ℕ)) (s : Cursors) (e : Entry CursorCall CursorReply) (more : History) → Sound s
    → Began id items e → legal cstep cursors_after s faults (e ∷ more) → (id ≡ s.next) × Gave id items (e ∷ more)
behind id faults items s e more sound began lawful =
    let b = begins id items s e.call e.reply began.now began.space began.asked began.replied (lawful.1).replied in
    let start = b.1 in
    let gave = held-on id e.after (cursors_after s e.call e.reply) start.cursor more
    (sound-after s e.call e.reply sound (lawful.1).may) start.found lawful.2 in (
      start.given,
      gives-more id items items e more (rw (b.0.0) refl) b.0.1
          (subst (λ x. Gave id x more) start.are gave),
    )

-- what is skipped changes nothing
skipped : (id : ℕ) (items : List (List ℕ)) (h more : History) → Skips id h more → Gave id items more → Gave id items (h ++ more)
skipped id items h more skips gave = record {
  left = gave.left;
  are = gave.are ∙ ap (λ x. x ++ gave.left) (sym skips.0);
  all = λ ended. skips.0 ∙ gave.all (sym skips.1 ∙ ended);
}

pub batches_are_prefixes : BatchesArePrefixes
batches_are_prefixes s faults h more e id items sound lawful began =
    let front = legal-front cstep cursors_after s faults h (e ∷ more) lawful in
    let there = sound_after s faults h sound front in
    let b = behind id (count_after faults h) items (after s h) e more there began
    (legal-back cstep cursors_after s faults h (e ∷ more) lawful) in
    skipped id items h (e ∷ more)
    (not-yet id faults s h (e ∷ more) sound front (let same = b.0 in omega (arith, same))) b.1
