-- What one step does to a cursor: it gives a batch and stays, or it goes.
use Rattle.std.proofs.Common.{◌≡◌, ℕ, length, max, drop, map, ◌<◌, ◌==◌, ◌⊎◌, inl, inr, ◌||◌, Bool, true, false, List, [], ◌∷◌, ◌++◌, Option, None, Some, nat_lt, nat_le, refl, sym, ◌∙◌, subst, arith, append-nil, if◌then◌else◌}
use Rattle.std.proofs.lemmas.Bool.{eqb-true}
use Rattle.std.proofs.lemmas.Bool.Decides.{nat_tests}
use Rattle.std.proofs.lemmas.List.{take-append-drop}
use Rattle.bson_values.specs.declared.space.Space.{Space}
use Rattle.bson_values.specs.Names.{same_space}
use Rattle.bson_values.specs.Cut.{cut}
use Rattle.cursor_core.specs.declared.call.Mark.{Mark}
use Rattle.cursor_core.specs.declared.call.CursorCall.{CursorCall}
use Rattle.cursor_core.specs.declared.call.CursorCall.TheVariants as call
use Rattle.cursor_core.specs.declared.call.CursorReply.{CursorReply}
use Rattle.cursor_core.specs.declared.call.CursorReply.TheVariants as reply
use Rattle.cursor_core.specs.declared.state.Cursor.{Cursor}
use Rattle.cursor_core.specs.Held.{Cursors, MOST_CURSORS, LAST_ID, is_awake, is_other, of_id, without}
use Rattle.cursor_core.specs.Sound.{SoundCursor, Sound}
use Rattle.cursor_core.specs.Step.{moment, awake, Meant, starts, gives, fetches, outlive, meant, replies, leaves, cursors_after, cstep}
use Rattle.cursor_core.specs.Batches.{batch, is_last}
use Rattle.cursor_core.proofs.Finds.{id-same, has-id, each-found, none-fewer, found-fewer, gone-without}
use Rattle.cursor_core.proofs.Goes.{sound-fewer, sound-awake}

-- of a cursor that had these items, the batch was given, and the rest is held; or it goes, and then all was given if it was the last batch
abbrev pub Stays : ℕ → List (List ℕ) → List (List ℕ) → Bool → Cursors → Type 0
Stays id items given last t = (c : Cursor) × (of_id id t.held ≡ Some c) × (items ≡ given ++ c.rest) × (last ≡ false)

abbrev pub Goes : ℕ → List (List ℕ) → List (List ℕ) → Bool → Cursors → Type 0
Goes id items given last t = (of_id id t.held ≡ None) × (left : List (List ℕ)) × (items ≡ given ++ left) × (last ≡ true → left ≡ [])

abbrev pub Turns : ℕ → List (List ℕ) → List (List ℕ) → Bool → Cursors → Type 0
Turns id items given last t = Stays id items given last t ⊎ Goes id items given last t

-- nothing was given
idle : (id : ℕ) (c : Cursor) (t : Cursors) (o : Option Cursor) → of_id id t.held ≡ o → (o ≡ Some c) ⊎ (o ≡ None)
    → Turns id c.rest [] false t
idle id c t o found (inl is) = inl (c, found ∙ is, refl, refl)
idle id c t o found (inr is) = inr (found ∙ is, c.rest, refl, λ never. absurd cc)

-- found, or not
either : (b : Bool) (c : Cursor) → ((if b then Some c else None) ≡ Some c) ⊎ ((if b then Some c else None) ≡ None)
either true c = inl refl
either false c = inr refl

-- ---- More

turns-gives : (id n : ℕ) (s : Cursors) (c : Cursor) (now of most : ℕ) (space : Space) → (id == of) ≡ true
    → of_id id s.held ≡ Some c → 0 < c.id
    → Turns id c.rest (batch id (call.More now of space most) (gives n s c).reply)
    (is_last id (call.More now of space most) (gives n s c).reply) (gives n s c).cursors
turns-gives id n s c now of most space own found above = cases (nat_lt n (length c.rest)) refl
  where
    same : id ≡ c.id
    same = has-id id c s.held found

    one : (id == c.id) ≡ true
    one = subst (λ k. (id == k) ≡ true) same (id-same id)

    apart : (c.id == 0) ≡ false
    apart = grind (arith, nat_tests, above)

    cases : (b : Bool) → nat_lt n (length c.rest) ≡ b
        → Turns id c.rest (batch id (call.More now of space most) (gives n s c).reply)
        (is_last id (call.More now of space most) (gives n s c).reply) (gives n s c).cursors
    cases true e = rw e (inl (
      record c { rest = drop n c.rest; last = s.latest },
      rw one refl,
      rw own (sym (take-append-drop n c.rest)),
      rw (own, apart) refl,
    ))
    cases false e = rw e (inr (
      subst (λ k. of_id id (without k s.held) ≡ None) same (gone-without id s.held),
      [],
      rw own (sym (append-nil c.rest)),
      λ _. refl,
    ))

-- a batch of another cursor
spared-gives : (id n : ℕ) (s : Cursors) (c d : Cursor) (now of most : ℕ) (space : Space) → Sound s → (id == of) ≡ false
    → of_id id s.held ≡ Some c
    → of_id of s.held ≡ Some d
    → Turns id c.rest (batch id (call.More now of space most) (gives n s d).reply)
    (is_last id (call.More now of space most) (gives n s d).reply) (gives n s d).cursors
spared-gives id n s c d now of most space sound other found theirs = cases (nat_lt n (length d.rest)) refl
  where
    apart : (id == d.id) ≡ false
    apart = subst (λ k. (id == k) ≡ false) (has-id of d s.held theirs) other

    back : (d.id == c.id) ≡ false
    back = let same = has-id id c s.held found in let a : (id == d.id) ≡ false = apart in
        subst (λ k. (d.id == k) ≡ false) same (grind (arith, nat_tests, a))

    stays : of_id id (without d.id s.held) ≡ Some c
    stays = found-fewer (is_other d.id) id c s.held sound.apart found ∙ rw back refl

    cases : (b : Bool) → nat_lt n (length d.rest) ≡ b
        → Turns id c.rest (batch id (call.More now of space most) (gives n s d).reply)
        (is_last id (call.More now of space most) (gives n s d).reply) (gives n s d).cursors
    cases true e = rw e (inl (c, rw apart stays, rw other refl, rw other refl))
    cases false e = rw e (inl (c, stays, rw other refl, rw other refl))

turns-fetches : (id : ℕ) (s : Cursors) (c : Cursor) (now of most : ℕ) (space : Space) (o : Option Cursor) → Sound s
    → of_id id s.held ≡ Some c
    → of_id of s.held ≡ o
    → Turns id c.rest (batch id (call.More now of space most) (fetches space most s o).reply)
    (is_last id (call.More now of space most) (fetches space most s o).reply) (fetches space most s o).cursors
turns-fetches id s c now of most space None sound found theirs = inl (c, found, refl, refl)
turns-fetches id s c now of most space (Some d) sound found theirs = cases (same_space space d.space) refl
  where
    is : SoundCursor s.next c
    is = each-found (SoundCursor s.next) id c s.held sound.each found

    by : (b : Bool) → (id == of) ≡ b → (n : ℕ)
        → Turns id c.rest (batch id (call.More now of space most) (gives n s d).reply)
        (is_last id (call.More now of space most) (gives n s d).reply) (gives n s d).cursors
    by true e n =
        let ours : of_id id s.held ≡ Some d = subst (λ k. of_id k s.held ≡ Some d) (sym (eqb-true id of e)) theirs in
        let both : Some d ≡ Some c = sym ours ∙ found in
        let same : d ≡ c = cc in
        subst (λ (x : Cursor). Turns id c.rest (batch id (call.More now of space most) (gives n s x).reply)
        (is_last id (call.More now of space most) (gives n s x).reply) (gives n s x).cursors) (sym same)
        (turns-gives id n s c now of most space e found (is.id).0)
    by false e n = spared-gives id n s c d now of most space sound e found theirs

    cases : (b : Bool) → same_space space d.space ≡ b
        → Turns id c.rest (batch id (call.More now of space most) (fetches space most s (Some d)).reply)
        (is_last id (call.More now of space most) (fetches space most s (Some d)).reply) (fetches space most s (Some d)).cursors
    cases true e = rw e (by (id == of) refl (cut (map length d.rest) most))
    cases false e = rw e (inl (c, found, refl, refl))

-- ---- Kill

none-outlives : (ms : List Mark) (id : ℕ) (cs : List Cursor) → of_id id cs ≡ None → of_id id (outlive ms cs) ≡ None
none-outlives [] id cs missed = missed
none-outlives (m ∷ ms) id cs missed = none-outlives ms id (without m.id cs) (none-fewer (is_other m.id) id cs missed)

outlives : (ms : List Mark) (id : ℕ) (c : Cursor) (s : Cursors) → Sound s → of_id id s.held ≡ Some c
    → (of_id id (outlive ms s.held) ≡ Some c) ⊎ (of_id id (outlive ms s.held) ≡ None)
outlives [] id c s sound found = inl found
outlives (m ∷ ms) id c s sound found =
    cases (is_other m.id c) (found-fewer (is_other m.id) id c s.held sound.apart found)
    (λ on. outlives ms id c (record s { held = without m.id s.held }) (sound-fewer (is_other m.id) s sound) on)
  where
    cases : (b : Bool) → of_id id (without m.id s.held) ≡ (if b then Some c else None)
        → (of_id id (without m.id s.held) ≡ Some c
        → (of_id id (outlive (m ∷ ms) s.held) ≡ Some c) ⊎ (of_id id (outlive (m ∷ ms) s.held) ≡ None))
        → (of_id id (outlive (m ∷ ms) s.held) ≡ Some c) ⊎ (of_id id (outlive (m ∷ ms) s.held) ≡ None)
    cases true on rest = rest on
    cases false on rest = inr (none-outlives ms id (without m.id s.held) on)

-- ---- Start

pub was-given : (id : ℕ) (c : Cursor) (s : Cursors) → Sound s → of_id id s.held ≡ Some c → id < s.next
was-given id c s sound found = let is = each-found (SoundCursor s.next) id c s.held sound.each found in
    subst (λ k. k < s.next) (sym (has-id id c s.held found)) (is.id).1

turns-starts : (id : ℕ) (s : Cursors) (o : Option Cursor) (space : Space) (rest : List (List ℕ)) → id < s.next → of_id id s.held ≡ o
    → of_id id ((starts space rest s).cursors).held ≡ o
turns-starts id s o space rest less found = cases (nat_le MOST_CURSORS (length s.held) || nat_le LAST_ID s.next) refl
  where
    apart : (id == s.next) ≡ false
    apart = grind (arith, nat_tests, less)

    cases : (b : Bool) → (nat_le MOST_CURSORS (length s.held) || nat_le LAST_ID s.next) ≡ b
        → of_id id ((starts space rest s).cursors).held ≡ o
    cases true e = rw e found
    cases false e = rw (e, apart) found

-- ---- a call on a cursor that is held

turns-meant : (id : ℕ) (s : Cursors) (c : Cursor) (asked : CursorCall) → Sound s → of_id id s.held ≡ Some c
    → Turns id c.rest (batch id asked (meant s asked).reply) (is_last id asked (meant s asked).reply) (meant s asked).cursors
turns-meant id s c (call.Start now space rest) sound found =
    inl (c, turns-starts id s (Some c) space rest (was-given id c s sound found) found, refl, refl)
turns-meant id s c (call.More now of space most) sound found = turns-fetches id s c now of most space (of_id of s.held) sound found refl
turns-meant id s c (call.Kill now marks) sound found =
    idle id c (record s { held = outlive marks s.held }) (of_id id (outlive marks s.held)) refl (outlives marks id c s sound found)
turns-meant id s c (call.Count now) sound found = inl (c, found, refl, refl)

batch-none : (id : ℕ) (asked : CursorCall) → batch id asked reply.NoMemory ≡ []
batch-none id (call.Start now space rest) = refl
batch-none id (call.More now of space most) = refl
batch-none id (call.Kill now marks) = refl
batch-none id (call.Count now) = refl

last-none : (id : ℕ) (asked : CursorCall) → is_last id asked reply.NoMemory ≡ false
last-none id (call.Start now space rest) = refl
last-none id (call.More now of space most) = refl
last-none id (call.Kill now marks) = refl
last-none id (call.Count now) = refl

by-reply : (id : ℕ) (items : List (List ℕ)) (s : Cursors) (asked : CursorCall) (m : Meant) (r : CursorReply)
    → Turns id items [] false s → Turns id items (batch id asked m.reply) (is_last id asked m.reply) m.cursors → replies m r
    → Turns id items (batch id asked r) (is_last id asked r) (leaves s m r)
by-reply id items s asked m reply.NoMemory stays goes replied = rw (batch-none id asked, last-none id asked) stays
by-reply id items s asked m r stays goes replied =
    subst (λ x. Turns id items (batch id asked x) (is_last id asked x) m.cursors) (sym replied) goes

-- ---- an id that is not held

-- a cursor of another id gives
missed-gives : (id n : ℕ) (s : Cursors) (d : Cursor) → of_id id s.held ≡ None → (id == d.id) ≡ false
    → of_id id ((gives n s d).cursors).held ≡ None
missed-gives id n s d missed apart = cases (nat_lt n (length d.rest)) refl
  where
    cases : (b : Bool) → nat_lt n (length d.rest) ≡ b → of_id id ((gives n s d).cursors).held ≡ None
    cases true e = rw (e, apart) (none-fewer (is_other d.id) id s.held missed)
    cases false e = rw e (none-fewer (is_other d.id) id s.held missed)

-- it has another id
apart-from : (id of : ℕ) (s : Cursors) (d : Cursor) → of_id id s.held ≡ None → of_id of s.held ≡ Some d → (id == of) ≡ false
apart-from id of s d missed theirs = cases (id == of) refl
  where
    cases : (b : Bool) → (id == of) ≡ b → (id == of) ≡ false
    cases true e = let both : of_id id s.held ≡ Some d = subst (λ k. of_id k s.held ≡ Some d) (sym (eqb-true id of e)) theirs in
        let never : None ≡ Some d = sym missed ∙ both in absurd cc
    cases false e = e

missed-fetches : (id of most : ℕ) (space : Space) (s : Cursors) (o : Option Cursor) → of_id id s.held ≡ None → of_id of s.held ≡ o
    → of_id id ((fetches space most s o).cursors).held ≡ None
missed-fetches id of most space s None missed theirs = missed
missed-fetches id of most space s (Some d) missed theirs = cases (same_space space d.space) refl
  where
    cases : (b : Bool) → same_space space d.space ≡ b → of_id id ((fetches space most s (Some d)).cursors).held ≡ None
    cases true e = rw e (missed-gives id (cut (map length d.rest) most) s d missed
        (subst (λ k. (id == k) ≡ false) (has-id of d s.held theirs) (apart-from id of s d missed theirs)))
    cases false e = rw e missed

-- it stays so, once it was given
missed-meant : (id : ℕ) (s : Cursors) (asked : CursorCall) → id < s.next → of_id id s.held ≡ None
    → of_id id ((meant s asked).cursors).held ≡ None
missed-meant id s (call.Start now space rest) less missed = turns-starts id s None space rest less missed
missed-meant id s (call.More now of space most) less missed = missed-fetches id of most space s (of_id of s.held) missed refl
missed-meant id s (call.Kill now marks) less missed = none-outlives marks id s.held missed
missed-meant id s (call.Count now) less missed = missed

-- and has no batch
abbrev pub NoBatch : ℕ → CursorCall → CursorReply → Type 0
NoBatch id asked r = (batch id asked r ≡ []) × (is_last id asked r ≡ false)

other-batch : (id now of most : ℕ) (space : Space) (r : CursorReply) → (id == of) ≡ false → NoBatch id (call.More now of space most) r
other-batch id now of most space (reply.Batch items left) other = (rw other refl, rw other refl)
other-batch id now of most space (reply.Started k) other = (refl, refl)
other-batch id now of most space reply.TooMany other = (refl, refl)
other-batch id now of most space reply.NotFound other = (refl, refl)
other-batch id now of most space reply.OtherSpace other = (refl, refl)
other-batch id now of most space (reply.Killed marks) other = (refl, refl)
other-batch id now of most space (reply.Counted n) other = (refl, refl)
other-batch id now of most space reply.NoMemory other = (refl, refl)

nothing-fetched : (id now of most : ℕ) (space : Space) (s : Cursors) (o : Option Cursor) → of_id id s.held ≡ None → of_id of s.held ≡ o
    → NoBatch id (call.More now of space most) (fetches space most s o).reply
nothing-fetched id now of most space s None missed theirs = (refl, refl)
nothing-fetched id now of most space s (Some d) missed theirs =
    other-batch id now of most space (fetches space most s (Some d)).reply (apart-from id of s d missed theirs)

nothing-meant : (id : ℕ) (s : Cursors) (asked : CursorCall) → of_id id s.held ≡ None → NoBatch id asked (meant s asked).reply
nothing-meant id s (call.Start now space rest) missed = (refl, refl)
nothing-meant id s (call.More now of space most) missed = nothing-fetched id now of most space s (of_id of s.held) missed refl
nothing-meant id s (call.Kill now marks) missed = (refl, refl)
nothing-meant id s (call.Count now) missed = (refl, refl)

nothing-by : (id : ℕ) (asked : CursorCall) (m : Meant) (r : CursorReply) → NoBatch id asked m.reply → replies m r → NoBatch id asked r
nothing-by id asked m reply.NoMemory nothing replied = (batch-none id asked, last-none id asked)
nothing-by id asked m r nothing replied = subst (λ x. NoBatch id asked x) (sym replied) nothing

stays-by : (id : ℕ) (s : Cursors) (m : Meant) (r : CursorReply) → of_id id s.held ≡ None → of_id id (m.cursors).held ≡ None
    → of_id id (leaves s m r).held ≡ None
stays-by id s m reply.NoMemory before later = before
stays-by id s m r before later = later

-- ---- with the idle ones gone

-- a call that asks an id which is not held gives nothing of it
pub nothing-after : (id : ℕ) (s : Cursors) (asked : CursorCall) (r : CursorReply) (before now : ℕ) → of_id id s.held ≡ None
    → cstep s asked r before now → NoBatch id asked r
nothing-after id s asked r before now missed step =
    let t = awake (moment asked) s in
    let gone = none-fewer (is_awake t.latest) id s.held missed in
    nothing-by id asked (meant t asked) r (nothing-meant id t asked gone) step.replied

pub missed-after : (id : ℕ) (s : Cursors) (asked : CursorCall) (r : CursorReply) → id < s.next → of_id id s.held ≡ None
    → of_id id (cursors_after s asked r).held ≡ None
missed-after id s asked r less missed =
    let t = awake (moment asked) s in
    let gone = none-fewer (is_awake t.latest) id s.held missed in
    stays-by id t (meant t asked) r gone (missed-meant id t asked less gone)

pub turns-after : (id : ℕ) (s : Cursors) (c : Cursor) (asked : CursorCall) (r : CursorReply) (before now : ℕ) → Sound s
    → of_id id s.held ≡ Some c → cstep s asked r before now
    → Turns id c.rest (batch id asked r) (is_last id asked r) (cursors_after s asked r)
turns-after id s c asked r before now sound found step =
    cases (is_awake (max (moment asked) s.latest) c)
    (found-fewer (is_awake (max (moment asked) s.latest)) id c s.held sound.apart found)
  where
    t : Cursors
    t = awake (moment asked) s

    cases : (b : Bool) → of_id id t.held ≡ (if b then Some c else None)
        → Turns id c.rest (batch id asked r) (is_last id asked r) (cursors_after s asked r)
    cases true on = by-reply id c.rest t asked (meant t asked) r (inl (c, on, refl, refl))
        (turns-meant id t c asked (sound-awake (moment asked) s sound) on) step.replied
    cases false on =
        let nothing = nothing-by id asked (meant t asked) r (nothing-meant id t asked on) step.replied in
        let none = stays-by id t (meant t asked) r on (missed-meant id t asked (was-given id c s sound found) on) in
        rw (nothing.0, nothing.1) (inr (none, c.rest, refl, λ never. absurd cc))
