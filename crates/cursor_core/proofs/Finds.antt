-- Which cursor is found by its id, and what stays true of fewer cursors.
use Rattle.std.proofs.Common.{◌≡◌, ℕ, length, ◌<◌, ◌≤◌, ◌==◌, Bool, true, false, if◌then◌else◌, List, [], ◌∷◌, None, Some, refl, ap, sym, subst, arith}
use Rattle.std.proofs.lemmas.Bool.{eqb-true}
use Rattle.std.proofs.lemmas.Bool.Decides.{nat_tests}
use Rattle.std.specs.List.{filter}
use Rattle.history_lock.specs.Places.{Each}
use Rattle.cursor_core.specs.declared.state.Cursor.{Cursor}
use Rattle.cursor_core.specs.Held.{of_id, without, is_other}
use Rattle.cursor_core.specs.Sound.{Apart, Falls}

pub id-same : (id : ℕ) → (id == id) ≡ true
id-same id = grind (arith, nat_tests)

-- a cursor that is found is the first one or stands in the rest
pub found-id : {P : Type 0} (id : ℕ) (d c : Cursor) (ds : List Cursor) → of_id id (d ∷ ds) ≡ Some c
    → ((id == d.id) ≡ true → d ≡ c → P) → ((id == d.id) ≡ false → of_id id ds ≡ Some c → P) → P
found-id {P} id d c ds found here there = cases (id == d.id) refl
  where
    cases : (b : Bool) → (id == d.id) ≡ b → P
    cases true e = let same : Some d ≡ Some c = rw e at found in here e cc
    cases false e = there e (rw e at found)

-- where none is found, neither the first one is it nor one in the rest
pub missed-id : {P : Type 0} (id : ℕ) (d : Cursor) (ds : List Cursor) → of_id id (d ∷ ds) ≡ None
    → ((id == d.id) ≡ false → of_id id ds ≡ None → P) → P
missed-id {P} id d ds missed on = cases (id == d.id) refl
  where
    cases : (b : Bool) → (id == d.id) ≡ b → P
    cases true e = let same : Some d ≡ None = rw e at missed in absurd cc
    cases false e = on e (rw e at missed)

pub has-id : (id : ℕ) (c : Cursor) (cs : List Cursor) → of_id id cs ≡ Some c → id ≡ c.id
has-id id c [] found = absurd cc
has-id id c (d ∷ ds) found = found-id id d c ds found
    (λ e same. eqb-true id c.id (subst (λ (x : Cursor). (id == x.id) ≡ true) same e)) (λ e more. has-id id c ds more)

-- what holds of each holds of the one that is found
pub each-found : (P : Cursor → Type 0) (id : ℕ) (c : Cursor) (cs : List Cursor) → Each P cs → of_id id cs ≡ Some c → P c
each-found P id c [] each found = absurd cc
each-found P id c (d ∷ ds) each found =
    found-id id d c ds found (λ e same. subst P same each.0) (λ e more. each-found P id c ds each.1 more)

-- no id from the next one on is held
pub none-above : (P : Cursor → Type 0) (id : ℕ) (cs : List Cursor) → ((c : Cursor) → P c → c.id < id) → Each P cs → of_id id cs ≡ None
none-above P id [] below each = refl
none-above P id (c ∷ cs) below each =
    let less = below c each.0 in
    let apart : (id == c.id) ≡ false = grind (arith, nat_tests, less) in rw apart (none-above P id cs below each.1)

-- ---- fewer cursors

pub each-fewer : (P : Cursor → Type 0) (test : Cursor → Bool) (cs : List Cursor) → Each P cs → Each P (filter test cs)
each-fewer P test [] each = tt
each-fewer P test (c ∷ cs) each = cases (test c) refl (each-fewer P test cs each.1)
  where
    cases : (b : Bool) → test c ≡ b → Each P (filter test cs) → Each P (filter test (c ∷ cs))
    cases true e rest = rw e (each.0, rest)
    cases false e rest = rw e rest

pub length-fewer : (test : Cursor → Bool) (cs : List Cursor) → length (filter test cs) ≤ length cs
length-fewer test [] = omega arith
length-fewer test (c ∷ cs) = cases (test c) refl (length-fewer test cs)
  where
    cases : (b : Bool) → test c ≡ b → length (filter test cs) ≤ length cs → length (filter test (c ∷ cs)) ≤ length (c ∷ cs)
    cases true e rest = rw e (omega (arith, rest))
    cases false e rest = rw e (omega (arith, rest))

pub falls-later : (n m : ℕ) (cs : List Cursor) → n ≤ m → Falls n cs → Falls m cs
falls-later n m [] le falls = tt
falls-later n m (c ∷ cs) le falls = (let x = falls.0 in omega (arith, x, le), falls.1)

pub falls-fewer : (test : Cursor → Bool) (n : ℕ) (cs : List Cursor) → Falls n cs → Falls n (filter test cs)
falls-fewer test n [] falls = tt
falls-fewer test n (c ∷ cs) falls = cases (test c) refl (falls-fewer test c.last cs falls.1)
  where
    cases : (b : Bool) → test c ≡ b → Falls c.last (filter test cs) → Falls n (filter test (c ∷ cs))
    cases true e rest = rw e (falls.0, rest)
    cases false e rest = rw e (falls-later c.last n (filter test cs) falls.0 rest)

pub none-fewer : (test : Cursor → Bool) (id : ℕ) (cs : List Cursor) → of_id id cs ≡ None → of_id id (filter test cs) ≡ None
none-fewer test id [] missed = refl
none-fewer test id (c ∷ cs) missed = missed-id id c cs missed (λ apart more. cases (test c) refl apart (none-fewer test id cs more))
  where
    cases : (b : Bool) → test c ≡ b → (id == c.id) ≡ false → of_id id (filter test cs) ≡ None → of_id id (filter test (c ∷ cs)) ≡ None
    cases true e apart rest = rw (e, apart) rest
    cases false e apart rest = rw e rest

pub apart-fewer : (test : Cursor → Bool) (cs : List Cursor) → Apart cs → Apart (filter test cs)
apart-fewer test [] apart = tt
apart-fewer test (c ∷ cs) apart = cases (test c) refl (apart-fewer test cs apart.1)
  where
    cases : (b : Bool) → test c ≡ b → Apart (filter test cs) → Apart (filter test (c ∷ cs))
    cases true e rest = rw e (none-fewer test c.id cs apart.0, rest)
    cases false e rest = rw e rest

-- one that is found is found among fewer, or is not there any more
pub found-fewer : (test : Cursor → Bool) (id : ℕ) (c : Cursor) (cs : List Cursor) → Apart cs → of_id id cs ≡ Some c
    → of_id id (filter test cs) ≡ (if test c then Some c else None)
found-fewer test id c [] apart found = absurd cc
found-fewer test id c (d ∷ ds) apart found = found-id id d c ds found
    (λ e same. here e same (test d) refl)
    (λ e more. there e (test d) refl (found-fewer test id c ds apart.1 more))
  where
    here : (id == d.id) ≡ true → d ≡ c → (b : Bool) → test d ≡ b
        → of_id id (filter test (d ∷ ds)) ≡ (if test c then Some c else None)
    here e same true t = let kept : test c ≡ true = subst (λ (x : Cursor). test x ≡ true) same t in
        rw (t, e, kept) (ap (λ (x : Cursor). Some x) same)
    here e same false t = let gone : test c ≡ false = subst (λ (x : Cursor). test x ≡ false) same t in
        rw (t, gone) (none-fewer test id ds (subst (λ k. of_id k ds ≡ None) (sym (eqb-true id d.id e)) apart.0))

    there : (id == d.id) ≡ false → (b : Bool) → test d ≡ b → of_id id (filter test ds) ≡ (if test c then Some c else None)
        → of_id id (filter test (d ∷ ds)) ≡ (if test c then Some c else None)
    there e true t rest = rw (t, e) rest
    there e false t rest = rw t rest

pub other-false : (id : ℕ) (c : Cursor) → id ≡ c.id → is_other id c ≡ false
other-false id c same = rw (← same, id-same id) refl

-- the one that is out is not found
pub gone-without : (id : ℕ) (cs : List Cursor) → of_id id (without id cs) ≡ None
gone-without id [] = refl
gone-without id (c ∷ cs) = cases (id == c.id) refl (gone-without id cs)
  where
    cases : (b : Bool) → (id == c.id) ≡ b → of_id id (without id cs) ≡ None → of_id id (without id (c ∷ cs)) ≡ None
    cases true e rest = rw e rest
    cases false e rest = rw (e, e) rest

-- there are fewer without one that is there
pub length-without : (id : ℕ) (c : Cursor) (cs : List Cursor) → of_id id cs ≡ Some c → length (without id cs) < length cs
length-without id c [] found = absurd cc
length-without id c (d ∷ ds) found = found-id id d c ds found
    (λ e same. rw e (let le = length-fewer (is_other id) ds in omega (arith, le)))
    (λ e more. rw e (let less = length-without id c ds more in omega (arith, less)))
