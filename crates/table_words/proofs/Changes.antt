-- What a change of the live tables leaves true.
use Rattle.std.proofs.Common.{◌≡◌, ℕ, suc, length, ◌<◌, ◌≤◌, ◌+◌, ◌==◌, Bool, true, false, List, [], ◌∷◌, ◌++◌, Option, None, Some, refl, ap, sym, ◌∙◌, subst, arith}
use Rattle.std.proofs.lemmas.Bool.{eqb-true}
use Rattle.std.specs.Str.{bytes_eq}
use Rattle.bson_values.specs.declared.space.Space.{Space}
use Rattle.bson_values.specs.Names.{same_space}
use Rattle.table_rows.specs.declared.listed.Placed.{Placed}
use Rattle.table_words.specs.Tables.{Table, Tables, named, numbered, put, without, outside_of}
use Rattle.table_words.specs.Sound.{SoundRows, IsApart, SoundTable, SoundTables}
use Rattle.table_words.specs.Kept.{Kept}
use Rattle.table_words.proofs.Rows.{rows-later}
use Rattle.table_words.proofs.Finds.{found-number, number-same, number-apart, numbered-skip, space-swap, has-number}

-- a later next number
pub table-later : (n m : ℕ) (t : Table) → n ≤ m → SoundTable n t → SoundTable m t
table-later n m t le sound = record {
  rows = rows-later n m t.rows le sound.rows;
  number = let less = sound.number in omega (arith, le, less);
  stamp = let less = sound.stamp in omega (arith, le, less);
  space = sound.space;
}

pub tables-later : (n m : ℕ) (ts : List Table) → n ≤ m → SoundTables n ts → SoundTables m ts
tables-later n m [] le sound = tt
tables-later n m (t ∷ ts) le sound = (table-later n m t le sound.0, sound.1, tables-later n m ts le sound.2)

-- the table with other rows
abbrev pub renewed : Table → ℕ → List Placed → Table
renewed t stamp rows = record t { stamp = stamp; rows = rows }

apart-put : (v t : Table) (stamp : ℕ) (rows : List Placed) (vs : List Table) → IsApart v vs → numbered t.number vs ≡ Some t
    → IsApart v (put (renewed t stamp rows) vs)
apart-put v t stamp rows [] apart found = tt
apart-put v t stamp rows (u ∷ us) apart found = found-number t.number u t us found
    (λ e same. rw e (subst (λ (x : Table). (same_space v.space x.space ≡ false) × (v.number < x.number) × IsApart v us) same apart))
    (λ e more. rw e (apart.0, apart.1, apart-put v t stamp rows us apart.2 more))

pub sound-put : (n m stamp : ℕ) (t : Table) (rows : List Placed) (ts : List Table) → SoundTables n ts → numbered t.number ts ≡ Some t
    → n ≤ m → SoundTable m (renewed t stamp rows) → SoundTables m (put (renewed t stamp rows) ts)
sound-put n m stamp t rows [] sound found le new = tt
sound-put n m stamp t rows (v ∷ vs) sound found le new = found-number t.number v t vs found
    (λ e same. rw e (new, subst (λ (x : Table). IsApart x vs) same sound.1, tables-later n m vs le sound.2))
    (λ e more. rw e (
      table-later n m v le sound.0,
      apart-put v t stamp rows vs sound.1 more,
      sound-put n m stamp t rows vs sound.2 more le new,
    ))

pub length-put : (t : Table) (ts : List Table) → length (put t ts) ≡ length ts
length-put t [] = refl
length-put t (v ∷ vs) = cases (t.number == v.number) refl (length-put t vs)
  where
    cases : (b : Bool) → (t.number == v.number) ≡ b → length (put t vs) ≡ length vs → length (put t (v ∷ vs)) ≡ length (v ∷ vs)
    cases true e rest = rw e refl
    cases false e rest = rw e (ap (λ n. suc n) rest)

-- a table that is found afterwards is the new one, or was found before
pub found-put : {P : Type 0} (k : ℕ) (u w : Table) (ts : List Table) → numbered k (put u ts) ≡ Some w → (u ≡ w → P)
    → (numbered k ts ≡ Some w → P) → P
found-put k u w [] found new old = absurd cc
found-put {P} k u w (v ∷ vs) found new old = cases (u.number == v.number) refl (found-put k u w vs)
  where
    cases : (b : Bool) → (u.number == v.number) ≡ b → (numbered k (put u vs) ≡ Some w → (u ≡ w → P) → (numbered k vs ≡ Some w → P) → P) → P
    cases true e rest = found-number k u w vs (rw e at found) (λ at same. new same)
        (λ away more. old (rw (subst (λ n. (k == n) ≡ false) (eqb-true u.number v.number e) away) more))
    cases false e rest = found-number k v w (put u vs) (rw e at found) (λ at same. old (rw at (ap (λ x. Some x) same)))
        (λ away more. rest more new (λ there. old (rw away there)))

pub found-last : {P : Type 0} (k : ℕ) (u w : Table) (ts : List Table) → numbered k (ts ++ u ∷ []) ≡ Some w → (u ≡ w → P)
    → (numbered k ts ≡ Some w → P) → P
found-last k u w [] found new old = found-number k u w [] found (λ at same. new same) (λ away more. absurd cc)
found-last {P} k u w (v ∷ vs) found new old = found-number k v w (vs ++ u ∷ []) found (λ at same. old (rw at (ap (λ x. Some x) same)))
    (λ away more. found-last k u w vs more new (λ there. old (rw away there)))

-- a space that is nowhere is that of no table
not-first : (space : Space) (v : Table) (vs : List Table) → named space (v ∷ vs) ≡ None
    → (same_space space v.space ≡ false) × (named space vs ≡ None)
not-first space v vs none = cases (same_space space v.space) refl
  where
    cases : (b : Bool) → same_space space v.space ≡ b → (same_space space v.space ≡ false) × (named space vs ≡ None)
    cases true e = let clash : Some v ≡ None = rw e at none in absurd cc
    cases false e = (e, rw e at none)

apart-last : (v t : Table) (vs : List Table) → IsApart v vs → same_space v.space t.space ≡ false → v.number < t.number
    → IsApart v (vs ++ t ∷ [])
apart-last v t [] apart away less = (away, less, tt)
apart-last v t (u ∷ us) apart away less = (apart.0, apart.1, apart-last v t us apart.2 away less)

pub sound-new : (n m : ℕ) (t : Table) (ts : List Table) → SoundTables n ts → named t.space ts ≡ None → n ≤ t.number → n ≤ m
    → SoundTable m t → SoundTables m (ts ++ t ∷ [])
sound-new n m t [] sound none over le new = (new, tt, tt)
sound-new n m t (v ∷ vs) sound none over le new = let first = not-first t.space v vs none in let less = (sound.0).number in (
  table-later n m v le sound.0,
  apart-last v t vs sound.1 (space-swap t.space v.space first.0) (omega (arith, over, less)),
  sound-new n m t vs sound.2 first.1 over le new,
)

-- a table went
apart-without : (v : Table) (n : ℕ) (vs : List Table) → IsApart v vs → IsApart v (without n vs)
apart-without v n [] apart = tt
apart-without v n (u ∷ us) apart = cases (n == u.number) refl (apart-without v n us apart.2)
  where
    cases : (b : Bool) → (n == u.number) ≡ b → IsApart v (without n us) → IsApart v (without n (u ∷ us))
    cases true e rest = rw e apart.2
    cases false e rest = rw e (apart.0, apart.1, rest)

pub sound-without : (next n : ℕ) (ts : List Table) → SoundTables next ts → SoundTables next (without n ts)
sound-without next n [] sound = tt
sound-without next n (v ∷ vs) sound = cases (n == v.number) refl (sound-without next n vs sound.2)
  where
    cases : (b : Bool) → (n == v.number) ≡ b → SoundTables next (without n vs) → SoundTables next (without n (v ∷ vs))
    cases true e rest = rw e sound.2
    cases false e rest = rw e (sound.0, apart-without v n vs sound.1, rest)

pub found-without : (next k n : ℕ) (w : Table) (ts : List Table) → SoundTables next ts → numbered k (without n ts) ≡ Some w
    → numbered k ts ≡ Some w
found-without next k n w [] sound found = found
found-without next k n w (v ∷ vs) sound found = cases (n == v.number) refl (found-without next k n w vs sound.2)
  where
    cases : (b : Bool) → (n == v.number) ≡ b → (numbered k (without n vs) ≡ Some w → numbered k vs ≡ Some w) → numbered k (v ∷ vs) ≡ Some w
    cases true e rest = numbered-skip k v w vs sound.1 (rw e at found)
    cases false e rest = found-number k v w (without n vs) (rw e at found) (λ at same. rw at (ap (λ x. Some x) same))
        (λ away more. rw away (rest more))

pub length-without : (n : ℕ) (ts : List Table) → length (without n ts) ≤ length ts
length-without n [] = omega arith
length-without n (v ∷ vs) = cases (n == v.number) refl (length-without n vs)
  where
    cases : (b : Bool) → (n == v.number) ≡ b → length (without n vs) ≤ length vs → length (without n (v ∷ vs)) ≤ length (v ∷ vs)
    cases true e rest = rw e (omega arith)
    cases false e rest = rw e (omega (arith, rest))

-- a database went
apart-outside : (v : Table) (db : List ℕ) (vs : List Table) → IsApart v vs → IsApart v (outside_of db vs)
apart-outside v db [] apart = tt
apart-outside v db (u ∷ us) apart = cases (bytes_eq db u.space.db) refl (apart-outside v db us apart.2)
  where
    cases : (b : Bool) → bytes_eq db u.space.db ≡ b → IsApart v (outside_of db us) → IsApart v (outside_of db (u ∷ us))
    cases true e rest = rw e rest
    cases false e rest = rw e (apart.0, apart.1, rest)

pub sound-outside : (next : ℕ) (db : List ℕ) (ts : List Table) → SoundTables next ts → SoundTables next (outside_of db ts)
sound-outside next db [] sound = tt
sound-outside next db (v ∷ vs) sound = cases (bytes_eq db v.space.db) refl (sound-outside next db vs sound.2)
  where
    cases : (b : Bool) → bytes_eq db v.space.db ≡ b → SoundTables next (outside_of db vs) → SoundTables next (outside_of db (v ∷ vs))
    cases true e rest = rw e rest
    cases false e rest = rw e (sound.0, apart-outside v db vs sound.1, rest)

pub found-outside : (next k : ℕ) (db : List ℕ) (w : Table) (ts : List Table) → SoundTables next ts
    → numbered k (outside_of db ts) ≡ Some w → numbered k ts ≡ Some w
found-outside next k db w [] sound found = found
found-outside next k db w (v ∷ vs) sound found = cases (bytes_eq db v.space.db) refl (found-outside next k db w vs sound.2)
  where
    cases : (b : Bool) → bytes_eq db v.space.db ≡ b → (numbered k (outside_of db vs) ≡ Some w → numbered k vs ≡ Some w)
        → numbered k (v ∷ vs) ≡ Some w
    cases true e rest = numbered-skip k v w vs sound.1 (rest (rw e at found))
    cases false e rest = found-number k v w (outside_of db vs) (rw e at found) (λ at same. rw at (ap (λ x. Some x) same))
        (λ away more. rw away (rest more))

pub length-outside : (db : List ℕ) (ts : List Table) → length (outside_of db ts) ≤ length ts
length-outside db [] = omega arith
length-outside db (v ∷ vs) = cases (bytes_eq db v.space.db) refl (length-outside db vs)
  where
    cases : (b : Bool) → bytes_eq db v.space.db ≡ b → length (outside_of db vs) ≤ length vs
        → length (outside_of db (v ∷ vs)) ≤ length (v ∷ vs)
    cases true e rest = rw e (omega (arith, rest))
    cases false e rest = rw e (omega (arith, rest))
