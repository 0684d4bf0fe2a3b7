-- Edits leave rows sound.
use Rattle.std.proofs.Common.{◌≡◌, ℕ, ◌<◌, ◌≤◌, ◌+◌, Bool, true, false, ◌&&◌, ◌||◌, List, [], ◌∷◌, ◌++◌, Option, None, Some, refl, ap, sym, ◌∙◌, subst, arith}
use Rattle.std.proofs.lemmas.Bool.{or_parts, or_from}
use Rattle.std.proofs.lemmas.Slice.Eq.{bytes_eq-Decides}
use Rattle.std.specs.Str.{bytes_eq}
use Rattle.table_rows.specs.declared.row.Row.{Row}
use Rattle.table_rows.specs.declared.listed.Placed.{Placed}
use Rattle.table_words.specs.declared.call.Edit.{Edit}
use Rattle.table_words.specs.declared.call.Edit.TheVariants.{Replace, Remove}
use Rattle.table_rows.specs.Rows.{has_key, replaced, removed}
use Rattle.table_words.specs.Step.{edited, added_at, has_added}
use Rattle.table_words.specs.Sound.{IsSound, SoundEdits, SoundAdded, SoundRows}

pub bytes-same : (a : List ℕ) → bytes_eq a a ≡ true
bytes-same a = (bytes_eq-Decides a a).1 refl

pub bytes-swap : (a b : List ℕ) → bytes_eq a b ≡ false → bytes_eq b a ≡ false
bytes-swap a b apart = cases (bytes_eq b a) refl
  where
    cases : (x : Bool) → bytes_eq b a ≡ x → bytes_eq b a ≡ false
    cases true e = let same = (bytes_eq-Decides b a).0 e in let yes : bytes_eq a b ≡ true = (bytes_eq-Decides a b).1 (sym same) in
        absurd (cc (yes, apart))
    cases false e = e

-- a later next number
pub rows-later : (n m : ℕ) (ps : List Placed) → n ≤ m → SoundRows n ps → SoundRows m ps
rows-later n m [] le sound = tt
rows-later n m (p ∷ ps) le sound = (sound.0, sound.1, omega (arith, le, sound.2), rows-later n m ps le sound.3)

-- replacing a row leaves the keys
pub key-replaced : (key : List ℕ) (row : Row) (ps : List Placed) → has_key key (replaced row ps) ≡ has_key key ps
key-replaced key row [] = refl
key-replaced key row (p ∷ ps) = cases (bytes_eq row.key p.row.key) refl (key-replaced key row ps)
  where
    cases : (b : Bool) → bytes_eq row.key p.row.key ≡ b → has_key key (replaced row ps) ≡ has_key key ps
        → has_key key (replaced row (p ∷ ps)) ≡ has_key key (p ∷ ps)
    cases true e rest = rw e (ap (λ k. bytes_eq key k || has_key key ps) ((bytes_eq-Decides row.key p.row.key).0 e))
    cases false e rest = rw e (ap (λ b. bytes_eq key p.row.key || b) rest)

pub sound-replaced : (n : ℕ) (row : Row) (ps : List Placed) → IsSound row → SoundRows n ps → SoundRows n (replaced row ps)
sound-replaced n row [] is sound = tt
sound-replaced n row (p ∷ ps) is sound = cases (bytes_eq row.key p.row.key) refl (sound-replaced n row ps is sound.3)
  where
    cases : (b : Bool) → bytes_eq row.key p.row.key ≡ b → SoundRows n (replaced row ps) → SoundRows n (replaced row (p ∷ ps))
    cases true e rest = rw e (
      is,
      subst (λ k. has_key k ps ≡ false) (sym ((bytes_eq-Decides row.key p.row.key).0 e)) sound.1,
      sound.2,
      sound.3,
    )
    cases false e rest = rw e (sound.0, key-replaced p.row.key row ps ∙ sound.1, sound.2, rest)

-- a key that is absent stays so
pub key-removed : (key other : List ℕ) (ps : List Placed) → has_key key ps ≡ false → has_key key (removed other ps) ≡ false
key-removed key other [] none = refl
key-removed key other (p ∷ ps) none = let parts = or_parts (bytes_eq key p.row.key) (has_key key ps) none in
    cases parts (bytes_eq other p.row.key) refl (key-removed key other ps parts.1)
  where
    cases : (bytes_eq key p.row.key ≡ false) × (has_key key ps ≡ false) → (b : Bool) → bytes_eq other p.row.key ≡ b
        → has_key key (removed other ps) ≡ false → has_key key (removed other (p ∷ ps)) ≡ false
    cases parts true e rest = rw e parts.1
    cases parts false e rest = rw e (or_from (bytes_eq key p.row.key) (has_key key (removed other ps)) parts.0 rest)

pub sound-removed : (n : ℕ) (key : List ℕ) (ps : List Placed) → SoundRows n ps → SoundRows n (removed key ps)
sound-removed n key [] sound = tt
sound-removed n key (p ∷ ps) sound = cases (bytes_eq key p.row.key) refl (sound-removed n key ps sound.3)
  where
    cases : (b : Bool) → bytes_eq key p.row.key ≡ b → SoundRows n (removed key ps) → SoundRows n (removed key (p ∷ ps))
    cases true e rest = rw e sound.3
    cases false e rest = rw e (sound.0, key-removed p.row.key key ps sound.1, sound.2, rest)

pub key-edited : (key : List ℕ) (es : List Edit) (ps : List Placed) → has_key key ps ≡ false → has_key key (edited es ps) ≡ false
key-edited key [] ps none = none
key-edited key (Replace row ∷ es) ps none = key-edited key es (replaced row ps) (key-replaced key row ps ∙ none)
key-edited key (Remove other ∷ es) ps none = key-edited key es (removed other ps) (key-removed key other ps none)

pub sound-edited : (n : ℕ) (es : List Edit) (ps : List Placed) → SoundEdits es → SoundRows n ps → SoundRows n (edited es ps)
sound-edited n [] ps are sound = sound
sound-edited n (Replace row ∷ es) ps are sound = sound-edited n es (replaced row ps) are.1 (sound-replaced n row ps are.0 sound)
sound-edited n (Remove key ∷ es) ps are sound = sound-edited n es (removed key ps) are (sound-removed n key ps sound)

-- a row with a new key goes last
key-last : (key : List ℕ) (ps : List Placed) (p : Placed) → has_key key ps ≡ false → bytes_eq key p.row.key ≡ false
    → has_key key (ps ++ p ∷ []) ≡ false
key-last key [] p none apart = or_from (bytes_eq key p.row.key) false apart refl
key-last key (q ∷ qs) p none apart = let parts = or_parts (bytes_eq key q.row.key) (has_key key qs) none in
    or_from (bytes_eq key q.row.key) (has_key key (qs ++ p ∷ [])) parts.0 (key-last key qs p parts.1 apart)

pub sound-last : (n : ℕ) (ps : List Placed) (p : Placed) → IsSound p.row → has_key p.row.key ps ≡ false → p.place < n → SoundRows n ps
    → SoundRows n (ps ++ p ∷ [])
sound-last n [] p is none less sound = (is, refl, less, tt)
sound-last n (q ∷ qs) p is none less sound =
    let parts = or_parts (bytes_eq p.row.key q.row.key) (has_key p.row.key qs) none in
    (sound.0, key-last q.row.key qs p sound.1 (bytes-swap p.row.key q.row.key parts.0), sound.2, sound-last n qs p is parts.1 less sound.3)

append-none : {X : Type 0} (xs : List X) → xs ++ [] ≡ xs
append-none [] = refl
append-none (x ∷ xs) = ap (λ ys. x ∷ ys) (append-none xs)

pub sound-added : (n : ℕ) (es : List Edit) (added : Option Row) (ps : List Placed) → SoundEdits es → SoundAdded added
    → has_added added ps ≡ false → SoundRows n ps → SoundRows (n + 1) (edited es ps ++ added_at n added)
sound-added n es None ps are is none sound =
    subst (SoundRows (n + 1)) (sym (append-none (edited es ps)))
    (rows-later n (n + 1) (edited es ps) (omega arith) (sound-edited n es ps are sound))
sound-added n es (Some row) ps are is none sound =
    sound-last (n + 1) (edited es ps) (record { place = n; row = row }) is (key-edited row.key es ps none) (omega arith)
    (rows-later n (n + 1) (edited es ps) (omega arith) (sound-edited n es ps are sound))
