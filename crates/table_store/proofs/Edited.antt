-- Edits of rows, one by one, and all replacements before all removals.
use Rattle.std.proofs.Common.{◌≡◌, ℕ, ◌<◌, Bool, true, false, ◌||◌, List, [], ◌∷◌, ◌++◌, Option, None, Some, refl, ap, sym, ◌∙◌, subst, arith}
use Rattle.std.proofs.lemmas.Bool.{or_parts}
use Rattle.std.proofs.lemmas.Bool.Decides.{nat_tests}
use Rattle.std.proofs.lemmas.Slice.Eq.{bytes_eq-Decides}
use Rattle.std.specs.Prelude.{nat_lt, ◌&&◌}
use Rattle.std.specs.Str.{bytes_eq}
use Rattle.std_words.proofs.Tests.{never-both}
use Rattle.table_rows.specs.declared.row.Row.{Row}
use Rattle.table_rows.specs.declared.listed.Placed.{Placed}
use Rattle.table_rows.specs.Rows.{above, has_key, replaced, removed}
use Rattle.table_words.specs.declared.call.Edit.{Edit}
use Rattle.table_words.specs.declared.call.Edit.TheVariants.{Replace, Remove}
use Rattle.table_words.specs.Sound.{SoundRows}
use Rattle.table_words.specs.Step.{edited}
use Rattle.table_words.proofs.Rows.{bytes-same, bytes-swap, key-replaced, key-removed}
use Rattle.table_store.specs.Edits.{key_of, others}

edited-append : (xs ys : List Edit) (rows : List Placed) → edited (xs ++ ys) rows ≡ edited ys (edited xs rows)
edited-append [] ys rows = refl
edited-append (Replace row ∷ xs) ys rows = edited-append xs ys (replaced row rows)
edited-append (Remove key ∷ xs) ys rows = edited-append xs ys (removed key rows)

pub edited-push : (es : List Edit) (e : Edit) (rows : List Placed) → edited (es ++ e ∷ []) rows ≡ edited (e ∷ []) (edited es rows)
edited-push es e rows = edited-append es (e ∷ []) rows

-- no key stands twice
abbrev pub Distinct : List Placed → Type 0
Distinct [] = Unit {0}
Distinct (p ∷ ps) = (has_key p.row.key ps ≡ false) × Distinct ps

pub sound-distinct : (n : ℕ) (ps : List Placed) → SoundRows n ps → Distinct ps
sound-distinct n [] sound = tt
sound-distinct n (p ∷ ps) sound = (sound.1, sound-distinct n ps sound.3)

-- the next number is above all places
pub sound-above : (n : ℕ) (ps : List Placed) → SoundRows n ps → above n ps ≡ true
sound-above n [] sound = refl
sound-above n (p ∷ ps) sound = let first : nat_lt p.place n ≡ true = let less = sound.2 in grind (arith, nat_tests) in
    rw first (sound-above n ps sound.3)

distinct-replaced : (row : Row) (ps : List Placed) → Distinct ps → Distinct (replaced row ps)
distinct-replaced row [] distinct = tt
distinct-replaced row (p ∷ ps) distinct = cases (bytes_eq row.key p.row.key) refl (distinct-replaced row ps distinct.1)
  where
    cases : (b : Bool) → bytes_eq row.key p.row.key ≡ b → Distinct (replaced row ps) → Distinct (replaced row (p ∷ ps))
    cases true e rest = rw e (subst (λ k. has_key k ps ≡ false) (sym ((bytes_eq-Decides row.key p.row.key).0 e)) distinct.0, distinct.1)
    cases false e rest = rw e (key-replaced p.row.key row ps ∙ distinct.0, rest)

distinct-removed : (key : List ℕ) (ps : List Placed) → Distinct ps → Distinct (removed key ps)
distinct-removed key [] distinct = tt
distinct-removed key (p ∷ ps) distinct = cases (bytes_eq key p.row.key) refl (distinct-removed key ps distinct.1)
  where
    cases : (b : Bool) → bytes_eq key p.row.key ≡ b → Distinct (removed key ps) → Distinct (removed key (p ∷ ps))
    cases true e rest = rw e distinct.1
    cases false e rest = rw e (key-removed p.row.key key ps distinct.0, rest)

-- what is not there is not replaced
pub not-there : (row : Row) (ps : List Placed) → has_key row.key ps ≡ false → replaced row ps ≡ ps
not-there row [] none = refl
not-there row (p ∷ ps) none = let parts = or_parts (bytes_eq row.key p.row.key) (has_key row.key ps) none in
    rw parts.0 (ap (λ rs. p ∷ rs) (not-there row ps parts.1))

pub not-out : (key : List ℕ) (ps : List Placed) → has_key key ps ≡ false → removed key ps ≡ ps
not-out key [] none = refl
not-out key (p ∷ ps) none = let parts = or_parts (bytes_eq key p.row.key) (has_key key ps) none in
    rw parts.0 (ap (λ rs. p ∷ rs) (not-out key ps parts.1))

-- ---- first all replacements, then all removals

abbrev pub all_replaced : List Edit → List Placed → List Placed
all_replaced [] rows = rows
all_replaced (Replace row ∷ es) rows = all_replaced es (replaced row rows)
all_replaced (Remove key ∷ es) rows = all_replaced es rows

abbrev pub all_removed : List Edit → List Placed → List Placed
all_removed [] rows = rows
all_removed (Replace row ∷ es) rows = all_removed es rows
all_removed (Remove key ∷ es) rows = all_removed es (removed key rows)

equal-key : {a b : List ℕ} → bytes_eq a b ≡ true → a ≡ b
equal-key {a} {b} e = (bytes_eq-Decides a b).0 e

-- a removal may wait
swap : (row : Row) (key : List ℕ) (ps : List Placed) → Distinct ps → replaced row (removed key ps) ≡ removed key (replaced row ps)
swap row key [] distinct = refl
swap row key (p ∷ ps) distinct = cases (bytes_eq key p.row.key) refl (bytes_eq row.key p.row.key) refl (swap row key ps distinct.1)
  where
    cases : (a : Bool) → bytes_eq key p.row.key ≡ a → (b : Bool) → bytes_eq row.key p.row.key ≡ b
        → replaced row (removed key ps) ≡ removed key (replaced row ps)
        → replaced row (removed key (p ∷ ps)) ≡ removed key (replaced row (p ∷ ps))
    cases true d true e rest =
        let one : row.key ≡ p.row.key = equal-key e in
        let both : bytes_eq key row.key ≡ true = subst (λ k. bytes_eq key k ≡ true) (sym one) d in
        rw (d, e, both) (not-there row ps (subst (λ k. has_key k ps ≡ false) (sym one) distinct.0))
    cases true d false e rest = rw (d, e, d) refl
    cases false d true e rest =
        let one : row.key ≡ p.row.key = equal-key e in
        let both : bytes_eq key row.key ≡ false = subst (λ k. bytes_eq key k ≡ false) (sym one) d in
        rw (d, e, both) refl
    cases false d false e rest = rw (d, e, d) (ap (λ rs. p ∷ rs) rest)

wait : (es : List Edit) (key : List ℕ) (ps : List Placed) → Distinct ps
    → all_replaced es (removed key ps) ≡ removed key (all_replaced es ps)
wait [] key ps distinct = refl
wait (Replace row ∷ es) key ps distinct = ap (all_replaced es) (swap row key ps distinct)
    ∙ wait es key (replaced row ps) (distinct-replaced row ps distinct)
wait (Remove other ∷ es) key ps distinct = wait es key ps distinct

pub edited-parts : (es : List Edit) (ps : List Placed) → Distinct ps → edited es ps ≡ all_removed es (all_replaced es ps)
edited-parts [] ps distinct = refl
edited-parts (Replace row ∷ es) ps distinct = edited-parts es (replaced row ps) (distinct-replaced row ps distinct)
edited-parts (Remove key ∷ es) ps distinct = edited-parts es (removed key ps) (distinct-removed key ps distinct)
    ∙ ap (all_removed es) (wait es key ps distinct)

others-append : (key : List ℕ) (xs ys : List Edit) → others key (xs ++ ys) ≡ others key xs ++ others key ys
others-append key [] ys = refl
others-append key (x ∷ xs) ys = cases (bytes_eq key (key_of x)) refl (others-append key xs ys)
  where
    cases : (b : Bool) → bytes_eq key (key_of x) ≡ b → others key (xs ++ ys) ≡ others key xs ++ others key ys
        → others key ((x ∷ xs) ++ ys) ≡ others key (x ∷ xs) ++ others key ys
    cases true e rest = rw e rest
    cases false e rest = rw e (ap (λ es. x ∷ es) rest)

-- one edit more, if it is of another key
pub others-push : (key : List ℕ) (es : List Edit) (e : Edit) (rows : List Placed)
    → edited (others key (es ++ e ∷ [])) rows ≡ edited (others key (e ∷ [])) (edited (others key es) rows)
others-push key es e rows = ap (λ xs. edited xs rows) (others-append key es (e ∷ []))
    ∙ edited-append (others key es) (others key (e ∷ [])) rows

-- ---- a row that stands last already

replaced-last : (row : Row) (ps : List Placed) (q : Placed) → bytes_eq q.row.key row.key ≡ false
    → replaced row (ps ++ q ∷ []) ≡ replaced row ps ++ q ∷ []
replaced-last row [] q apart = rw (bytes-swap q.row.key row.key apart) refl
replaced-last row (p ∷ ps) q apart = cases (bytes_eq row.key p.row.key) refl (replaced-last row ps q apart)
  where
    cases : (b : Bool) → bytes_eq row.key p.row.key ≡ b → replaced row (ps ++ q ∷ []) ≡ replaced row ps ++ q ∷ []
        → replaced row ((p ∷ ps) ++ q ∷ []) ≡ replaced row (p ∷ ps) ++ q ∷ []
    cases true e rest = rw e refl
    cases false e rest = rw e (ap (λ rs. p ∷ rs) rest)

removed-last : (key : List ℕ) (ps : List Placed) (q : Placed) → bytes_eq q.row.key key ≡ false
    → removed key (ps ++ q ∷ []) ≡ removed key ps ++ q ∷ []
removed-last key [] q apart = rw (bytes-swap q.row.key key apart) refl
removed-last key (p ∷ ps) q apart = cases (bytes_eq key p.row.key) refl (removed-last key ps q apart)
  where
    cases : (b : Bool) → bytes_eq key p.row.key ≡ b → removed key (ps ++ q ∷ []) ≡ removed key ps ++ q ∷ []
        → removed key ((p ∷ ps) ++ q ∷ []) ≡ removed key (p ∷ ps) ++ q ∷ []
    cases true e rest = rw e refl
    cases false e rest = rw e (ap (λ rs. p ∷ rs) rest)

-- the edits of other keys leave it, and those of its key do nothing to the rest
pub others-last : (es : List Edit) (ps : List Placed) (q : Placed) → has_key q.row.key ps ≡ false
    → edited (others q.row.key es) (ps ++ q ∷ []) ≡ edited es ps ++ q ∷ []
others-last [] ps q none = refl
others-last (Replace row ∷ es) ps q none = cases (bytes_eq q.row.key row.key) refl (λ rows. others-last es rows q)
  where
    cases : (b : Bool) → bytes_eq q.row.key row.key ≡ b
        → ((rows : List Placed) → has_key q.row.key rows ≡ false → edited (others q.row.key es) (rows ++ q ∷ []) ≡ edited es rows ++ q ∷ [])
        → edited (others q.row.key (Replace row ∷ es)) (ps ++ q ∷ []) ≡ edited es (replaced row ps) ++ q ∷ []
    cases true e rest =
        let same : replaced row ps ≡ ps = not-there row ps (subst (λ k. has_key k ps ≡ false) (equal-key e) none) in
        rw e (rest ps none ∙ ap (λ rs. edited es rs ++ q ∷ []) (sym same))
    cases false e rest = rw e (ap (edited (others q.row.key es)) (replaced-last row ps q e)
        ∙ rest (replaced row ps) (key-replaced q.row.key row ps ∙ none))
others-last (Remove key ∷ es) ps q none = cases (bytes_eq q.row.key key) refl (λ rows. others-last es rows q)
  where
    cases : (b : Bool) → bytes_eq q.row.key key ≡ b
        → ((rows : List Placed) → has_key q.row.key rows ≡ false → edited (others q.row.key es) (rows ++ q ∷ []) ≡ edited es rows ++ q ∷ [])
        → edited (others q.row.key (Remove key ∷ es)) (ps ++ q ∷ []) ≡ edited es (removed key ps) ++ q ∷ []
    cases true e rest =
        let same : removed key ps ≡ ps = not-out key ps (subst (λ k. has_key k ps ≡ false) (equal-key e) none) in
        rw e (rest ps none ∙ ap (λ rs. edited es rs ++ q ∷ []) (sym same))
    cases false e rest = rw e (ap (edited (others q.row.key es)) (removed-last key ps q e)
        ∙ rest (removed key ps) (key-removed q.row.key key ps none))
