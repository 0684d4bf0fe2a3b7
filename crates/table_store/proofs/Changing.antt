-- What the keeper makes of the changes of one table.
use Rattle.std.proofs.Common.{◌≡◌, ℕ, ◌==◌, Bool, true, false, List, [], ◌∷◌, ◌++◌, map, Option, None, Some, refl, ap, sym, ◌∙◌, subst}
use Rattle.std.proofs.lemmas.List.{append-nil}
use Rattle.outside.specs.declared.kept.KeptRow.{KeptRow}
use Rattle.outside.specs.declared.kept.KeptTable.{KeptTable}
use Rattle.outside.specs.declared.kept.Change.{Change}
use Rattle.outside.specs.declared.kept.Change.TheVariants.{Create, Drop, Put, Cut}
use Rattle.outside.specs.Changes.{put_row, cut_row, with_rows, changed, all_changed}
use Rattle.table_rows.specs.declared.row.Row.{Row}
use Rattle.table_rows.specs.declared.listed.Placed.{Placed}
use Rattle.table_rows.specs.Rows.{has_key, replaced, removed}
use Rattle.table_words.specs.declared.call.Edit.{Edit}
use Rattle.table_words.specs.declared.call.Edit.TheVariants.{Replace, Remove}
use Rattle.table_words.specs.Step.{edited, added_at, has_added}
use Rattle.table_words.specs.Tables.{Table, numbered, put}
use Rattle.table_words.proofs.Rows.{key-replaced, key-edited}
use Rattle.table_store.specs.Edits.{put_of, puts, cuts, changes_for}
use Rattle.table_store.specs.Kept.{kept_row, kept_tables}
use Rattle.table_store.proofs.Edited.{Distinct, all_replaced, all_removed, edited-parts, not-there}
use Rattle.table_store.proofs.Keeping.{put-new, put-there, cut-there, with-put}

-- the changes are all of this table
abbrev AreOf : ℕ → List Change → Type 0
AreOf n [] = Unit {0}
AreOf n (Create m space ∷ cs) = ⊥
AreOf n (Drop m ∷ cs) = ⊥
AreOf n (Put m place key text ∷ cs) = (m ≡ n) × AreOf n cs
AreOf n (Cut m key ∷ cs) = (m ≡ n) × AreOf n cs

-- and this is what they do to its rows
abbrev rows_changed : List Change → List KeptRow → List KeptRow
rows_changed [] rows = rows
rows_changed (Create m space ∷ cs) rows = rows_changed cs rows
rows_changed (Drop m ∷ cs) rows = rows_changed cs rows
rows_changed (Put m place key text ∷ cs) rows = rows_changed cs (put_row (record { place = place; key = key; text = text }) rows)
rows_changed (Cut m key ∷ cs) rows = rows_changed cs (cut_row key rows)

with-twice : (n : ℕ) (f g : List KeptRow → List KeptRow) (ts : List KeptTable)
    → with_rows n g (with_rows n f ts) ≡ with_rows n (λ rows. g (f rows)) ts
with-twice n f g [] = refl
with-twice n f g (t ∷ ts) = cases (t.number == n) refl (with-twice n f g ts)
  where
    cases : (b : Bool) → (t.number == n) ≡ b → with_rows n g (with_rows n f ts) ≡ with_rows n (λ rows. g (f rows)) ts
        → with_rows n g (with_rows n f (t ∷ ts)) ≡ with_rows n (λ rows. g (f rows)) (t ∷ ts)
    cases true e rest = rw e (rw e refl)
    cases false e rest = rw e (rw e (ap (λ us. t ∷ us) rest))

with-same : (n : ℕ) (ts : List KeptTable) → with_rows n (λ rows. rows) ts ≡ ts
with-same n [] = refl
with-same n (t ∷ ts) = cases (t.number == n) refl (with-same n ts)
  where
    cases : (b : Bool) → (t.number == n) ≡ b → with_rows n (λ rows. rows) ts ≡ ts → with_rows n (λ rows. rows) (t ∷ ts) ≡ t ∷ ts
    cases true e rest = rw e refl
    cases false e rest = rw e (ap (λ us. t ∷ us) rest)

all-of : (n : ℕ) (cs : List Change) (ts : List KeptTable) → AreOf n cs → all_changed cs ts ≡ with_rows n (rows_changed cs) ts
all-of n [] ts are = sym (with-same n ts)
all-of n (Create m space ∷ cs) ts are = absurd are
all-of n (Drop m ∷ cs) ts are = absurd are
all-of n (Put m place key text ∷ cs) ts are =
    let f : List KeptRow → List KeptRow = put_row (record { place = place; key = key; text = text }) in
    ap (λ k. all_changed cs (with_rows k f ts)) are.0 ∙ all-of n cs (with_rows n f ts) are.1 ∙ with-twice n f (rows_changed cs) ts
all-of n (Cut m key ∷ cs) ts are =
    ap (λ k. all_changed cs (with_rows k (cut_row key) ts)) are.0 ∙ all-of n cs (with_rows n (cut_row key) ts) are.1
    ∙ with-twice n (cut_row key) (rows_changed cs) ts

are-append : (n : ℕ) (xs ys : List Change) → AreOf n xs → AreOf n ys → AreOf n (xs ++ ys)
are-append n [] ys one other = other
are-append n (Create m space ∷ xs) ys one other = absurd one
are-append n (Drop m ∷ xs) ys one other = absurd one
are-append n (Put m place key text ∷ xs) ys one other = (one.0, are-append n xs ys one.1 other)
are-append n (Cut m key ∷ xs) ys one other = (one.0, are-append n xs ys one.1 other)

are-puts : (n : ℕ) (rows : List Placed) (es : List Edit) → AreOf n (puts n rows es)
are-puts n rows [] = tt
are-puts n rows (Replace row ∷ es) = cases (has_key row.key rows) refl (are-puts n rows es)
  where
    cases : (b : Bool) → has_key row.key rows ≡ b → AreOf n (puts n rows es) → AreOf n (puts n rows (Replace row ∷ es))
    cases true e rest = rw e (refl, rest)
    cases false e rest = rw e rest
are-puts n rows (Remove key ∷ es) = are-puts n rows es

are-cuts : (n : ℕ) (es : List Edit) → AreOf n (cuts n es)
are-cuts n [] = tt
are-cuts n (Replace row ∷ es) = are-cuts n es
are-cuts n (Remove key ∷ es) = (refl, are-cuts n es)

are-for : (n place : ℕ) (rows : List Placed) (es : List Edit) (added : Option Row) → AreOf n (changes_for n place rows es added)
are-for n place rows es None = are-append n (puts n rows es) (cuts n es) (are-puts n rows es) (are-cuts n es)
are-for n place rows es (Some row) =
    are-append n (puts n rows es ++ cuts n es) (put_of n place row ∷ [])
    (are-append n (puts n rows es) (cuts n es) (are-puts n rows es) (are-cuts n es)) (refl, tt)

rows-append : (xs ys : List Change) (rows : List KeptRow) → rows_changed (xs ++ ys) rows ≡ rows_changed ys (rows_changed xs rows)
rows-append [] ys rows = refl
rows-append (Create m space ∷ xs) ys rows = rows-append xs ys rows
rows-append (Drop m ∷ xs) ys rows = rows-append xs ys rows
rows-append (Put m place key text ∷ xs) ys rows = rows-append xs ys (put_row (record { place = place; key = key; text = text }) rows)
rows-append (Cut m key ∷ xs) ys rows = rows-append xs ys (cut_row key rows)

-- the same keys are there
abbrev SameKeys : List Placed → List Placed → Type 0
SameKeys first now = (key : List ℕ) → has_key key now ≡ has_key key first

rows-put : (n : ℕ) (first now : List Placed) (es : List Edit) → SameKeys first now
    → rows_changed (puts n first es) (map kept_row now) ≡ map kept_row (all_replaced es now)
rows-put n first now [] same = refl
rows-put n first now (Replace row ∷ es) same =
    cases (has_key row.key first) refl (rows-put n first (replaced row now) es (λ key. key-replaced key row now ∙ same key))
  where
    cases : (b : Bool) → has_key row.key first ≡ b
        → rows_changed (puts n first es) (map kept_row (replaced row now)) ≡ map kept_row (all_replaced es (replaced row now))
        → rows_changed (puts n first (Replace row ∷ es)) (map kept_row now) ≡ map kept_row (all_replaced es (replaced row now))
    cases true e rest = rw e (ap (rows_changed (puts n first es)) (put-there 0 row now (same row.key ∙ e)) ∙ rest)
    cases false e rest = rw e (ap (λ ps. rows_changed (puts n first es) (map kept_row ps)) (sym (not-there row now (same row.key ∙ e)))
        ∙ rest)
rows-put n first now (Remove key ∷ es) same = rows-put n first now es same

rows-cut : (n : ℕ) (es : List Edit) (now : List Placed) → rows_changed (cuts n es) (map kept_row now) ≡ map kept_row (all_removed es now)
rows-cut n [] now = refl
rows-cut n (Replace row ∷ es) now = rows-cut n es now
rows-cut n (Remove key ∷ es) now = ap (rows_changed (cuts n es)) (cut-there key now) ∙ rows-cut n es (removed key now)

rows-edited : (n : ℕ) (es : List Edit) (ps : List Placed) → Distinct ps
    → rows_changed (puts n ps es ++ cuts n es) (map kept_row ps) ≡ map kept_row (edited es ps)
rows-edited n es ps distinct =
    rows-append (puts n ps es) (cuts n es) (map kept_row ps)
    ∙ ap (rows_changed (cuts n es)) (rows-put n ps ps es (λ key. refl)) ∙ rows-cut n es (all_replaced es ps)
    ∙ ap (map kept_row) (sym (edited-parts es ps distinct))

rows-for : (n place : ℕ) (es : List Edit) (added : Option Row) (ps : List Placed) → Distinct ps → has_added added ps ≡ false
    → rows_changed (changes_for n place ps es added) (map kept_row ps) ≡ map kept_row (edited es ps ++ added_at place added)
rows-for n place es None ps distinct none = rows-edited n es ps distinct ∙ ap (map kept_row) (sym (append-nil (edited es ps)))
rows-for n place es (Some row) ps distinct none =
    rows-append (puts n ps es ++ cuts n es) (put_of n place row ∷ []) (map kept_row ps)
    ∙ ap (rows_changed (put_of n place row ∷ [])) (rows-edited n es ps distinct)
    ∙ put-new (record { place = place; row = row }) (edited es ps) (key-edited row.key es ps none)

-- the keeper has what is kept of the changed table
pub kept-for : (t : Table) (place : ℕ) (es : List Edit) (added : Option Row) (ts : List Table) → numbered t.number ts ≡ Some t
    → Distinct t.rows → has_added added t.rows ≡ false
    → all_changed (changes_for t.number place t.rows es added) (kept_tables ts)
    ≡ kept_tables (put (record t { stamp = place; rows = edited es t.rows ++ added_at place added }) ts)
kept-for t place es added ts live distinct none =
    all-of t.number (changes_for t.number place t.rows es added) (kept_tables ts) (are-for t.number place t.rows es added)
    ∙ with-put t place (edited es t.rows ++ added_at place added) (rows_changed (changes_for t.number place t.rows es added)) ts live
    (rows-for t.number place es added t.rows distinct none)
