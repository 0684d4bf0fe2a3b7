-- What the keeper makes of changes, where it has what is kept of tables.
use Rattle.std.proofs.Common.{◌≡◌, ℕ, ◌==◌, Bool, true, false, ◌||◌, if◌then◌else◌, List, [], ◌∷◌, ◌++◌, map, Option, None, Some, Ok, refl, ap, sym, ◌∙◌, subst, arith}
use Rattle.std.proofs.lemmas.Bool.Decides.{nat_tests}
use Rattle.std.proofs.lemmas.List.{map-append}
use Rattle.std.proofs.lemmas.Slice.Eq.{bytes_eq-Decides}
use Rattle.std.specs.List.{list_any}
use Rattle.std.specs.Str.{bytes_eq}
use Rattle.outside.specs.declared.kept.KeptRow.{KeptRow}
use Rattle.outside.specs.declared.kept.KeptTable.{KeptTable}
use Rattle.outside.specs.declared.kept.Change.{Change}
use Rattle.outside.specs.declared.kept.Change.TheVariants.{Create, Drop, Put, Cut}
use Rattle.outside.specs.Changes.{with_first, put_row, cut_row, with_rows, changed, all_changed, Goes}
use Rattle.outside.specs.Changes as keeping
use Rattle.table_rows.specs.declared.row.Row.{Row}
use Rattle.table_rows.specs.declared.listed.Placed.{Placed}
use Rattle.table_rows.specs.Rows.{has_key, replaced, removed}
use Rattle.table_words.specs.Tables.{Table, Tables, numbered, put, without}
use Rattle.table_store.specs.Kept.{kept_row, kept_table, kept_tables, plain_text, plain_row, plain_table, plain_change, Tells}
use Rattle.table_store.proofs.Firsts.{any-first, map-without, map-with}

pub number-swaps : (a b : ℕ) → (a == b) ≡ (b == a)
number-swaps a b = grind (arith, nat_tests)

-- ---- rows

key-there : (key : List ℕ) (ps : List Placed) → list_any (keeping.has_key key) (map kept_row ps) ≡ has_key key ps
key-there key [] = refl
key-there key (p ∷ ps) = ap (λ b. bytes_eq key p.row.key || b) (key-there key ps)

-- a row of a new key goes last
pub put-new : (p : Placed) (ps : List Placed) → has_key p.row.key ps ≡ false
    → put_row (kept_row p) (map kept_row ps) ≡ map kept_row (ps ++ p ∷ [])
put-new p ps none = rw (key-there p.row.key ps, none) (sym (map-append kept_row ps (p ∷ [])))

over-there : (row : Row) (ps : List Placed)
    → with_first (keeping.has_key row.key) (λ (old : KeptRow). record old { text = row.text }) (map kept_row ps) ≡ map kept_row (replaced
    row ps)
over-there row [] = refl
over-there row (p ∷ ps) = cases (bytes_eq row.key p.row.key) refl (over-there row ps)
  where
    cases : (b : Bool) → bytes_eq row.key p.row.key ≡ b
        → with_first (keeping.has_key row.key) (λ (old : KeptRow). record old { text = row.text }) (map kept_row
        ps) ≡ map kept_row (replaced row ps)
        → with_first (keeping.has_key row.key) (λ (old : KeptRow). record old { text = row.text }) (map kept_row
        (p ∷ ps)) ≡ map kept_row (replaced row (p ∷ ps))
    cases true e rest =
        let same : row.key ≡ p.row.key = (bytes_eq-Decides row.key p.row.key).0 e in
        let head : record (kept_row p) { text = row.text }
        ≡ kept_row (record { place = p.place; row = row }) =
        ap (λ k. record { place = p.place; key = k; text = row.text }) (sym same) in
        rw e (ap (λ k. k ∷ map kept_row ps) head)
    cases false e rest = rw e (ap (λ rs. kept_row p ∷ rs) rest)

-- a row of a key that is there takes its place
pub put-there : (place : ℕ) (row : Row) (ps : List Placed) → has_key row.key ps ≡ true
    → put_row (record { place = place; key = row.key; text = row.text }) (map kept_row ps) ≡ map kept_row (replaced row ps)
put-there place row ps there = rw (key-there row.key ps, there) (over-there row ps)

pub cut-there : (key : List ℕ) (ps : List Placed) → cut_row key (map kept_row ps) ≡ map kept_row (removed key ps)
cut-there key [] = refl
cut-there key (p ∷ ps) = cases (bytes_eq key p.row.key) refl (cut-there key ps)
  where
    cases : (b : Bool) → bytes_eq key p.row.key ≡ b → cut_row key (map kept_row ps) ≡ map kept_row (removed key ps)
        → cut_row key (map kept_row (p ∷ ps)) ≡ map kept_row (removed key (p ∷ ps))
    cases true e rest = rw e refl
    cases false e rest = rw e (ap (λ rs. kept_row p ∷ rs) rest)

-- ---- tables

-- the rows of the table of that number are others
pub with-put : (t : Table) (stamp : ℕ) (rows : List Placed) (f : List KeptRow → List KeptRow) (ts : List Table)
    → numbered t.number ts ≡ Some t
    → f (map kept_row t.rows) ≡ map kept_row rows
    → with_rows t.number f (kept_tables ts) ≡ kept_tables (put (record t { stamp = stamp; rows = rows }) ts)
with-put t stamp rows f [] live is = refl
with-put t stamp rows f (v ∷ vs) live is = cases (t.number == v.number) refl (λ more. with-put t stamp rows f vs more is)
  where
    cases : (b : Bool) → (t.number == v.number) ≡ b
        → (numbered t.number vs ≡ Some t
        → with_rows t.number f (kept_tables vs) ≡ kept_tables (put (record t { stamp = stamp; rows = rows }) vs))
        → with_rows t.number f (kept_tables (v ∷ vs)) ≡ kept_tables (put (record t { stamp = stamp; rows = rows }) (v ∷ vs))
    cases true e rest =
        let here : Some v ≡ Some t = rw e at live in
        let same : v ≡ t = cc in
        let mine : f (map kept_row v.rows)
        ≡ map kept_row rows = subst (λ (x : Table). f (map kept_row x.rows) ≡ map kept_row rows) (sym same) is in
        rw (number-swaps v.number t.number, e)
        (λ i. record { number = (same i).number; space = (same i).space; rows = mine i } ∷ kept_tables vs)
    cases false e rest = rw (number-swaps v.number t.number, e) (ap (λ ks. kept_table v ∷ ks) (rest (rw e at live)))

pub drop-there : (n : ℕ) (ts : List Table) → keeping.without_first (keeping.has_number n) (kept_tables ts) ≡ kept_tables (without n ts)
drop-there n [] = refl
drop-there n (t ∷ ts) = cases (n == t.number) refl (drop-there n ts)
  where
    cases : (b : Bool) → (n == t.number) ≡ b → keeping.without_first (keeping.has_number n) (kept_tables ts) ≡ kept_tables (without n ts)
        → keeping.without_first (keeping.has_number n) (kept_tables (t ∷ ts)) ≡ kept_tables (without n (t ∷ ts))
    cases true e rest = rw (number-swaps t.number n, e) refl
    cases false e rest = rw (number-swaps t.number n, e) (ap (λ ks. kept_table t ∷ ks) rest)

pub create-there : (t : Table) (ts : List Table) → kept_tables ts ++ kept_table t ∷ [] ≡ kept_tables (ts ++ t ∷ [])
create-there t ts = sym (map-append kept_table ts (t ∷ []))

-- ---- texts written anew

plain-put : (row : KeptRow) (rows : List KeptRow) → map plain_row (put_row row rows) ≡ put_row (plain_row row) (map plain_row rows)
plain-put row rows = cases (list_any (keeping.has_key row.key) rows) refl
  where
    any : list_any (keeping.has_key row.key) (map plain_row rows) ≡ list_any (keeping.has_key row.key) rows
    any = any-first plain_row (keeping.has_key row.key) (keeping.has_key row.key) (λ r. refl) rows

    cases : (b : Bool) → list_any (keeping.has_key row.key) rows ≡ b
        → map plain_row (put_row row rows) ≡ put_row (plain_row row) (map plain_row rows)
    cases true e = rw (any, e) (map-with plain_row (keeping.has_key row.key) (keeping.has_key row.key) (λ r. refl)
        (λ (old : KeptRow). record old { text = row.text }) (λ (old : KeptRow). record old { text = plain_text row.text }) (λ r. refl) rows)
    cases false e = rw (any, e) (map-append plain_row rows (row ∷ []))

plain-cut : (key : List ℕ) (rows : List KeptRow) → map plain_row (cut_row key rows) ≡ cut_row key (map plain_row rows)
plain-cut key rows = map-without plain_row (keeping.has_key key) (keeping.has_key key) (λ r. refl) rows

plain-rows : (n : ℕ) (f g : List KeptRow → List KeptRow) → ((rows : List KeptRow) → map plain_row (f rows) ≡ g (map plain_row rows))
    → (ts : List KeptTable)
    → map plain_table (with_rows n f ts) ≡ with_rows n g (map plain_table ts)
plain-rows n f g goes ts = map-with plain_table (keeping.has_number n) (keeping.has_number n) (λ t. refl)
    (λ (t : KeptTable). record t { rows = f t.rows }) (λ (t : KeptTable). record t { rows = g t.rows })
    (λ t. ap (λ rows. record { number = t.number; space = t.space; rows = rows }) (goes t.rows)) ts

plain-changed : (c : Change) (ts : List KeptTable) → map plain_table (changed c ts) ≡ changed (plain_change c) (map plain_table ts)
plain-changed (Create n space) ts = map-append plain_table ts (record { number = n; space = space; rows = [] } ∷ [])
plain-changed (Drop n) ts = map-without plain_table (keeping.has_number n) (keeping.has_number n) (λ t. refl) ts
plain-changed (Put n place key text) ts =
    plain-rows n (put_row (record { place = place; key = key; text = text }))
    (put_row (record { place = place; key = key; text = plain_text text }))
    (plain-put (record { place = place; key = key; text = text })) ts
plain-changed (Cut n key) ts = plain-rows n (cut_row key) (cut_row key) (plain-cut key) ts

plain-all : (cs : List Change) (ts : List KeptTable)
    → map plain_table (all_changed cs ts) ≡ all_changed (map plain_change cs) (map plain_table ts)
plain-all [] ts = refl
plain-all (c ∷ cs) ts = plain-all cs (changed c ts) ∙ ap (all_changed (map plain_change cs)) (plain-changed c ts)

-- what is told after changes that the keeper made, whose texts are written plainly
pub told-changed : (old new : Option (List KeptTable)) (changes : List Change) (made : Unit {0}) (s t : Tables)
    → Goes old new changes (Ok made) → Tells old s
    → map plain_change changes ≡ changes → all_changed changes (kept_tables s.live) ≡ kept_tables t.live → Tells new t
told-changed None new changes made s t goes told plain is = subst (λ o. Tells o t) (sym goes) tt
told-changed (Some old) None changes made s t goes told plain is = tt
told-changed (Some old) (Some new) changes made s t goes told plain is =
    ap (map plain_table) goes ∙ plain-all changes old ∙ ap (λ cs. all_changed cs (map plain_table old)) plain
    ∙ ap (all_changed changes) told ∙ is
