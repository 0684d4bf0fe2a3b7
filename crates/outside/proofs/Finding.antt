-- What an index tells of the places of rows.
use Rattle.std.proofs.Common.{◌≡◌, ℕ, zero, suc, ◌<◌, ◌≤◌, Bool, true, false, List, [], ◌∷◌, length, get_or, set, refl, ap, ◌∙◌, arith}
use Rattle.std.specs.Prelude.{None, Some, nat_lt}
use Rattle.std.specs.List.{list_any}
use Rattle.std.specs.List.Sorted.{IsPartitionPoint, IsPartitionedBy}
use Rattle.std.specs.Str.{bytes_eq}
use Rattle.std.proofs.Math.Seq.{map-set_same}
use Rattle.std.proofs.lemmas.Bool.{lt-ltb, ltb-false, ltb-true}
use Rattle.std_words.proofs.Tests.{and-both}
use Rattle.keyed_rows.specs.declared.entry.Entry.{Entry}
use Rattle.keyed_rows.specs.Entries.{below, found, places_rise, removed}
use Rattle.outside.specs.declared.kept.KeptRow.{KeptRow}
use Rattle.outside.specs.Changes.{has_key, without_first}
use Rattle.outside.specs.Rows.{entry_of, entries_of, IsFirst}

abbrev Known : Type 0
Known = Entry (Unit {0})

-- a place below all is below each
below_each : (place : ℕ) (rows : List KeptRow) → below place (entries_of rows) ≡ true → (k : ℕ) (d : KeptRow) → k < length rows
    → place < (get_or rows k d).place
below_each place [] low k d within = absurd (omega (arith, within))
below_each place (row ∷ rows) low zero d within = ltb-true _ _ (and-both _ _ low).0
below_each place (row ∷ rows) low (suc k) d within = below_each place rows (and-both _ _ low).1 k d (omega (arith, within))

rises : (rows : List KeptRow) → places_rise (entries_of rows) ≡ true → (i j : ℕ) (d : KeptRow) → i ≤ j → j < length rows
    → (get_or rows i d).place ≤ (get_or rows j d).place
rises [] rise i j d order within = absurd (omega (arith, within))
rises (row ∷ rows) rise zero zero d order within = omega arith
rises (row ∷ rows) rise zero (suc j) d order within =
    omega (arith, below_each row.place rows (and-both _ _ rise).0 j d (omega (arith, within)))
rises (row ∷ rows) rise (suc i) zero d order within = absurd (omega (arith, order))
rises (row ∷ rows) rise (suc i) (suc j) d order within =
    rises rows (and-both _ _ rise).1 i j d (omega (arith, order)) (omega (arith, within))

-- the rows below a place stand before the others
pub parted : (place : ℕ) (rows : List KeptRow) → places_rise (entries_of rows) ≡ true
    → IsPartitionedBy (λ (row : KeptRow). nat_lt row.place place) rows
parted place rows rise i j d order within low =
    lt-ltb _ _ (omega (arith, rises rows rise i j d order within, ltb-true _ _ low))

same_entry : (one other : Known) → Some one ≡ Some other → one.place ≡ other.place
same_entry one other is = cc

is_some : (entry : Known) → Some entry ≡ None → ⊥
is_some entry is = cc

-- what is found stands behind a place below all
found_behind : (key : List ℕ) (place : ℕ) (rows : List KeptRow) (entry : Known) → below place (entries_of rows) ≡ true
    → found key (entries_of rows) ≡ Some entry → place < entry.place
found_behind key place [] entry low is = absurd cc
found_behind key place (row ∷ rows) entry low is =
    cases (and-both (nat_lt place row.place) (below place (entries_of rows)) low) (bytes_eq key row.key) refl
    (found_behind key place rows entry)
  where
    cases : ((nat_lt place row.place) ≡ true) × (below place (entries_of rows) ≡ true) → (here : Bool) → bytes_eq key row.key ≡ here
        → (below place (entries_of rows) ≡ true → found key (entries_of rows) ≡ Some entry → place < entry.place) → place < entry.place
    cases lows true e later = omega (arith, ltb-true _ _ lows.0, same_entry (entry_of row) entry (rw e at is))
    cases lows false e later = later lows.1 (rw e at is)

abbrev Parts : ℕ → List KeptRow → ℕ → Type 0
Parts place rows i = IsPartitionPoint (λ (row : KeptRow). nat_lt row.place place ≡ true) (λ row. nat_lt row.place place ≡ false) rows i

-- the rows below its place are those before the row
pub stands_at : (key : List ℕ) (rows : List KeptRow) (entry : Known) (i : ℕ) → places_rise (entries_of rows) ≡ true
    → found key (entries_of rows) ≡ Some entry → Parts entry.place rows i → IsFirst (has_key key) rows i
stands_at key [] entry i rise is parts = absurd cc
stands_at key (row ∷ rows) entry zero rise is parts = cases (bytes_eq key row.key) refl
  where
    cases : (here : Bool) → bytes_eq key row.key ≡ here → IsFirst (has_key key) (row ∷ rows) zero
    cases true e = record { within = omega arith; passes = λ d. e; before = λ k d low. absurd (omega (arith, low)) }
    cases false e =
        let behind = found_behind key row.place rows entry (and-both _ _ rise).0 (rw e at is) in
        absurd (omega (arith, behind, ltb-false _ _ (parts.1 0 row (omega arith) (omega arith))))
stands_at key (row ∷ rows) entry (suc i) rise is parts = cases (bytes_eq key row.key) refl (stands_at key rows entry i)
  where
    cases : (here : Bool) → bytes_eq key row.key ≡ here
        → (places_rise (entries_of rows) ≡ true → found key (entries_of rows) ≡ Some entry → Parts entry.place rows i
        → IsFirst (has_key key) rows i)
        → IsFirst (has_key key) (row ∷ rows) (suc i)
    cases true e later =
        absurd (omega (arith, ltb-true _ _ (parts.0 0 row (omega arith) (omega arith)), same_entry (entry_of row) entry (rw e at is)))
    cases false e later =
        let rest = and-both (below row.place (entries_of rows)) (places_rise (entries_of rows)) rise in
        let it : IsFirst (has_key key) rows i = later rest.1 (rw e at is) (
          λ k d low high. parts.0 (suc k) d (omega arith) (omega (arith, high)),
          λ k d low high. parts.1 (suc k) d (omega (arith, low)) (omega (arith, high)),
        ) in
        record {
          within = omega (arith, it.within);
          passes = it.passes;
          before = λ k d low. elim k as (λ n. n < suc i → has_key key (get_or (row ∷ rows) n d) ≡ false)
              [ zero ↦ λ _. e | suc n ↦ λ below. it.before n d (omega (arith, below)) ] low;
        }

-- a key that is not found is that of no row
pub stands_nowhere : (key : List ℕ) (rows : List KeptRow) → found key (entries_of rows) ≡ None → list_any (has_key key) rows ≡ false
stands_nowhere key [] is = refl
stands_nowhere key (row ∷ rows) is = cases (bytes_eq key row.key) refl (stands_nowhere key rows)
  where
    cases : (here : Bool) → bytes_eq key row.key ≡ here → (found key (entries_of rows) ≡ None → list_any (has_key key) rows ≡ false)
        → list_any (has_key key) (row ∷ rows) ≡ false
    cases true e later = absurd (is_some (entry_of row) (rw e at is))
    cases false e later = rw e (later (rw e at is))

-- the entry of a row that is taken out is taken out
pub removed_entries : (key : List ℕ) (rows : List KeptRow) → removed key (entries_of rows) ≡ entries_of (without_first (has_key key) rows)
removed_entries key [] = refl
removed_entries key (row ∷ rows) = cases (bytes_eq key row.key) refl (removed_entries key rows)
  where
    cases : (here : Bool) → bytes_eq key row.key ≡ here → removed key (entries_of rows) ≡ entries_of (without_first (has_key key) rows)
        → removed key (entries_of (row ∷ rows)) ≡ entries_of (without_first (has_key key) (row ∷ rows))
    cases true e later = rw e refl
    cases false e later = rw e (ap (λ rest. entry_of row ∷ rest) later)

-- what is left of an index
pub left : (key : List ℕ) (rows : List KeptRow) (old new it : List Known) → old ≡ entries_of rows → new ≡ removed key old
    → Some new ≡ Some it → it ≡ entries_of (without_first (has_key key) rows)
left key rows old new it is without same =
    let one : it ≡ new = cc in
    one ∙ (without ∙ (ap (removed key) is ∙ removed_entries key rows))

-- another text is not seen in an index
pub other_text : (rows : List KeptRow) (place : ℕ) (old : KeptRow) (text : List ℕ) → old ≡ get_or rows place old
    → entries_of (set rows place (record old { text = text })) ≡ entries_of rows
other_text rows place old text there = map-set_same entry_of rows place (record old { text = text }) old (ap entry_of there)
