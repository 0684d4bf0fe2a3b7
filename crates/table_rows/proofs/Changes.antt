-- What changes of rows leave: which keys are there, that places rise, that keys differ.
use Rattle.std.proofs.Common.{◌≡◌, ◌∙◌, ◌≤◌, ◌&&◌, ◌||◌, not, ℕ, Bool, true, false, List, [], ◌∷◌, ◌++◌, refl, sym, ap, subst, arith}
use Rattle.std.specs.Prelude.{if◌then◌else◌, nat_lt}
use Rattle.std.specs.Str.{bytes_eq}
use Rattle.std.proofs.lemmas.Bool.{lt-ltb, ltb-true}
use Rattle.std_words.proofs.Tests.{and-both, or-groups, or-not-first, or-not-second, or-neither}
use Rattle.keyed_rows.proofs.Edits.{and-made, false-not, itself, not-false, same, swapped}
use Rattle.table_rows.specs.declared.listed.Placed.{Placed}
use Rattle.table_rows.specs.declared.row.Row.{Row}
use Rattle.table_rows.specs.Rows.{above, below, has_key, keys_differ, places_rise, removed, replaced}

-- a row in the place of another
abbrev over : Placed → Row → Placed
over placed row = record placed { row = row }

-- ---- a row more, last

pub has_last : (key : List ℕ) (placed : Placed) (rows : List Placed)
    → has_key key (rows ++ placed ∷ []) ≡ (has_key key rows || bytes_eq key placed.row.key)
has_last key placed [] = cases (bytes_eq key placed.row.key)
  where
    cases : (here : Bool) → (here || false) ≡ here
    cases true = refl
    cases false = refl
has_last key placed (first ∷ rows) =
    ap (λ more. bytes_eq key first.row.key || more) (has_last key placed rows)
    ∙ sym (or-groups (bytes_eq key first.row.key) (has_key key rows) (bytes_eq key placed.row.key))

pub absent_last : (key : List ℕ) (placed : Placed) (rows : List Placed) → has_key key rows ≡ false → bytes_eq key placed.row.key ≡ false
    → has_key key (rows ++ placed ∷ []) ≡ false
absent_last key placed rows absent apart = has_last key placed rows ∙ or-neither _ _ absent apart

-- what was added is taken out again
pub removed_last : (placed : Placed) (rows : List Placed) → has_key placed.row.key rows ≡ false
    → removed placed.row.key (rows ++ placed ∷ []) ≡ rows
removed_last placed [] absent = rw (itself placed.row.key) refl
removed_last placed (first ∷ rows) absent =
    let apart : bytes_eq placed.row.key first.row.key ≡ false =
    or-not-first (bytes_eq placed.row.key first.row.key) (has_key placed.row.key rows) absent in
    rw apart (ap (λ more. first ∷ more)
    (removed_last placed rows (or-not-second (bytes_eq placed.row.key first.row.key) (has_key placed.row.key rows) absent)))

pub above_last : (place : ℕ) (placed : Placed) (rows : List Placed) → above place rows ≡ true → nat_lt placed.place place ≡ true
    → above place (rows ++ placed ∷ []) ≡ true
above_last place placed [] far last = and-made _ _ last refl
above_last place placed (first ∷ rows) far last =
    let both = and-both (nat_lt first.place place) (above place rows) far in
    and-made _ _ both.0 (above_last place placed rows both.1 last)

below_last : (place : ℕ) (placed : Placed) (rows : List Placed) → below place rows ≡ true → nat_lt place placed.place ≡ true
    → below place (rows ++ placed ∷ []) ≡ true
below_last place placed [] less last = and-made _ _ last refl
below_last place placed (first ∷ rows) less last =
    let both = and-both (nat_lt place first.place) (below place rows) less in
    and-made _ _ both.0 (below_last place placed rows both.1 last)

pub rise_last : (placed : Placed) (rows : List Placed) → above placed.place rows ≡ true → places_rise rows ≡ true
    → places_rise (rows ++ placed ∷ []) ≡ true
rise_last placed [] far rise = refl
rise_last placed (first ∷ rows) far rise =
    let one = and-both (nat_lt first.place placed.place) (above placed.place rows) far in
    let two = and-both (below first.place rows) (places_rise rows) rise in
    and-made _ _ (below_last first.place placed rows two.0 one.0) (rise_last placed rows one.1 two.1)

pub differ_last : (placed : Placed) (rows : List Placed) → has_key placed.row.key rows ≡ false → keys_differ rows ≡ true
    → keys_differ (rows ++ placed ∷ []) ≡ true
differ_last placed [] absent differ = refl
differ_last placed (first ∷ rows) absent differ =
    let both = and-both (not (has_key first.row.key rows)) (keys_differ rows) differ in
    let apart : bytes_eq first.row.key placed.row.key ≡ false = swapped first.row.key placed.row.key
    ∙ or-not-first (bytes_eq placed.row.key first.row.key) (has_key placed.row.key rows) absent in
    and-made _ _
    (false-not _ (absent_last first.row.key placed rows (not-false (has_key first.row.key rows) both.0) apart))
    (differ_last placed rows (or-not-second (bytes_eq placed.row.key first.row.key) (has_key placed.row.key rows) absent) both.1)

-- ---- a later place

pub above_later : (place later : ℕ) (rows : List Placed) → place ≤ later → above place rows ≡ true → above later rows ≡ true
above_later place later [] le far = refl
above_later place later (first ∷ rows) le far =
    let both = and-both (nat_lt first.place place) (above place rows) far in
    let less = ltb-true first.place place both.0 in
    and-made _ _ (lt-ltb first.place later (omega arith)) (above_later place later rows le both.1)

-- ---- another row at its key

pub has_replaced : (key : List ℕ) (row : Row) (rows : List Placed) → has_key key (replaced row rows) ≡ has_key key rows
has_replaced key row [] = refl
has_replaced key row (first ∷ rows) = cases (bytes_eq row.key first.row.key) refl (has_replaced key row rows)
  where
    cases : (here : Bool) → bytes_eq row.key first.row.key ≡ here → has_key key (replaced row rows) ≡ has_key key rows
        → has_key key (if here then over first row ∷ rows else first ∷ replaced row rows) ≡ (bytes_eq key first.row.key || has_key key rows)
    cases true is rest = ap (λ bytes. bytes_eq key bytes || has_key key rows) (same row.key first.row.key is)
    cases false is rest = ap (λ more. bytes_eq key first.row.key || more) rest

-- where there is none, nothing is replaced
pub replaced_none : (row : Row) (rows : List Placed) → has_key row.key rows ≡ false → replaced row rows ≡ rows
replaced_none row [] absent = refl
replaced_none row (first ∷ rows) absent =
    let apart : bytes_eq row.key first.row.key ≡ false = or-not-first (bytes_eq row.key first.row.key) (has_key row.key rows) absent in
    rw apart (ap (λ more. first ∷ more)
    (replaced_none row rows (or-not-second (bytes_eq row.key first.row.key) (has_key row.key rows) absent)))

pub above_replaced : (place : ℕ) (row : Row) (rows : List Placed) → above place (replaced row rows) ≡ above place rows
above_replaced place row [] = refl
above_replaced place row (first ∷ rows) = cases (bytes_eq row.key first.row.key) (above_replaced place row rows)
  where
    cases : (here : Bool) → above place (replaced row rows) ≡ above place rows
        → above place (if here then over first row ∷ rows else first ∷ replaced row rows) ≡ (nat_lt first.place place && above place rows)
    cases true rest = refl
    cases false rest = ap (λ more. nat_lt first.place place && more) rest

below_replaced : (place : ℕ) (row : Row) (rows : List Placed) → below place (replaced row rows) ≡ below place rows
below_replaced place row [] = refl
below_replaced place row (first ∷ rows) = cases (bytes_eq row.key first.row.key) (below_replaced place row rows)
  where
    cases : (here : Bool) → below place (replaced row rows) ≡ below place rows
        → below place (if here then over first row ∷ rows else first ∷ replaced row rows) ≡ (nat_lt place first.place && below place rows)
    cases true rest = refl
    cases false rest = ap (λ more. nat_lt place first.place && more) rest

pub rise_replaced : (row : Row) (rows : List Placed) → places_rise (replaced row rows) ≡ places_rise rows
rise_replaced row [] = refl
rise_replaced row (first ∷ rows) =
    cases (bytes_eq row.key first.row.key) (below_replaced first.place row rows) (rise_replaced row rows)
  where
    cases : (here : Bool) → below first.place (replaced row rows) ≡ below first.place rows
        → places_rise (replaced row rows) ≡ places_rise rows
        → places_rise (if here then over first row ∷ rows else first ∷ replaced row rows) ≡ (below first.place rows && places_rise rows)
    cases true one rest = refl
    cases false one rest = rw (one, rest) refl

pub differ_replaced : (row : Row) (rows : List Placed) → keys_differ (replaced row rows) ≡ keys_differ rows
differ_replaced row [] = refl
differ_replaced row (first ∷ rows) =
    cases (bytes_eq row.key first.row.key) refl (has_replaced first.row.key row rows) (differ_replaced row rows)
  where
    cases : (here : Bool) → bytes_eq row.key first.row.key ≡ here → has_key first.row.key (replaced row rows) ≡ has_key first.row.key rows
        → keys_differ (replaced row rows) ≡ keys_differ rows
        → keys_differ (if here then over first row ∷ rows else first ∷ replaced row rows)
        ≡ (not (has_key first.row.key rows) && keys_differ rows)
    cases true is one rest = ap (λ bytes. not (has_key bytes rows) && keys_differ rows) (same row.key first.row.key is)
    cases false is one rest = rw (one, rest) refl

-- ---- a row less

-- a key that is not there is not there then
pub absent_removed : (key gone : List ℕ) (rows : List Placed) → has_key key rows ≡ false → has_key key (removed gone rows) ≡ false
absent_removed key gone [] absent = refl
absent_removed key gone (first ∷ rows) absent =
    let one = or-not-first (bytes_eq key first.row.key) (has_key key rows) absent in
    let all = or-not-second (bytes_eq key first.row.key) (has_key key rows) absent in
    cases (bytes_eq gone first.row.key) one all (absent_removed key gone rows all)
  where
    cases : (here : Bool) → bytes_eq key first.row.key ≡ false → has_key key rows ≡ false → has_key key (removed gone rows) ≡ false
        → has_key key (if here then rows else first ∷ removed gone rows) ≡ false
    cases true one all rest = all
    cases false one all rest = or-neither _ _ one rest

-- nor is the key itself
pub has_removed : (key : List ℕ) (rows : List Placed) → keys_differ rows ≡ true → has_key key (removed key rows) ≡ false
has_removed key [] differ = refl
has_removed key (first ∷ rows) differ =
    let both = and-both (not (has_key first.row.key rows)) (keys_differ rows) differ in
    cases (bytes_eq key first.row.key) refl (not-false (has_key first.row.key rows) both.0) (has_removed key rows both.1)
  where
    cases : (here : Bool) → bytes_eq key first.row.key ≡ here → has_key first.row.key rows ≡ false → has_key key (removed key rows) ≡ false
        → has_key key (if here then rows else first ∷ removed key rows) ≡ false
    cases true is absent rest = subst (λ bytes. has_key bytes rows ≡ false) (sym (same key first.row.key is)) absent
    cases false is absent rest = or-neither _ _ is rest

-- other keys are there as before
pub has_others : (key gone : List ℕ) (rows : List Placed) → bytes_eq key gone ≡ false → has_key key (removed gone rows) ≡ has_key key rows
has_others key gone [] apart = refl
has_others key gone (first ∷ rows) apart = cases (bytes_eq gone first.row.key) refl (has_others key gone rows apart)
  where
    cases : (here : Bool) → bytes_eq gone first.row.key ≡ here → has_key key (removed gone rows) ≡ has_key key rows
        → has_key key (if here then rows else first ∷ removed gone rows) ≡ (bytes_eq key first.row.key || has_key key rows)
    cases true is rest =
        let away : bytes_eq key first.row.key ≡ false = subst (λ bytes. bytes_eq key bytes ≡ false) (same gone first.row.key is) apart in
        rw away refl
    cases false is rest = ap (λ more. bytes_eq key first.row.key || more) rest

-- where there is none, nothing is taken out
pub removed_none : (key : List ℕ) (rows : List Placed) → has_key key rows ≡ false → removed key rows ≡ rows
removed_none key [] absent = refl
removed_none key (first ∷ rows) absent =
    let apart : bytes_eq key first.row.key ≡ false = or-not-first (bytes_eq key first.row.key) (has_key key rows) absent in
    rw apart (ap (λ more. first ∷ more) (removed_none key rows (or-not-second (bytes_eq key first.row.key) (has_key key rows) absent)))

pub above_removed : (place : ℕ) (key : List ℕ) (rows : List Placed) → above place rows ≡ true → above place (removed key rows) ≡ true
above_removed place key [] far = refl
above_removed place key (first ∷ rows) far =
    let both = and-both (nat_lt first.place place) (above place rows) far in
    cases (bytes_eq key first.row.key) both.0 both.1 (above_removed place key rows both.1)
  where
    cases : (here : Bool) → nat_lt first.place place ≡ true → above place rows ≡ true → above place (removed key rows) ≡ true
        → above place (if here then rows else first ∷ removed key rows) ≡ true
    cases true one all rest = all
    cases false one all rest = and-made _ _ one rest

below_removed : (place : ℕ) (key : List ℕ) (rows : List Placed) → below place rows ≡ true → below place (removed key rows) ≡ true
below_removed place key [] less = refl
below_removed place key (first ∷ rows) less =
    let both = and-both (nat_lt place first.place) (below place rows) less in
    cases (bytes_eq key first.row.key) both.0 both.1 (below_removed place key rows both.1)
  where
    cases : (here : Bool) → nat_lt place first.place ≡ true → below place rows ≡ true → below place (removed key rows) ≡ true
        → below place (if here then rows else first ∷ removed key rows) ≡ true
    cases true one all rest = all
    cases false one all rest = and-made _ _ one rest

pub rise_removed : (key : List ℕ) (rows : List Placed) → places_rise rows ≡ true → places_rise (removed key rows) ≡ true
rise_removed key [] rise = refl
rise_removed key (first ∷ rows) rise =
    let both = and-both (below first.place rows) (places_rise rows) rise in
    cases (bytes_eq key first.row.key) (below_removed first.place key rows both.0) both.1 (rise_removed key rows both.1)
  where
    cases : (here : Bool) → below first.place (removed key rows) ≡ true → places_rise rows ≡ true → places_rise (removed key rows) ≡ true
        → places_rise (if here then rows else first ∷ removed key rows) ≡ true
    cases true one all rest = all
    cases false one all rest = and-made _ _ one rest

pub differ_removed : (key : List ℕ) (rows : List Placed) → keys_differ rows ≡ true → keys_differ (removed key rows) ≡ true
differ_removed key [] differ = refl
differ_removed key (first ∷ rows) differ =
    let both = and-both (not (has_key first.row.key rows)) (keys_differ rows) differ in
    let apart = absent_removed first.row.key key rows (not-false (has_key first.row.key rows) both.0) in
    cases (bytes_eq key first.row.key) (false-not _ apart) both.1 (differ_removed key rows both.1)
  where
    cases : (here : Bool) → not (has_key first.row.key (removed key rows)) ≡ true → keys_differ rows ≡ true
        → keys_differ (removed key rows) ≡ true → keys_differ (if here then rows else first ∷ removed key rows) ≡ true
    cases true one all rest = all
    cases false one all rest = and-made _ _ one rest
