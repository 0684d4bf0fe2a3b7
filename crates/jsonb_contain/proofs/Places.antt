-- Where a name belongs among names that rise.
use Rattle.std.proofs.Common.{◌≡◌, ◌∙◌, ◌≤◌, ◌&&◌, ℕ, zero, suc, Bool, true, false, None, Some, List, [], ◌∷◌, ◌++◌, length, refl, sym, ap, arith, append_assoc, append-nil}
use Rattle.std.specs.Prelude.{if◌then◌else◌, slice_get, slice_set}
use Rattle.std.specs.List.{insert}
use Rattle.std.specs.List.Sorted.{IsPartitionedBy, IsPartitionPoint}
use Rattle.std.proofs.lemmas.Bool.{and_parts}
use Rattle.std.specs.Str.{bytes_eq}
use Rattle.std.specs.declared.cmp.Ordering.{Ordering}
use Rattle.std.specs.declared.cmp.Ordering.TheVariants.{Less, Equal, Greater}
use Rattle.std.specs.Ordering.{nat_cmp, is_lt, is_eq, is_gt, ordering_reverse, match_ordering}
use Rattle.std.specs.Cmp.Lexicographic.{slice_cmp}
use Rattle.std.proofs.lemmas.Cmp.{nat_list_cmp_total}
use Rattle.std.proofs.lemmas.Map.Text.{is_eq-slice_cmp}
use Rattle.bson_values.specs.declared.pairs.Pair.{Pair}
use Rattle.bson_values.specs.Names.{names}
use Rattle.jsonb_contain.specs.Rising.{is_below, is_rising, place_of, has_name, put, put_all, value_at, value_if}

abbrev pub Order : List ℕ → List ℕ → Ordering
Order one other = slice_cmp nat_cmp one other

turned_below : (o : Ordering) → is_lt (ordering_reverse o) ≡ is_gt o
turned_below Less = refl
turned_below Equal = refl
turned_below Greater = refl

turned_equal : (o : Ordering) → is_eq (ordering_reverse o) ≡ is_eq o
turned_equal Less = refl
turned_equal Equal = refl
turned_equal Greater = refl

-- the two ways round
pub below_by : (one other : List ℕ) → is_below other one ≡ is_gt (Order one other)
below_by one other = ap is_lt (nat_list_cmp_total.antisymm other one) ∙ turned_below (Order one other)

equal_by : (one other : List ℕ) → bytes_eq other one ≡ is_eq (Order one other)
equal_by one other = sym (is_eq-slice_cmp other one) ∙ ap is_eq (nat_list_cmp_total.antisymm other one) ∙ turned_equal (Order one other)

module _ {V : Type 0} (name : List ℕ) (value : V) where
  new : Pair V
  new = record { name = name; value = value }

  -- the pairs with the new one at the place, or in the place of the one there
  abbrev changed : Bool → List (Pair V) → ℕ → List (Pair V)
  changed there pairs place =
      if there then slice_set pairs place (record { name = name; value = value }) else insert pairs place
      (record { name = name; value = value })

  passed : (there : Bool) (pair : Pair V) (pairs : List (Pair V)) (place : ℕ)
      → pair ∷ changed there pairs place ≡ changed there (pair ∷ pairs) (suc place)
  passed true pair pairs place = refl
  passed false pair pairs place = refl

  step : (o : Ordering) (before same : Bool) (pair : Pair V) (pairs : List (Pair V)) → before ≡ is_gt o → bytes_eq pair.name name ≡ is_eq o
      → put name value pairs ≡ changed (has_name name (slice_get pairs (place_of name pairs))) pairs (place_of name pairs)
      → match_ordering o ((record { name = name; value = value }) ∷ pair ∷ pairs) ((record { name = name; value = value }) ∷ pairs)
      (pair ∷ put name value pairs)
      ≡ changed (has_name name (slice_get (pair ∷ pairs) (if before then suc (place_of name pairs) else 0))) (pair ∷ pairs)
      (if before then suc (place_of name pairs) else 0)
  step Less before same pair pairs is eq rest = rw (is, eq) refl
  step Equal before same pair pairs is eq rest = rw (is, eq) refl
  step Greater before same pair pairs is eq rest =
      rw is (ap (λ (more : List (Pair V)). pair ∷ more) rest
      ∙ passed (has_name name (slice_get pairs (place_of name pairs))) pair pairs (place_of name pairs))

  -- what `put` gives
  put_is : (pairs : List (Pair V))
      → put name value pairs ≡ changed (has_name name (slice_get pairs (place_of name pairs))) pairs (place_of name pairs)
  put_is [] = refl
  put_is (pair ∷ pairs) =
      step (Order name pair.name) (is_below pair.name name) true pair pairs (below_by name pair.name) (equal_by name pair.name)
      (put_is pairs)

  pub replaced : (pairs : List (Pair V)) → has_name name (slice_get pairs (place_of name pairs)) ≡ true
      → slice_set pairs (place_of name pairs) (record { name = name; value = value }) ≡ put name value pairs
  replaced pairs there = sym (put_is pairs ∙ ap (λ (b : Bool). changed b pairs (place_of name pairs)) there)

  pub inserted : (pairs : List (Pair V)) → has_name name (slice_get pairs (place_of name pairs)) ≡ false
      → insert pairs (place_of name pairs) (record { name = name; value = value }) ≡ put name value pairs
  inserted pairs absent = sym (put_is pairs ∙ ap (λ (b : Bool). changed b pairs (place_of name pairs)) absent)

-- ---- a look-up

found_by : {V : Type 0} (o : Ordering) (before : Bool) (name : List ℕ) (pair : Pair V) (pairs : List (Pair V)) → before ≡ is_gt o
    → bytes_eq pair.name name ≡ is_eq o
    → value_if name (slice_get pairs (place_of name pairs)) ≡ value_at name pairs
    → value_if name (slice_get (pair ∷ pairs) (if before then suc (place_of name pairs) else 0)) ≡ match_ordering o None
    (Some pair.value) (value_at name pairs)
found_by Less before name pair pairs is eq rest = rw (is, eq) refl
found_by Equal before name pair pairs is eq rest = rw (is, eq) refl
found_by Greater before name pair pairs is eq rest = rw is rest

-- what stands at the place of a name, where it has that name
pub found : {V : Type 0} (name : List ℕ) (pairs : List (Pair V))
    → value_if name (slice_get pairs (place_of name pairs)) ≡ value_at name pairs
found name [] = refl
found name (pair ∷ pairs) =
    found_by (Order name pair.name) (is_below pair.name name) name pair pairs (below_by name pair.name) (equal_by name pair.name)
    (found name pairs)

-- ---- the search

pub less_from : (o : Ordering) → is_lt o ≡ true → o ≡ Less
less_from Less is = refl
less_from Equal is = absurd cc
less_from Greater is = absurd cc

-- a name is above those that are below it
pub above_from : (one other : List ℕ) → is_below one other ≡ true → slice_cmp nat_cmp other one ≡ Greater
above_from one other below = nat_list_cmp_total.antisymm other one ∙ ap ordering_reverse (less_from (Order one other) below)

pub below_trans : (one other third : List ℕ) → is_below one other ≡ true → is_below other third ≡ true → is_below one third ≡ true
below_trans one other third first second =
    ap is_lt (nat_list_cmp_total.trans one other third (less_from (Order one other) first) (less_from (Order other third) second))

pub rising_tail : {V : Type 0} (pair : Pair V) (pairs : List (Pair V)) → is_rising (names (pair ∷ pairs)) ≡ true
    → is_rising (names pairs) ≡ true
rising_tail pair [] rising = refl
rising_tail pair (next ∷ pairs) rising = (and_parts (is_below pair.name next.name) (is_rising (names (next ∷ pairs))) rising).1

-- no pair whose name is below stands behind one whose name is not
pub parted : {V : Type 0} (name : List ℕ) (pairs : List (Pair V)) → is_rising (names pairs) ≡ true
    → IsPartitionedBy (λ (pair : Pair V). is_below pair.name name) pairs
parted name [] rising i j d le lt below = absurd (omega arith)
parted name (pair ∷ pairs) rising zero zero d le lt below = below
parted name (pair ∷ []) rising zero (suc j) d le lt below = absurd (omega arith)
parted name (pair ∷ (next ∷ pairs)) rising zero (suc j) d le lt below =
    let parts = and_parts (is_below pair.name next.name) (is_rising (names (next ∷ pairs))) rising in
    below_trans pair.name next.name name parts.0 (parted name (next ∷ pairs) parts.1 zero j d (omega arith) (omega arith) below)
parted name (pair ∷ pairs) rising (suc i) zero d le lt below = absurd (omega arith)
parted name (pair ∷ pairs) rising (suc i) (suc j) d le lt below =
    parted name pairs (rising_tail pair pairs rising) i j d (omega arith) (omega arith) below

-- the place is where the names stop being below
pub place_from : {V : Type 0} (name : List ℕ) (pairs : List (Pair V)) (place : ℕ) → place ≤ length pairs
    → IsPartitionPoint (λ (pair : Pair V). is_below pair.name name ≡ true)
    (λ (pair : Pair V). is_below pair.name name ≡ false) pairs place → place ≡ place_of name pairs
place_from name [] place within point = omega arith
place_from name (pair ∷ pairs) zero within point = let not_below = point.1 0 pair (omega arith) (omega arith) in rw not_below refl
place_from name (pair ∷ pairs) (suc place) within point =
    let below = point.0 0 pair (omega arith) (omega arith) in
    rw below (ap (λ (n : ℕ). suc n) (place_from name pairs place (omega arith) (
      λ k d low high. point.0 (suc k) d (omega arith) (omega arith),
      λ k d low high. point.1 (suc k) d (omega arith) (omega arith),
    )))

-- ---- names still rise

module _ {V : Type 0} (name : List ℕ) (value : V) where
  abbrev added : Pair V
  added = record { name = name; value = value }

  -- what `put` gives, by how the name and the first one compare
  abbrev by_first : Ordering → Pair V → List (Pair V) → List (Pair V)
  by_first o pair pairs = match_ordering o (added ∷ pair ∷ pairs) (added ∷ pairs) (pair ∷ put name value pairs)

  both : (a b : Bool) → a ≡ true → b ≡ true → (a && b) ≡ true
  both a b first second = rw (first, second) refl

  -- a name below both the new one and the first one is below the first one afterwards
  led_by : (o : Ordering) (one : List ℕ) (pair : Pair V) (pairs : List (Pair V)) → is_below one name ≡ true → is_below one pair.name ≡ true
      → is_rising (names (by_first o pair pairs)) ≡ true → is_rising (one ∷ names (by_first o pair pairs)) ≡ true
  led_by Less one pair pairs below first rising = both (is_below one name) _ below rising
  led_by Equal one pair pairs below first rising = both (is_below one name) _ below rising
  led_by Greater one pair pairs below first rising = both (is_below one pair.name) _ first rising

  led : (one : List ℕ) (pairs : List (Pair V)) → is_below one name ≡ true → is_rising (one ∷ names pairs) ≡ true
      → is_rising (names (put name value pairs)) ≡ true → is_rising (one ∷ names (put name value pairs)) ≡ true
  led one [] below rising more = both (is_below one name) true below refl
  led one (pair ∷ pairs) below rising more =
      led_by (Order name pair.name) one pair pairs below
      (and_parts (is_below one pair.name) (is_rising (names (pair ∷ pairs))) rising).0 more

  -- a name that compares equal may stand in the place of another
  swapped : (one : List ℕ) (pairs : List (Pair V)) → Equal ≡ Order name one → is_rising (one ∷ names pairs) ≡ true
      → is_rising (name ∷ names pairs) ≡ true
  swapped one [] equal rising = refl
  swapped one (pair ∷ pairs) equal rising =
      let parts = and_parts (is_below one pair.name) (is_rising (names (pair ∷ pairs))) rising in
      both (is_below name pair.name) _ (ap is_lt (nat_list_cmp_total.congr name one pair.name (sym equal)) ∙ parts.0) parts.1

  rises_by : (o : Ordering) (pair : Pair V) (pairs : List (Pair V)) → o ≡ Order name pair.name → is_rising (names (pair ∷ pairs)) ≡ true
      → is_rising (names (put name value pairs)) ≡ true → is_rising (names (by_first o pair pairs)) ≡ true
  rises_by Less pair pairs is rising more = both (is_below name pair.name) _ (ap is_lt (sym is)) rising
  rises_by Equal pair pairs is rising more = swapped pair.name pairs is rising
  rises_by Greater pair pairs is rising more = led pair.name pairs (below_by name pair.name ∙ ap is_gt (sym is)) rising more

  pub put_rises : (pairs : List (Pair V)) → is_rising (names pairs) ≡ true → is_rising (names (put name value pairs)) ≡ true
  put_rises [] rising = refl
  put_rises (pair ∷ pairs) rising = rises_by (Order name pair.name) pair pairs refl rising (put_rises pairs (rising_tail pair pairs rising))

-- ---- pairs whose names rise are put in one behind another

-- a name that leads rising names is below each of them
pub leads_below : {V : Type 0} (one : List ℕ) (pairs : List (Pair V)) (last : Pair V) (more : List (Pair V))
    → is_rising (one ∷ names (pairs ++ last ∷ more)) ≡ true → is_below one last.name ≡ true
leads_below one [] last more rising = (and_parts (is_below one last.name) (is_rising (names (last ∷ more))) rising).0
leads_below one (pair ∷ pairs) last more rising =
    let parts = and_parts (is_below one pair.name) (is_rising (names (pair ∷ (pairs ++ last ∷ more)))) rising in
    below_trans one pair.name last.name parts.0 (leads_below pair.name pairs last more parts.1)

put_last : {V : Type 0} (done : List (Pair V)) (last : Pair V) (more : List (Pair V)) → is_rising (names (done ++ last ∷ more)) ≡ true
    → put last.name last.value done ≡ done ++ last ∷ []
put_last [] last more rising = refl
put_last (first ∷ done) last more rising =
    let above : slice_cmp nat_cmp last.name first.name ≡ Greater = above_from first.name last.name
    (leads_below first.name done last more rising) in
    rw above (ap (λ (rest : List (Pair _)). first ∷ rest) (put_last done last more (rising_tail first (done ++ last ∷ more) rising)))

put_in_order : {V : Type 0} (done pairs : List (Pair V)) → is_rising (names (done ++ pairs)) ≡ true → put_all done pairs ≡ done ++ pairs
put_in_order done [] rising = sym (append-nil done)
put_in_order done (pair ∷ pairs) rising =
    let grouped = append_assoc done (pair ∷ []) pairs in
    ap (λ so_far. put_all so_far pairs) (put_last done pair pairs rising)
    ∙ put_in_order (done ++ pair ∷ []) pairs (ap (λ all. is_rising (names all)) grouped ∙ rising) ∙ grouped

-- rising pairs, put in one after another, are what they were
pub risen_put : {V : Type 0} (pairs : List (Pair V)) → is_rising (names pairs) ≡ true → put_all [] pairs ≡ pairs
risen_put pairs rising = put_in_order [] pairs rising
