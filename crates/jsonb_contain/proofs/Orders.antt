-- Pairs may be put in by any order that leaves those of one name as they stand.
use Rattle.std.proofs.Common.{◌≡◌, ◌∙◌, ◌&&◌, ℕ, Bool, true, false, not, cond, Option, None, Some, List, [], ◌∷◌, length, refl, sym, ap, arith}
use Rattle.std.specs.Prelude.{unwrap_or}
use Rattle.std.specs.List.{filter}
use Rattle.std.specs.List.Sorted.{IsStableBy, ties}
use Rattle.std.specs.declared.cmp.Ordering.{Ordering}
use Rattle.std.specs.declared.cmp.Ordering.TheVariants.{Less, Equal, Greater}
use Rattle.std.specs.Ordering.{nat_cmp, is_lt, is_eq, is_gt, match_ordering, ordering_reverse}
use Rattle.std.specs.Cmp.Lexicographic.{slice_cmp}
use Rattle.std.proofs.lemmas.Bool.{and_parts}
use Rattle.std.proofs.lemmas.Cmp.{nat_list_cmp_total, tied_itself}
use Rattle.std.proofs.lemmas.Map.Lookups.{exact_bytes}
use Rattle.bson_values.specs.Names.{names}
use Rattle.bson_values.specs.declared.pairs.Pair.{Pair}
use Rattle.jsonb_contain.specs.Rising.{is_below, is_rising, put, put_all, value_at}
use Rattle.jsonb_contain.proofs.Places.{Order, below_by, less_from, put_rises, rising_tail}

-- ---- orders

itself : (name : List ℕ) → Order name name ≡ Equal
itself name = tied_itself nat_list_cmp_total name

lower : (one other : List ℕ) → Order one other ≡ Greater → Order other one ≡ Less
lower one other above = nat_list_cmp_total.antisymm other one ∙ ap ordering_reverse above

-- ---- a look-up behind a new value

-- what a look-up finds, by how its name and that of a new value compare
abbrev chosen : {V : Type 0} → Ordering → Option V → V → Option V
chosen o found value = match_ordering o found (Some value) found

module _ {V : Type 0} (first value : V) (rest : Option V) where
  -- the new pair is the first, before another
  before_first : (by_new by_first : Ordering) → (by_new ≡ Less → by_first ≡ Less)
      → match_ordering by_new None (Some value) (match_ordering by_first None (Some first) rest) ≡ chosen by_new
      (match_ordering by_first None (Some first) rest) value
  before_first Less by_first lower = rw (lower refl) refl
  before_first Equal by_first lower = refl
  before_first Greater by_first lower = refl

  -- it stands in the place of the first
  in_place : (by_new by_first : Ordering) → by_new ≡ by_first
      → match_ordering by_new None (Some value) rest ≡ chosen by_new (match_ordering by_first None (Some first) rest) value
  in_place Less by_first same = rw (sym same) refl
  in_place Equal by_first same = refl
  in_place Greater by_first same = rw (sym same) refl

  -- it stands behind the first
  behind_first : (by_new by_first : Ordering) (changed : Option V) → (by_first ≡ Less → by_new ≡ Less) → (by_first ≡ Equal → by_new ≡ Less)
      → changed ≡ chosen by_new rest value
      → match_ordering by_first None (Some first) changed ≡ chosen by_new (match_ordering by_first None (Some first) rest) value
  behind_first by_new Less changed lower at is = rw (lower refl) refl
  behind_first by_new Equal changed lower at is = rw (at refl) refl
  behind_first by_new Greater changed lower at is = is

module _ {V : Type 0} (looked name : List ℕ) (value : V) where
  abbrev new : Pair V
  new = record { name = name; value = value }

  step : (o : Ordering) (pair : Pair V) (pairs : List (Pair V)) → o ≡ Order name pair.name
      → value_at looked (put name value pairs) ≡ chosen (Order looked name) (value_at looked pairs) value
      → value_at looked
      (match_ordering o ((record { name = name; value = value }) ∷ pair ∷ pairs) ((record { name = name; value = value }) ∷ pairs)
      (pair ∷ put name value pairs))
      ≡ chosen (Order looked name) (value_at looked (pair ∷ pairs)) value
  step Less pair pairs is later =
      before_first pair.value value (value_at looked pairs) (Order looked name) (Order looked pair.name)
      (λ below. nat_list_cmp_total.trans looked name pair.name below (sym is))
  step Equal pair pairs is later =
      in_place pair.value value (value_at looked pairs) (Order looked name) (Order looked pair.name)
      (ap (Order looked) (exact_bytes name pair.name (sym is)))
  step Greater pair pairs is later =
      let above = lower name pair.name (sym is) in
      behind_first pair.value value (value_at looked pairs) (Order looked name) (Order looked pair.name)
      (value_at looked (put name value pairs))
      (λ below. nat_list_cmp_total.trans looked pair.name name below above)
      (λ same. ap (λ (one : List ℕ). Order one name) (exact_bytes looked pair.name same) ∙ above) later

  -- a new value is found at its name, and what was found at others
  pub value_at-put : (pairs : List (Pair V))
      → value_at looked (put name value pairs) ≡ match_ordering (slice_cmp nat_cmp looked name) (value_at looked pairs) (Some value)
      (value_at looked pairs)
  value_at-put [] = refl
  value_at-put (pair ∷ pairs) = step (Order name pair.name) pair pairs refl (value_at-put pairs)

-- ---- a look-up behind many

-- the last value of a name, or what was found before
abbrev pub last_at : {V : Type 0} → List ℕ → Option V → List (Pair V) → Option V
last_at name found [] = found
last_at name found (pair ∷ pairs) = last_at name (match_ordering (slice_cmp nat_cmp name pair.name) found (Some pair.value) found) pairs

pub looked_up : {V : Type 0} (name : List ℕ) (fields pairs : List (Pair V))
    → value_at name (put_all fields pairs) ≡ last_at name (value_at name fields) pairs
looked_up name fields [] = refl
looked_up name fields (pair ∷ pairs) =
    looked_up name (put pair.name pair.value fields) pairs
    ∙ ap (λ found. last_at name found pairs) (value_at-put name pair.name pair.value fields)

-- one pair is below another by their names
abbrev pub is_before : {V : Type 0} → Pair V → Pair V → Bool
is_before one other = is_below one.name other.name

tied : (o : Ordering) → (not (is_lt o) && not (is_gt o)) ≡ is_eq o
tied Less = refl
tied Equal = refl
tied Greater = refl

ties_is : {V : Type 0} (one other : Pair V) → ties is_before one other ≡ is_eq (Order one.name other.name)
ties_is one other =
    ap (λ (b : Bool). not (is_below one.name other.name) && not b) (below_by one.name other.name) ∙ tied (Order one.name other.name)

-- those of other names change nothing
module _ {V : Type 0} (one : Pair V) where
  of_name : List (Pair V) → List (Pair V)
  of_name pairs = filter (ties is_before one) pairs

  last_step : (o : Ordering) (same : Bool) (found : Option V) (pair : Pair V) (pairs : List (Pair V)) → Order one.name pair.name ≡ o
      → same ≡ is_eq o
      → ((found : Option V) → last_at one.name found pairs ≡ last_at one.name found (filter (ties is_before one) pairs))
      → last_at one.name (match_ordering o found (Some pair.value) found) pairs ≡ last_at one.name found
      (cond same (pair ∷ filter (ties is_before one) pairs) (filter (ties is_before one) pairs))
  last_step Less same found pair pairs is tells rest = rw tells (rest found)
  last_step Equal same found pair pairs is tells rest =
      rw tells (rest (Some pair.value)
      ∙ ap (λ (o : Ordering). last_at one.name (match_ordering o found (Some pair.value) found) (filter (ties is_before one) pairs))
      (sym is))
  last_step Greater same found pair pairs is tells rest = rw tells (rest found)

  last_filtered : (found : Option V) (pairs : List (Pair V))
      → last_at one.name found pairs ≡ last_at one.name found (filter (ties is_before one) pairs)
  last_filtered found [] = refl
  last_filtered found (pair ∷ pairs) =
      last_step (Order one.name pair.name) (ties is_before one pair) found pair pairs refl (ties_is one pair)
      (λ found. last_filtered found pairs)

same_last : {V : Type 0} (name : List ℕ) (some : V) (xs ys : List (Pair V)) → IsStableBy is_before xs ys
    → last_at name None ys ≡ last_at name None xs
same_last {V} name some xs ys stable =
    let one : Pair V = record { name = name; value = some } in
    last_filtered one None ys ∙ ap (last_at name None) (stable one) ∙ sym (last_filtered one None xs)

-- ---- rising pairs are told by what is found in them

less_by : (o : Ordering) (name first other : List ℕ) → Order name first ≡ o → is_gt o ≡ false → Order first other ≡ Less
    → Order name other ≡ Less
less_by Less name first other is not_above below = nat_list_cmp_total.trans name first other is below
less_by Equal name first other is not_above below = ap (λ (one : List ℕ). Order one other) (exact_bytes name first is) ∙ below
less_by Greater name first other is not_above below = absurd cc

-- no name that is not above the first one is behind it
none_before : {V : Type 0} (first : List ℕ) (pairs : List (Pair V)) (name : List ℕ) → is_rising (first ∷ names pairs) ≡ true
    → is_gt (Order name first) ≡ false
    → value_at name pairs ≡ None
none_before first [] name rising not_above = refl
none_before first (pair ∷ pairs) name rising not_above =
    let below = less_from (Order first pair.name) (and_parts (is_below first pair.name) (is_rising (names (pair ∷ pairs))) rising).0 in
    ap (λ (o : Ordering). match_ordering o None (Some pair.value) (value_at name pairs))
    (less_by (Order name first) name first pair.name refl not_above below)

found_first : {V : Type 0} (pair : Pair V) (pairs : List (Pair V)) → value_at pair.name (pair ∷ pairs) ≡ Some pair.value
found_first pair pairs = ap (λ (o : Ordering). match_ordering o None (Some pair.value) (value_at pair.name pairs)) (itself pair.name)

found_as : {V : Type 0} (o : Ordering) (name : List ℕ) (pair : Pair V) (pairs : List (Pair V)) → Order name pair.name ≡ o
    → value_at name (pair ∷ pairs) ≡ match_ordering o None (Some pair.value) (value_at name pairs)
found_as o name pair pairs is = ap (λ (o : Ordering). match_ordering o None (Some pair.value) (value_at name pairs)) is

module _ {V : Type 0} (x y : Pair V) (xs ys : List (Pair V)) (rising_x : is_rising (names (x ∷ xs)) ≡ true)
    (rising_y : is_rising (names (y ∷ ys)) ≡ true)
    (same : (name : List ℕ) → value_at name (x ∷ xs) ≡ value_at name (y ∷ ys)) (named : x.name ≡ y.name) where
  rest_same : (o : Ordering) (name : List ℕ) → Order name x.name ≡ o → value_at name xs ≡ value_at name ys
  rest_same Greater name is =
      sym (found_as Greater name x xs is) ∙ same name ∙ found_as Greater name y ys (ap (Order name) (sym named) ∙ is)
  rest_same Less name is =
      none_before x.name xs name rising_x (ap is_gt is)
      ∙ sym (none_before y.name ys name rising_y (ap is_gt (ap (Order name) (sym named) ∙ is)))
  rest_same Equal name is =
      none_before x.name xs name rising_x (ap is_gt is)
      ∙ sym (none_before y.name ys name rising_y (ap is_gt (ap (Order name) (sym named) ∙ is)))

  value_same : x.value ≡ y.value
  value_same =
      ap (λ (found : Option V). unwrap_or found x.value)
      (sym (found_first x xs) ∙ same x.name ∙ found_as Equal x.name y ys (ap (Order x.name) (sym named) ∙ itself x.name))

same_by : {V : Type 0} (o : Ordering) (x y : Pair V) (xs ys : List (Pair V)) → is_rising (names (x ∷ xs)) ≡ true
    → is_rising (names (y ∷ ys)) ≡ true
    → ((name : List ℕ) → value_at name (x ∷ xs) ≡ value_at name (y ∷ ys)) → Order x.name y.name ≡ o
    → (((name : List ℕ) → value_at name xs ≡ value_at name ys) → xs ≡ ys) → x ∷ xs ≡ y ∷ ys
same_by Less x y xs ys rising_x rising_y same is more =
    let none = sym (found_as Less x.name y ys is) ∙ sym (same x.name) ∙ found_first x xs in absurd cc
same_by Greater x y xs ys rising_x rising_y same is more =
    let none = sym (found_as Less y.name x xs (lower x.name y.name is)) ∙ same y.name ∙ found_first y ys in absurd cc
same_by Equal x y xs ys rising_x rising_y same is more =
    let named = exact_bytes x.name y.name is in
    let valued = value_same x y xs ys rising_x rising_y same named in
    let rest = more (λ name. rest_same x y xs ys rising_x rising_y same named (Order name x.name) name refl) in
    λ i. (record { name = named i; value = valued i }) ∷ rest i

-- rising pairs in which every look-up finds the same are the same
pub same_fields : {V : Type 0} (xs ys : List (Pair V)) → is_rising (names xs) ≡ true → is_rising (names ys) ≡ true
    → ((name : List ℕ) → value_at name xs ≡ value_at name ys) → xs ≡ ys
same_fields [] [] rising_x rising_y same = refl
same_fields [] (y ∷ ys) rising_x rising_y same = let none = same y.name ∙ found_first y ys in absurd cc
same_fields (x ∷ xs) [] rising_x rising_y same = let none = sym (same x.name) ∙ found_first x xs in absurd cc
same_fields (x ∷ xs) (y ∷ ys) rising_x rising_y same =
    same_by (Order x.name y.name) x y xs ys rising_x rising_y same refl
    (same_fields xs ys (rising_tail x xs rising_x) (rising_tail y ys rising_y))

pub put_all_rises : {V : Type 0} (fields pairs : List (Pair V)) → is_rising (names fields) ≡ true
    → is_rising (names (put_all fields pairs)) ≡ true
put_all_rises fields [] rising = rising
put_all_rises fields (pair ∷ pairs) rising =
    put_all_rises (put pair.name pair.value fields) pairs (put_rises pair.name pair.value fields rising)

-- a sort by names that leaves ties in their order changes nothing
pub in_any_order : {V : Type 0} (xs ys : List (Pair V)) → IsStableBy is_before xs ys → length ys ≡ length xs → put_all [] ys ≡ put_all [] xs
in_any_order [] [] stable len = refl
in_any_order [] (y ∷ ys) stable len = absurd (omega (arith, len))
in_any_order (x ∷ xs) ys stable len =
    same_fields (put_all [] ys) (put_all [] (x ∷ xs)) (put_all_rises [] ys refl) (put_all_rises [] (x ∷ xs) refl)
    (λ name. looked_up name [] ys ∙ same_last name x.value (x ∷ xs) ys stable ∙ sym (looked_up name [] (x ∷ xs)))
