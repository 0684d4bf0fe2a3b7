-- A table whose names rise is what putting its pairs gives, in whatever order they are put.
use Rattle.std.proofs.Common.{◌≡◌, ◌∙◌, ◌+◌, ◌&&◌, ℕ, Bool, true, false, not, Option, None, Some, List, [], ◌∷◌, length, refl}
use Rattle.std.proofs.Common.{sym, ap, arith}
use Rattle.std.specs.Prelude.{if◌then◌else◌}
use Rattle.std.specs.declared.cmp.Ordering.{Ordering}
use Rattle.std.specs.declared.cmp.Ordering.TheVariants.{Less, Equal, Greater}
use Rattle.std.specs.Ordering.{is_eq, is_lt, ordering_reverse, match_ordering}
use Rattle.std.proofs.lemmas.Bool.{and_parts}
use Rattle.std.proofs.lemmas.Cmp.{nat_list_cmp_total}
use Rattle.std.proofs.lemmas.List.{nil_from_length}
use Rattle.std.proofs.lemmas.Map.Text.{is_eq-slice_cmp}
use Rattle.std.specs.Cmp.Lexicographic.{same_text}
use Rattle.bson_values.specs.declared.pairs.Pair.{Pair}
use Rattle.jsonb_contain.specs.declared.value.Json.{Json}
use Rattle.bson_values.specs.Names.{names}
use Rattle.jsonb_contain.specs.Rising.{put, put_all, value_at, is_rising, is_below}
use Rattle.typed_json.proofs.Distinct.{is_none_of, are_distinct}
use Rattle.typed_json.proofs.Puts.{Order, AllFound, put_longer}

less_from : (o : Ordering) → is_lt o ≡ true → o ≡ Less
less_from Less is = refl
less_from Equal is = absurd cc
less_from Greater is = absurd cc

equal_names : (one other : List ℕ) → Order one other ≡ Equal → one ≡ other
equal_names one other equal = same_text one other (sym (sym (is_eq-slice_cmp one other) ∙ ap is_eq equal))

module _ {V : Type 0} where
  -- the pairs that have none of these names
  abbrev without : List (List ℕ) → List (Pair V) → List (Pair V)
  without these [] = []
  without these (pair ∷ pairs) = if is_none_of pair.name these then pair ∷ without these pairs else without these pairs

  abbrev IsBelowAll : List ℕ → List (Pair V) → Type 0
  IsBelowAll name [] = Unit {0}
  IsBelowAll name (pair ∷ pairs) = (Order name pair.name ≡ Less) × IsBelowAll name pairs

  below_more : (one other : List ℕ) (pairs : List (Pair V)) → Order one other ≡ Less → IsBelowAll other pairs → IsBelowAll one pairs
  below_more one other [] less below = tt
  below_more one other (pair ∷ pairs) less below =
      (nat_list_cmp_total.trans one other pair.name less below.0, below_more one other pairs less below.1)

  below_all : (pair : Pair V) (pairs : List (Pair V)) → is_rising (names (pair ∷ pairs)) ≡ true → IsBelowAll pair.name pairs
  below_all pair [] rising = tt
  below_all pair (next ∷ pairs) rising =
      let parts = and_parts (is_below pair.name next.name) (is_rising (names (next ∷ pairs))) rising in
      let less = less_from (Order pair.name next.name) parts.0 in
      (less, below_more pair.name next.name pairs less (below_all next pairs parts.1))

  rising_tail : (pair : Pair V) (pairs : List (Pair V)) → is_rising (names (pair ∷ pairs)) ≡ true → is_rising (names pairs) ≡ true
  rising_tail pair [] rising = refl
  rising_tail pair (next ∷ pairs) rising = (and_parts (is_below pair.name next.name) (is_rising (names (next ∷ pairs))) rising).1

  same_below : (one other : List ℕ) (pairs : List (Pair V)) → Order one other ≡ Equal → IsBelowAll other pairs → IsBelowAll one pairs
  same_below one other [] equal below = tt
  same_below one other (pair ∷ pairs) equal below = (
    nat_list_cmp_total.congr one other pair.name equal
        ∙ below.0,
    same_below one other pairs equal below.1,
  )

  -- a name below all is none of theirs
  skipped : (name : List ℕ) (these : List (List ℕ)) (pairs : List (Pair V)) → IsBelowAll name pairs
      → without (name ∷ these) pairs ≡ without these pairs
  skipped name these [] below = refl
  skipped name these (pair ∷ pairs) below =
      let greater : Order pair.name name ≡ Greater = nat_list_cmp_total.antisymm pair.name name ∙ ap ordering_reverse below.0 in
      rw (greater, skipped name these pairs below.1) refl

  kept_below : (kept : Bool) (name : List ℕ) (these : List (List ℕ)) (pair : Pair V) (pairs : List (Pair V)) → Order name pair.name ≡ Less
      → IsBelowAll name (without these pairs)
      → IsBelowAll name (if kept then pair ∷ without these pairs else without these pairs)
  kept_below true name these pair pairs less rest = (less, rest)
  kept_below false name these pair pairs less rest = rest

  fewer_below : (name : List ℕ) (these : List (List ℕ)) (pairs : List (Pair V)) → IsBelowAll name pairs
      → IsBelowAll name (without these pairs)
  fewer_below name these [] below = tt
  fewer_below name these (pair ∷ pairs) below = kept_below (is_none_of pair.name these) name these pair pairs below.0
      (fewer_below name these pairs below.1)

  at_front : (name : List ℕ) (it : V) (pairs : List (Pair V)) → IsBelowAll name pairs
      → put name it pairs ≡ (record { name = name; value = it }) ∷ pairs
  at_front name it [] below = refl
  at_front name it (pair ∷ pairs) below = rw below.0 refl

  some_is : (one other : V) → Some one ≡ Some other → one ≡ other
  some_is one other is = cc is

  -- ---- putting back what was taken out

  abbrev new : List ℕ → V → Pair V
  new name it = record { name = name; value = it }

  -- what a look-up finds at the first pair
  abbrev look : List ℕ → Ordering → V → List (Pair V) → Option V
  look name o first pairs = match_ordering o None (Some first) (value_at name pairs)

  is_first : (name : List ℕ) (it : V) (pair : Pair V) → pair.name ≡ name → pair.value ≡ it → new name it ≡ pair
  is_first name it pair named holds = λ i. record { name = sym named i; value = sym holds i }

  back_passed : (kept : Bool) (name : List ℕ) (it : V) (these : List (List ℕ)) (pair : Pair V) (pairs : List (Pair V))
      → Order name pair.name ≡ Greater
      → put name it (without (name ∷ these) pairs) ≡ without these pairs
      → put name it (if kept then pair ∷ without (name ∷ these) pairs else without (name ∷ these) pairs) ≡
      (if kept then pair ∷ without these pairs else without these pairs)
  back_passed true name it these pair pairs greater rest = rw greater (ap (λ (more : List (Pair V)). pair ∷ more) rest)
  back_passed false name it these pair pairs greater rest = rest

  back_by : (o : Ordering) (name : List ℕ) (it : V) (these : List (List ℕ)) (pair : Pair V) (pairs : List (Pair V))
      → o ≡ Order name pair.name → is_none_of name these ≡ true
      → IsBelowAll pair.name pairs → look name o pair.value pairs ≡ Some it
      → (value_at name pairs ≡ Some it → put name it (without (name ∷ these) pairs) ≡ without these pairs)
      → put name it (without (name ∷ these) (pair ∷ pairs)) ≡ without these (pair ∷ pairs)
  back_by Less name it these pair pairs is none below found rest = absurd cc
  back_by Equal name it these pair pairs is none below found rest =
      let turned : Order pair.name name ≡ Equal = nat_list_cmp_total.antisymm pair.name name ∙ ap ordering_reverse (sym is) in
      let named : pair.name ≡ name = equal_names pair.name name turned in
      let none_here : is_none_of pair.name these ≡ true = ap (λ (n : List ℕ). is_none_of n these) named ∙ none in
      let above = same_below name pair.name pairs (sym is) below in
      let value_is : pair.value ≡ it = some_is pair.value it found in
      rw (turned, none_here) (
      ap (λ (more : List (Pair V)). put name it more) (skipped name these pairs above)
      ∙ at_front name it (without these pairs) (fewer_below name these pairs above)
      ∙ ap (λ (p : Pair V). p ∷ without these pairs) (is_first name it pair named value_is))
  back_by Greater name it these pair pairs is none below found rest =
      let turned : Order pair.name name ≡ Less = nat_list_cmp_total.antisymm pair.name name ∙ ap ordering_reverse (sym is) in
      rw turned (back_passed (is_none_of pair.name these) name it these pair pairs (sym is) (rest found))

  put_back : (name : List ℕ) (it : V) (these : List (List ℕ)) (pairs : List (Pair V)) → is_rising (names pairs) ≡ true
      → is_none_of name these ≡ true → value_at name pairs ≡ Some it
      → put name it (without (name ∷ these) pairs) ≡ without these pairs
  put_back name it these [] rising none found = absurd cc
  put_back name it these (pair ∷ pairs) rising none found =
      back_by (Order name pair.name) name it these pair pairs refl none (below_all pair pairs rising) found
      (put_back name it these pairs (rising_tail pair pairs rising) none)

  without_none : (pairs : List (Pair V)) → without [] pairs ≡ pairs
  without_none [] = refl
  without_none (pair ∷ pairs) = ap (λ (more : List (Pair V)). pair ∷ more) (without_none pairs)

  left_kept : (kept : Bool) (o : Ordering) (name : List ℕ) (these : List (List ℕ)) (pair : Pair V) (pairs : List (Pair V))
      → o ≡ Order name pair.name → value_at name (without these pairs) ≡ None
      → value_at name (if (not (is_eq o) && kept) then pair ∷ without these pairs else without these pairs) ≡ None
  left_kept true Less name these pair pairs is rest = ap (λ (o : Ordering). look name o pair.value (without these pairs)) (sym is)
  left_kept true Equal name these pair pairs is rest = rest
  left_kept true Greater name these pair pairs is rest = ap (λ (o : Ordering). look name o pair.value (without these pairs)) (sym is) ∙ rest
  left_kept false Less name these pair pairs is rest = rest
  left_kept false Equal name these pair pairs is rest = rest
  left_kept false Greater name these pair pairs is rest = rest

  -- a name that is left out is not found
  left_by : (o : Ordering) (name : List ℕ) (these : List (List ℕ)) (pair : Pair V) (pairs : List (Pair V)) → o ≡ Order name pair.name
      → value_at name (without (name ∷ these) pairs) ≡ None
      → value_at name (without (name ∷ these) (pair ∷ pairs)) ≡ None
  left_by Less name these pair pairs is rest =
      let turned : Order pair.name name ≡ Greater = nat_list_cmp_total.antisymm pair.name name ∙ ap ordering_reverse (sym is) in
      rw turned (left_kept (is_none_of pair.name these) Less name (name ∷ these) pair pairs is rest)
  left_by Equal name these pair pairs is rest =
      let turned : Order pair.name name ≡ Equal = nat_list_cmp_total.antisymm pair.name name ∙ ap ordering_reverse (sym is) in
      rw turned rest
  left_by Greater name these pair pairs is rest =
      let turned : Order pair.name name ≡ Less = nat_list_cmp_total.antisymm pair.name name ∙ ap ordering_reverse (sym is) in
      rw turned (left_kept (is_none_of pair.name these) Greater name (name ∷ these) pair pairs is rest)

  left_out : (name : List ℕ) (these : List (List ℕ)) (pairs : List (Pair V)) → value_at name (without (name ∷ these) pairs) ≡ None
  left_out name these [] = refl
  left_out name these (pair ∷ pairs) = left_by (Order name pair.name) name these pair pairs refl (left_out name these pairs)

-- the table is what putting the pairs to what is left of it gives
all_back : (pairs table : List (Pair Json)) → is_rising (names table) ≡ true → are_distinct (names pairs) ≡ true → AllFound table pairs
    → put_all (without (names pairs) table) pairs ≡ table
all_back [] table rising distinct found = without_none table
all_back (pair ∷ pairs) table rising distinct found =
    let parts = and_parts (is_none_of pair.name (names pairs)) (are_distinct (names pairs)) distinct in
    ap (λ (so_far : List (Pair Json)). put_all so_far pairs) (put_back pair.name pair.value (names pairs) table rising parts.0 found.0)
    ∙ all_back pairs table rising parts.1 found.1

-- as many pairs fewer
fewer : (pairs table : List (Pair Json)) → is_rising (names table) ≡ true → are_distinct (names pairs) ≡ true → AllFound table pairs
    → length (without (names pairs) table) + length pairs ≡ length table
fewer [] table rising distinct found = omega (arith, ap (λ (t : List (Pair Json)). length t) (without_none table))
fewer (pair ∷ pairs) table rising distinct found =
    let parts = and_parts (is_none_of pair.name (names pairs)) (are_distinct (names pairs)) distinct in
    let longer = put_longer pair.name pair.value (without (pair.name ∷ names pairs) table) (left_out pair.name (names pairs) table) in
    let back = ap (λ (t : List (Pair Json)). length t) (put_back pair.name pair.value (names pairs) table rising parts.0 found.0) in
    omega (arith, longer, back, fewer pairs table rising parts.1 found.1)

-- a table with as many pairs as were found in it is what putting these gives
pub table_is : (pairs table : List (Pair Json)) → is_rising (names table) ≡ true → are_distinct (names pairs) ≡ true
    → AllFound table pairs → length table ≡ length pairs → put_all [] pairs ≡ table
table_is pairs table rising distinct found many =
    let none : without (names pairs) table ≡ [] = nil_from_length (without (names pairs) table)
    (omega (arith, fewer pairs table rising distinct found, many)) in
    ap (λ (so_far : List (Pair Json)). put_all so_far pairs) (sym none) ∙ all_back pairs table rising distinct found
