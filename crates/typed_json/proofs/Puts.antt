-- Pairs put by their names among pairs whose names rise.
use Rattle.std.proofs.Common.{◌≡◌, ◌∙◌, ◌+◌, ℕ, suc, true, not, Option, None, Some, List, [], ◌∷◌, ◌++◌, length}
use Rattle.std.proofs.Common.{refl, sym, ap, arith}
use Rattle.std.specs.declared.cmp.Ordering.{Ordering}
use Rattle.std.specs.declared.cmp.Ordering.TheVariants.{Less, Equal, Greater}
use Rattle.std.specs.Ordering.{nat_cmp, is_eq, ordering_reverse, match_ordering}
use Rattle.std.specs.Cmp.Lexicographic.{slice_cmp}
use Rattle.std.proofs.lemmas.Cmp.{nat_list_cmp_total}
use Rattle.bson_values.specs.declared.pairs.Pair.{Pair}
use Rattle.jsonb_contain.specs.declared.value.Json.{Json}
use Rattle.bson_values.specs.Names.{names}
use Rattle.jsonb_contain.specs.Rising.{put, put_all, value_at}

abbrev pub Order : List ℕ → List ℕ → Ordering
Order one other = slice_cmp nat_cmp one other

-- two names that are not one
abbrev pub AreTwo : List ℕ → List ℕ → Type 0
AreTwo one other = Order one other ≡ Equal → ⊥

turned_equal : (o : Ordering) → o ≡ ordering_reverse o → o ≡ Equal
turned_equal Less is = cc
turned_equal Equal is = refl
turned_equal Greater is = cc

pub self_equal : (name : List ℕ) → Order name name ≡ Equal
self_equal name = turned_equal (Order name name) (nat_list_cmp_total.antisymm name name)

-- a name beside two that are one
same_beside : (q one other : List ℕ) → Order one other ≡ Equal → Order q one ≡ Order q other
same_beside q one other equal =
    nat_list_cmp_total.antisymm q one ∙ ap ordering_reverse (nat_list_cmp_total.congr one other q equal)
    ∙ sym (nat_list_cmp_total.antisymm q other)

not_equal : (o : Ordering) → o ≡ Equal → not (is_eq o) ≡ true → ⊥
not_equal Less is test = cc
not_equal Equal is test = cc
not_equal Greater is test = cc

pub two_from : (one other : List ℕ) → not (is_eq (Order one other)) ≡ true → AreTwo one other
two_from one other test equal = not_equal (Order one other) equal test

-- ---- one put, and look-ups after it

module _ {V : Type 0} (name : List ℕ) (value : V) where
  abbrev by_first : Ordering → Pair V → List (Pair V) → List (Pair V)
  by_first o pair pairs = match_ordering o ((record { name = name; value = value }) ∷ pair ∷ pairs)
      ((record { name = name; value = value }) ∷ pairs) (pair ∷ put name value pairs)

  -- what a look-up finds, by how the name compares with the first one
  abbrev look : List ℕ → Ordering → V → List (Pair V) → Option V
  look q o first pairs = match_ordering o None (Some first) (value_at q pairs)

  at_front : (pairs : List (Pair V)) → value_at name ((record { name = name; value = value }) ∷ pairs) ≡ Some value
  at_front pairs = ap (λ (o : Ordering). look name o value pairs) (self_equal name)

  found_by : (o : Ordering) (pair : Pair V) (pairs : List (Pair V)) → o ≡ Order name pair.name
      → value_at name (put name value pairs) ≡ Some value → value_at name (by_first o pair pairs) ≡ Some value
  found_by Less pair pairs is rest = at_front (pair ∷ pairs)
  found_by Equal pair pairs is rest = at_front pairs
  found_by Greater pair pairs is rest = ap (λ (o : Ordering). look name o pair.value (put name value pairs)) (sym is) ∙ rest

  -- the value put is found at its name
  pub put_found : (pairs : List (Pair V)) → value_at name (put name value pairs) ≡ Some value
  put_found [] = at_front []
  put_found (pair ∷ pairs) = found_by (Order name pair.name) pair pairs refl (put_found pairs)

  before_first : (q : List ℕ) (o : Ordering) (pair : Pair V) (pairs : List (Pair V)) → o ≡ Order q name → AreTwo q name
      → Order name pair.name ≡ Less
      → look q o value (pair ∷ pairs) ≡ value_at q (pair ∷ pairs)
  before_first q Less pair pairs is two below = sym
      (ap (λ (o : Ordering). look q o pair.value pairs) (nat_list_cmp_total.trans q name pair.name (sym is) below))
  before_first q Equal pair pairs is two below = absurd (two (sym is))
  before_first q Greater pair pairs is two below = refl

  in_place : (q : List ℕ) (o : Ordering) (other : V) (pairs : List (Pair V)) → o ≡ Order q name → AreTwo q name
      → look q o value pairs ≡ look q o other pairs
  in_place q Less other pairs is two = refl
  in_place q Equal other pairs is two = absurd (two (sym is))
  in_place q Greater other pairs is two = refl

  passed_by : (q : List ℕ) → AreTwo q name → (o : Ordering) (pair : Pair V) (pairs : List (Pair V)) → o ≡ Order name pair.name
      → value_at q (put name value pairs) ≡ value_at q pairs → value_at q (by_first o pair pairs) ≡ value_at q (pair ∷ pairs)
  passed_by q two Less pair pairs is rest = before_first q (Order q name) pair pairs refl two (sym is)
  passed_by q two Equal pair pairs is rest =
      in_place q (Order q name) pair.value pairs refl two
      ∙ ap (λ (o : Ordering). look q o pair.value pairs) (same_beside q name pair.name (sym is))
  passed_by q two Greater pair pairs is rest = ap
      (λ (found : Option V). match_ordering (Order q pair.name) None (Some pair.value) found) rest

  nothing : (q : List ℕ) → AreTwo q name → (o : Ordering) → o ≡ Order q name → look q o value [] ≡ None
  nothing q two Less is = refl
  nothing q two Equal is = absurd (two (sym is))
  nothing q two Greater is = refl

  -- what is at another name stays
  pub put_other : (q : List ℕ) → AreTwo q name → (pairs : List (Pair V)) → value_at q (put name value pairs) ≡ value_at q pairs
  put_other q two [] = nothing q two (Order q name) refl
  put_other q two (pair ∷ pairs) = passed_by q two (Order name pair.name) pair pairs refl (put_other q two pairs)

  longer_by : (o : Ordering) (pair : Pair V) (pairs : List (Pair V))
      → (value_at name pairs ≡ None → length (put name value pairs) ≡ suc (length pairs))
      → look name o pair.value pairs ≡ None → length (by_first o pair pairs) ≡ suc (suc (length pairs))
  longer_by Less pair pairs rest none = refl
  longer_by Equal pair pairs rest none = absurd cc
  longer_by Greater pair pairs rest none = ap suc (rest none)

  -- a new name makes it longer by one
  pub put_longer : (pairs : List (Pair V)) → value_at name pairs ≡ None → length (put name value pairs) ≡ suc (length pairs)
  put_longer [] none = refl
  put_longer (pair ∷ pairs) none = longer_by (Order name pair.name) pair pairs (put_longer pairs) none

-- ---- many puts

-- a name that is none of these
abbrev pub IsNoneOf : List ℕ → List (List ℕ) → Type 0
IsNoneOf name [] = Unit {0}
IsNoneOf name (other ∷ more) = AreTwo name other × IsNoneOf name more

-- each name is another
abbrev pub AreDistinct : List (List ℕ) → Type 0
AreDistinct [] = Unit {0}
AreDistinct (name ∷ more) = IsNoneOf name more × AreDistinct more

-- each pair's value is found at its name
abbrev pub AllFound : {V : Type 0} → List (Pair V) → List (Pair V) → Type 0
AllFound table [] = Unit {0}
AllFound table (pair ∷ pairs) = (value_at pair.name table ≡ Some pair.value) × AllFound table pairs

-- nothing is found at any of the names
abbrev pub NoneFound : {V : Type 0} → List (Pair V) → List (List ℕ) → Type 0
NoneFound table [] = Unit {0}
NoneFound table (name ∷ more) = (value_at name table ≡ None) × NoneFound table more

pub put_all_other : (q : List ℕ) (pairs so_far : List (Pair Json)) → IsNoneOf q (names pairs)
    → value_at q (put_all so_far pairs) ≡ value_at q so_far
put_all_other q [] so_far other = refl
put_all_other q (pair ∷ pairs) so_far other = put_all_other q pairs (put pair.name pair.value so_far) other.1
    ∙ put_other pair.name pair.value q other.0 so_far

pub put_all_found : (pairs so_far : List (Pair Json)) → AreDistinct (names pairs) → AllFound (put_all so_far pairs) pairs
put_all_found [] so_far distinct = tt
put_all_found (pair ∷ pairs) so_far distinct = (
  put_all_other pair.name pairs (put pair.name pair.value so_far) distinct.0 ∙ put_found pair.name pair.value so_far,
  put_all_found pairs (put pair.name pair.value so_far) distinct.1,
)

pub two_back : (one other : List ℕ) → AreTwo one other → AreTwo other one
two_back one other two equal = two (nat_list_cmp_total.antisymm one other ∙ ap ordering_reverse equal)

still_none : (name : List ℕ) (value : Json) (more : List (List ℕ)) (so_far : List (Pair Json)) → IsNoneOf name more
    → NoneFound so_far more → NoneFound (put name value so_far) more
still_none name value [] so_far other none = tt
still_none name value (next ∷ more) so_far other none =
    (put_other name value next (two_back name next other.0) so_far ∙ none.0, still_none name value more so_far other.1 none.1)

pub put_all_length : (pairs so_far : List (Pair Json)) → AreDistinct (names pairs) → NoneFound so_far (names pairs)
    → length (put_all so_far pairs) ≡ length so_far + length pairs
put_all_length [] so_far distinct none = omega arith
put_all_length (pair ∷ pairs) so_far distinct none =
    omega (
      arith,
      put_all_length pairs (put pair.name pair.value so_far) distinct.1
          (still_none pair.name pair.value (names pairs) so_far distinct.0 none.1),
      put_longer pair.name pair.value so_far none.0,
    )

-- a pair that is put last
pub put_last : (pairs so_far : List (Pair Json)) (pair : Pair Json)
    → put_all so_far (pairs ++ pair ∷ []) ≡ put pair.name pair.value (put_all so_far pairs)
put_last [] so_far pair = refl
put_last (first ∷ pairs) so_far pair = put_last pairs (put first.name first.value so_far) pair
