-- Names that are looked at one after another: whether one of them stood before.
use Rattle.std.proofs.Common.{◌≡◌, inl, inr, ℕ, ◌+◌, ◌-◌, ◌<◌, ◌≤◌, zero, suc, Bool}
use Rattle.std.proofs.Common.{true, false, ◌||◌, List, [], ◌∷◌, ◌++◌, length, map, take, drop}
use Rattle.std.proofs.Common.{Option, None, Some, slice_get, get_or, refl, sym, ap, ◌∙◌, arith, append_assoc}
use Rattle.std.specs.Prelude.{is_some, option_map, if◌then◌else◌}
use Rattle.std.specs.Str.{bytes_eq}
use Rattle.std.proofs.lemmas.List.Folds.{list_any-append}
use Rattle.std.proofs.lemmas.Slice.Eq.{bytes_eq-Decides}
use Rattle.std_words.proofs.Tests.{never-both, or-first, or-second, or-either, or-not-first, or-not-second, or-neither}
use Rattle.bson_values.specs.Names.{first_place}
use Rattle.bson_values.specs.Storable.{stands}
use Rattle.bson_values.proofs.Places.{is_before, none_before, one_more}
use Rattle.command_words.specs.Body.{has_twice}

-- ---- the place of a name

-- a name stands among the first names where its first place is before them
pub stood : (name : List ℕ) (all : List (List ℕ)) (i : ℕ) → stands (take i all) name ≡ is_before (first_place name all) i
stood name [] zero = refl
stood name [] (suc i) = refl
stood name (one ∷ all) zero = none_before (first_place name (one ∷ all))
stood name (one ∷ all) (suc i) =
    ap (λ more. bytes_eq one name || more) (stood name all i) ∙ one_more (bytes_eq one name) (first_place name all) i

found_more : (here : Bool) (found : Option ℕ) → here || is_some found ≡ is_some (if here then Some 0 else option_map (λ n. n + 1) found)
found_more true found = refl
found_more false None = refl
found_more false (Some n) = refl

-- a name stands among the names where it has a place
pub there : (name : List ℕ) (all : List (List ℕ)) → stands all name ≡ is_some (first_place name all)
there name [] = refl
there name (one ∷ all) = ap (λ more. bytes_eq one name || more) (there name all) ∙ found_more (bytes_eq one name) (first_place name all)

-- ---- a name more

own : (name : List ℕ) → bytes_eq name name ≡ true
own name = (bytes_eq-Decides name name).1 refl

swapped : (one other : List ℕ) → bytes_eq one other ≡ false → bytes_eq other one ≡ false
swapped one other differ = by (bytes_eq other one) refl
  where
    by : (is : Bool) → bytes_eq other one ≡ is → is ≡ false
    by false e = refl
    by true e = never-both (bytes_eq one other) ((bytes_eq-Decides one other).1 (sym ((bytes_eq-Decides other one).0 e))) differ

-- a name that stood before is given twice
pub twice_now : (before : List (List ℕ)) (name : List ℕ) (more : List (List ℕ)) → stands before name ≡ true
    → has_twice (before ++ name ∷ more) ≡ true
twice_now [] name more is = absurd cc
twice_now (one ∷ before) name more is =
    elim (or-either (bytes_eq one name) (stands before name) is) [
      | inl same ↦ or-first _ _ (ap (stands (before ++ name ∷ more)) ((bytes_eq-Decides one name).0 same)
          ∙ list_any-append (λ other. bytes_eq other name) before (name ∷ more) ∙ or-second _ _ (or-first _ _ (own name)))
      | inr later ↦ or-second _ _ (twice_now before name more later)
    ]

-- among some names or others
pub stands_either : (some others : List (List ℕ)) (name : List ℕ) → stands (some ++ others) name ≡ (stands some name || stands others name)
stands_either some others name = list_any-append (λ other. bytes_eq other name) some others

-- one that did not adds nothing
pub once_more : (before : List (List ℕ)) (name : List ℕ) → has_twice before ≡ false → stands before name ≡ false
    → has_twice (before ++ name ∷ []) ≡ false
once_more [] name none new = refl
once_more (one ∷ before) name none new =
    or-neither _ _
    (list_any-append (λ other. bytes_eq other one) before (name ∷ [])
    ∙ or-neither _ _ (or-not-first _ _ none) (or-neither _ _ (swapped one name (or-not-first _ _ new)) refl))
    (once_more before name (or-not-second _ _ none) (or-not-second _ _ new))

-- names that are given twice stay so before others
pub twice_still : (before more : List (List ℕ)) → has_twice before ≡ true → has_twice (before ++ more) ≡ true
twice_still [] more is = absurd cc
twice_still (one ∷ before) more is =
    elim (or-either (stands before one) (has_twice before) is) [
      | inl here ↦ or-first _ _ (list_any-append (λ other. bytes_eq other one) before more ∙ or-first _ _ here)
      | inr later ↦ or-second _ _ (twice_still before more later)
    ]

-- ---- things with names, looked at one after another

named_at : {X : Type 0} (name : X → List ℕ) (xs : List X) (i : ℕ) (it : X) → i < length xs → it ≡ get_or xs i it
    → slice_get (map name xs) i ≡ Some (name it)
named_at name [] i it within is = absurd (omega arith)
named_at {X} name (x ∷ xs) zero it within is = ap (λ (one : X). Some (name one)) (sym is)
named_at name (x ∷ xs) (suc i) it within is = named_at name xs i it (omega arith) is

next : (all : List (List ℕ)) (i : ℕ) (name : List ℕ) → slice_get all i ≡ Some name → take (suc i) all ≡ take i all ++ name ∷ []
next [] i name is = absurd cc
next (one ∷ all) zero name is = cc
next (one ∷ all) (suc i) name is = ap (λ more. one ∷ more) (next all i name is)

parted : (all : List (List ℕ)) (i : ℕ) (name : List ℕ) → slice_get all i ≡ Some name → all ≡ take i all ++ name ∷ drop (suc i) all
parted [] i name is = absurd cc
parted (one ∷ all) zero name is = cc
parted (one ∷ all) (suc i) name is = ap (λ more. one ∷ more) (parted all i name is)

-- a name that stood in front or before its place is given twice
pub taken_twice : (front all : List (List ℕ)) (i : ℕ) (name : List ℕ) → slice_get all i ≡ Some name
    → stands (front ++ take i all) name ≡ true → true ≡ has_twice (front ++ all)
taken_twice front all i name at stood =
    sym (ap (λ names. has_twice (front ++ names)) (parted all i name at)
    ∙ ap has_twice (sym (append_assoc front (take i all) (name ∷ drop (suc i) all)))
    ∙ twice_now (front ++ take i all) name (drop (suc i) all) stood)

-- where it did not, one name more is given once
pub taken_once : (front all : List (List ℕ)) (i : ℕ) (name : List ℕ) → slice_get all i ≡ Some name → has_twice (front ++ take i all) ≡ false
    → stands (front ++ take i all) name ≡ false → has_twice (front ++ take (i + 1) all) ≡ false
taken_once front all i name at none new =
    let one_on : i + 1 ≡ suc i = omega arith in
    ap (λ n. has_twice (front ++ take n all)) one_on ∙ ap (λ names. has_twice (front ++ names)) (next all i name at)
    ∙ ap has_twice (sym (append_assoc front (take i all) (name ∷ []))) ∙ once_more (front ++ take i all) name none new

-- the name of the thing at a place, as it is read
pub read_at : {X : Type 0} (name : X → List ℕ) (xs : List X) (i : ℕ) (it : X) (text : List ℕ) → i < length xs
    → it ≡ get_or xs i it → text ≡ name it
    → slice_get (map name xs) i ≡ Some text
read_at name xs i it text within is reads = named_at name xs i it within is ∙ ap Some (sym reads)

-- the names seen and one more are the first ones
pub seen_more : (all seen : List (List ℕ)) (i : ℕ) (name : List ℕ) → slice_get all i ≡ Some name
    → seen ≡ take i all ++ name ∷ [] → seen ≡ take (i + 1) all
seen_more all seen i name at is =
    let one_on : i + 1 ≡ suc i = omega arith in is ∙ sym (next all i name at) ∙ ap (λ n. take n all) (sym one_on)

all_taken : (all : List (List ℕ)) (n : ℕ) → length all ≤ n → take n all ≡ all
all_taken [] zero within = refl
all_taken [] (suc n) within = refl
all_taken (one ∷ all) zero within = absurd (omega arith)
all_taken (one ∷ all) (suc n) within = ap (λ more. one ∷ more) (all_taken all n (omega arith))

as_many : {X : Type 0} (name : X → List ℕ) (xs : List X) → length (map name xs) ≡ length xs
as_many name [] = refl
as_many name (x ∷ xs) = omega (arith, as_many name xs)

-- up to the last, all are taken
pub last_once : {X : Type 0} (name : X → List ℕ) (front : List (List ℕ)) (xs : List X) (i : ℕ) → length xs - i ≡ 1
    → has_twice (front ++ take (i + 1) (map name xs)) ≡ false → false ≡ has_twice (front ++ map name xs)
last_once name front xs i last none =
    sym (ap (λ names. has_twice (front ++ names)) (sym (all_taken (map name xs) (i + 1) (omega (arith, as_many name xs)))) ∙ none)
