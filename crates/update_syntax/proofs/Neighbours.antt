-- In the order of their parts a path stands directly before those that it begins.
use Rattle.std.proofs.Common.{◌≡◌, ℕ, ◌+◌, ◌*◌, zero, suc, Bool, true, false, cond, ◌&&◌, ◌||◌, nat_lt, List, [], ◌∷◌, length, refl, sym}
use Rattle.std.proofs.Common.{ap, subst, ◌∙◌, arith, slice_index_or}
use Rattle.std.proofs.lemmas.Grind.{common_steps}
use Rattle.std.specs.List.{list_any, sum_by, count_by}
use Rattle.std.specs.List.Sorted.{IsPermutation, IsSortedBy}
use Rattle.std.specs.Str.{bytes_eq}
use Rattle.std.specs.Ordering.{nat_cmp, is_lt, is_eq, ordering_then, ordering_reverse}
use Rattle.std.specs.declared.cmp.Ordering.{Ordering}
use Rattle.std.specs.declared.cmp.Ordering.TheVariants.{Less, Equal, Greater}
use Rattle.std.specs.Cmp.{IsStrictWeakOrder}
use Rattle.std.specs.Cmp.Lexicographic.{slice_cmp}
use Rattle.std.proofs.lemmas.Cmp.{nat_list_cmp_total, lists_total}
use Rattle.std.proofs.lemmas.List.Sorted.{ranks_by, sum_by-IsPermutation, length_permutation}
use Rattle.std.proofs.lemmas.List.Sums.{sum_by-cons}
use Rattle.std.proofs.lemmas.Map.Text.{is_eq-slice_cmp}
use Rattle.std.proofs.lemmas.Slice.Eq.{bytes_eq-Decides}
use Rattle.update_syntax.specs.Conflicts.{Parts, is_prefix, clash, any_clash, parts_cmp, neighbours_clash}

abbrev pub below : Parts → Parts → Bool
below a b = is_lt (parts_cmp a b)

pub below_ranks : IsStrictWeakOrder below
below_ranks = ranks_by (lists_total nat_list_cmp_total) (λ (path : Parts). path)

heads : (o first second : Ordering) → is_lt (ordering_then o first) ≡ false → is_lt (ordering_then (ordering_reverse o) second) ≡ false
    → (o ≡ Equal) × (is_lt first ≡ false) × (is_lt second ≡ false)
heads Less first second l h = absurd (cc)
heads Equal first second l h = (refl, l, h)
heads Greater first second l h = absurd (cc)

both : (a b : Bool) → a && b ≡ true → (a ≡ true) × (b ≡ true)
both true b e = (refl, e)
both false b e = absurd (cc)

and_true : (a b : Bool) → a ≡ true → b ≡ true → a && b ≡ true
and_true true b e f = f
and_true false b e f = absurd (cc)

-- what stands between a path and one that it begins, it begins too
pub between : (a b c : Parts) → is_prefix a c ≡ true → below b a ≡ false → below c b ≡ false → is_prefix a b ≡ true
between [] b c pre low high = refl
between (x ∷ a) b [] pre low high = absurd (cc)
between (x ∷ a) [] (z ∷ c) pre low high = absurd (cc)
between (x ∷ a) (y ∷ b) (z ∷ c) pre low high =
    let parted = both (bytes_eq x z) (is_prefix a c) pre in
    let same : x ≡ z = (bytes_eq-Decides x z).0 parted.0 in
    let turned : slice_cmp nat_cmp z y ≡ ordering_reverse (slice_cmp nat_cmp y x) =
    ap (λ p. slice_cmp nat_cmp p y) (sym same) ∙ nat_list_cmp_total.antisymm x y in
    let told =
    heads (slice_cmp nat_cmp y x) (parts_cmp b a)
    (parts_cmp c b) low (subst (λ o. is_lt (ordering_then o (parts_cmp c b)) ≡ false) turned high) in
    let equal : bytes_eq x y ≡ true =
    sym (is_eq-slice_cmp x y) ∙ ap is_eq (nat_list_cmp_total.antisymm x y) ∙ ap (λ o. is_eq (ordering_reverse o)) told.0 in
    and_true (bytes_eq x y) (is_prefix a b) equal (between a b c parted.1 told.1 told.2)

-- a path that begins another and is not below it is begun by it
pub turned_round : (c a : Parts) → is_prefix c a ≡ true → below c a ≡ false → is_prefix a c ≡ true
turned_round [] [] pre high = refl
turned_round [] (x ∷ a) pre high = absurd (cc)
turned_round (z ∷ c) [] pre high = absurd (cc)
turned_round (z ∷ c) (x ∷ a) pre high =
    let parted = both (bytes_eq z x) (is_prefix c a) pre in
    let same : z ≡ x = (bytes_eq-Decides z x).0 parted.0 in
    let equal : bytes_eq x z ≡ true = subst (λ p. bytes_eq p x ≡ true → bytes_eq x p ≡ true) (sym same) (λ e. e) parted.0 in
    let one : slice_cmp nat_cmp z x ≡ Equal = tied (slice_cmp nat_cmp z x) (is_eq-slice_cmp z x ∙ parted.0) in
    and_true (bytes_eq x z)
    (is_prefix a c) equal (turned_round c a parted.1 (subst (λ o. is_lt (ordering_then o (parts_cmp c a)) ≡ false) one high))
  where
    tied : (o : Ordering) → is_eq o ≡ true → o ≡ Equal
    tied Equal e = refl
    tied Less e = absurd (cc)
    tied Greater e = absurd (cc)

-- ---- lists that rise

abbrev pub Floor : Parts → List Parts → Type 0
Floor x [] = Unit {0}
Floor x (y ∷ ys) = (below y x ≡ false) × Floor x ys

abbrev pub Rises : List Parts → Type 0
Rises [] = Unit {0}
Rises (x ∷ xs) = Floor x xs × Rises xs

lower : (x y : Parts) (ys : List Parts) → below y x ≡ false → Floor y ys → Floor x ys
lower x y [] e floor = tt
lower x y (z ∷ ys) e floor = (below_ranks.chain z y x floor.0 e, lower x y ys e floor.1)

pub rises : (xs : List Parts) → IsSortedBy below xs → Rises xs
rises [] up = tt
rises (x ∷ []) up = (tt, tt)
rises (x ∷ y ∷ ys) up =
    let rest = rises (y ∷ ys) (λ k d low high. let e : suc k + 1 ≡ suc (k + 1) = omega arith in
    subst (λ n. below (slice_index_or (x ∷ y ∷ ys) n d) (slice_index_or (y ∷ ys) k d) ≡ false) e (up (suc k) d (omega arith)
    (omega (arith, high)))) in
    let first : below y x ≡ false = up 0 x (omega arith) (omega arith) in
    ((first, lower x y ys first rest.0), rest)

or_false : (a b : Bool) → (b ≡ true → a ≡ true) → a || b ≡ a
or_false true b f = refl
or_false false true f = let e : false ≡ true = f refl in absurd (cc)
or_false false false f = refl

split_or : (a b : Bool) (P : Type 0) → (a ≡ true → P) → (b ≡ true → P) → a || b ≡ true → P
split_or true b P f g e = f refl
split_or false b P f g e = g e

-- what clashes with a later one clashes with the next
reaches : (x y : Parts) (zs : List Parts) → below y x ≡ false → Floor x zs → Floor y zs → list_any (clash x) zs ≡ true → clash x y ≡ true
reaches x y [] e low high is = absurd (cc)
reaches x y (z ∷ zs) e low high is =
    split_or (clash x z) (list_any (clash x) zs) (clash x y ≡ true)
    (split_or (is_prefix x z) (is_prefix z x) (clash x y ≡ true)
    (λ pre. first (is_prefix y x) (between x y z pre e high.0))
    (λ pre. first (is_prefix y x) (between x y z (turned_round z x pre low.0) e high.0)))
    (λ more. reaches x y zs e low.1 high.1 more) is
  where
    first : {a : Bool} (b : Bool) → a ≡ true → a || b ≡ true
    first b f = ap (λ c. c || b) f

-- in a list that rises some two clash where some neighbours do
pub neighbours_tell : (xs : List Parts) → Rises xs → any_clash xs ≡ neighbours_clash xs
neighbours_tell [] up = refl
neighbours_tell (x ∷ []) up = refl
neighbours_tell (x ∷ y ∷ ys) up =
    ap (λ b. b || any_clash (y ∷ ys)) (or_false (clash x y) (list_any (clash x) ys) (reaches x y ys up.0.0 up.0.1 up.1.0))
    ∙ ap (λ b. clash x y || b) (neighbours_tell (y ∷ ys) up.1)

-- ---- whether some two clash does not turn on the order

or_comm : (a b : Bool) → a || b ≡ b || a
or_comm true true = refl
or_comm true false = refl
or_comm false true = refl
or_comm false false = refl

clash_comm : (a b : Parts) → clash a b ≡ clash b a
clash_comm a b = or_comm (is_prefix a b) (is_prefix b a)

own_prefix : (a : Parts) → is_prefix a a ≡ true
own_prefix [] = refl
own_prefix (x ∷ a) = and_true (bytes_eq x x) (is_prefix a a) ((bytes_eq-Decides x x).1 refl) (own_prefix a)

own_clash : (a : Parts) → clash a a ≡ true
own_clash a = ap (λ b. b || is_prefix a a) (own_prefix a)

sum_plus : {X : Type 0} (f g : X → ℕ) (xs : List X) → sum_by (λ x. f x + g x) xs ≡ sum_by f xs + sum_by g xs
sum_plus f g [] = refl
sum_plus f g (x ∷ xs) =
    let e = sum_plus f g xs in
    let a = sum_by-cons (λ x. f x + g x) x xs in
    let b = sum_by-cons f x xs in
    let c = sum_by-cons g x xs in
    omega (arith, a, b, c, e)

abbrev one_if : Bool → ℕ
one_if b = cond b 1 0

-- how many ordered pairs clash, each path with itself among them
abbrev total : List Parts → List Parts → ℕ
total all xs = sum_by (λ y. count_by (clash y) all) xs

abbrev pairs : List Parts → ℕ
pairs [] = 0
pairs (x ∷ xs) = count_by (clash x) xs + pairs xs

total_cons : (x : Parts) (xs : List Parts) → total (x ∷ xs) (x ∷ xs) ≡ 1 + count_by (clash x) xs + (count_by (clash x) xs + total xs xs)
total_cons x xs =
    sum_by-cons (λ y. count_by (clash y) (x ∷ xs)) x xs
    ∙ ap (λ n. n + total (x ∷ xs) xs)
    (sum_by-cons (λ z. one_if (clash x z)) x xs ∙ ap (λ b. one_if b + count_by (clash x) xs) (own_clash x))
    ∙ ap (λ n. 1 + count_by (clash x) xs + n)
    (ap (λ (f : Parts → ℕ). sum_by f xs)
    (λ i y. (sum_by-cons (λ z. one_if (clash y z)) x xs ∙ ap (λ b. one_if b + count_by (clash y) xs) (clash_comm y x)) i)
    ∙ sum_plus (λ y. one_if (clash x y)) (λ y. count_by (clash y) xs) xs)

total_is : (xs : List Parts) → total xs xs ≡ length xs + 2 * pairs xs
total_is [] = refl
total_is (x ∷ xs) = let e = total_cons x xs in let f = total_is xs in omega (arith, e, f)

one_more : (b any : Bool) (count : ℕ) → any ≡ nat_lt 0 count → b || any ≡ nat_lt 0 (one_if b + count)
one_more true any count e = grind (arith, common_steps)
one_more false any count e = e ∙ ap (nat_lt 0) (let z : count ≡ 0 + count = omega arith in z)

some_counted : (p : Parts → Bool) (xs : List Parts) → list_any p xs ≡ nat_lt 0 (count_by p xs)
some_counted p [] = refl
some_counted p (x ∷ xs) =
    one_more (p x) (list_any p xs) (count_by p xs) (some_counted p xs) ∙ ap (nat_lt 0) (sym (sum_by-cons (λ z. one_if (p z)) x xs))

sum_some : (a b : ℕ) → nat_lt 0 a || nat_lt 0 b ≡ nat_lt 0 (a + b)
sum_some zero b = ap (nat_lt 0) (let z : b ≡ 0 + b = omega arith in z)
sum_some (suc a) b = grind (arith, common_steps)

any_counted : (xs : List Parts) → any_clash xs ≡ nat_lt 0 (pairs xs)
any_counted [] = refl
any_counted (x ∷ xs) =
    ap (λ b. b || any_clash xs) (some_counted (clash x) xs) ∙ ap (λ b. nat_lt 0 (count_by (clash x) xs) || b) (any_counted xs)
    ∙ sum_some (count_by (clash x) xs) (pairs xs)

total_stays : (xs ys : List Parts) → IsPermutation xs ys → total ys ys ≡ total xs xs
total_stays xs ys moved =
    ap (λ (f : Parts → ℕ). sum_by f ys) (λ i y. sum_by-IsPermutation (λ z. one_if (clash y z)) xs ys moved i)
    ∙ sum_by-IsPermutation (λ y. count_by (clash y) xs) xs ys moved

pub any_stays : (xs ys : List Parts) → IsPermutation xs ys → any_clash xs ≡ any_clash ys
any_stays xs ys moved =
    let a = total_is xs in
    let b = total_is ys in
    let c = total_stays xs ys moved in
    let d = length_permutation xs ys moved in
    let e : pairs xs ≡ pairs ys = omega (arith, a, b, c, d) in
    any_counted xs ∙ ap (nat_lt 0) e ∙ sym (any_counted ys)

-- so neighbours in order tell it
pub sorted_tells : (xs ys : List Parts) → IsPermutation xs ys → IsSortedBy below ys → neighbours_clash ys ≡ any_clash xs
sorted_tells xs ys moved up = sym (neighbours_tell ys (rises ys up)) ∙ sym (any_stays xs ys moved)
