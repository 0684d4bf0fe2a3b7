-- In the order of their parts a path stands directly before those that it begins.
use Rattle.std.proofs.Common.{◌≡◌, Bool, true, false, cond, ◌&&◌, ◌||◌, not, List, [], ◌∷◌}
use Rattle.std.proofs.Common.{refl, sym, ap, subst, ◌∙◌}
use Rattle.std.specs.List.{list_any}
use Rattle.std.specs.Str.{bytes_eq}
use Rattle.std.specs.Ordering.{nat_cmp, is_lt, is_eq, ordering_then, ordering_reverse}
use Rattle.std.specs.declared.cmp.Ordering.{Ordering}
use Rattle.std.specs.declared.cmp.Ordering.TheVariants.{Less, Equal, Greater}
use Rattle.std.specs.Cmp.{IsStrictWeakOrder}
use Rattle.std.specs.Cmp.Lexicographic.{slice_cmp}
use Rattle.std.proofs.lemmas.Cmp.{nat_list_cmp_total, lists_total}
use Rattle.std.proofs.lemmas.List.Sorted.{ranks_by}
use Rattle.std.proofs.lemmas.Map.Text.{is_eq-slice_cmp}
use Rattle.std.proofs.lemmas.Slice.Eq.{bytes_eq-Decides}
use Rattle.doc_shape.specs.Sorted.{put_in_order, stably_sorted}
use Rattle.doc_shape.proofs.Stable.{Low, Up, up_sorted}
use Rattle.doc_shape.specs.Clashes.{Parts, is_prefix, clash, any_clash, parts_cmp, neighbours_clash, path_below, rises}

pub below_ranks : IsStrictWeakOrder path_below
below_ranks = ranks_by (lists_total nat_list_cmp_total) (λ (path : Parts). path)

heads : (o first second : Ordering) → is_lt (ordering_then o first) ≡ false → is_lt (ordering_then (ordering_reverse o) second) ≡ false
    → (o ≡ Equal) × (is_lt first ≡ false) × (is_lt second ≡ false)
heads Less first second l h = absurd (cc)
heads Equal first second l h = (refl, l, h)
heads Greater first second l h = absurd (cc)

both : (a b : Bool) → a && b ≡ true → (a ≡ true) × (b ≡ true)
both true b e = (refl, e)
both false b e = absurd (cc)

and_true : (a b : Bool) → a ≡ true → b ≡ true → a && b ≡ true
and_true true b e f = f
and_true false b e f = absurd (cc)

-- what stands between a path and one that it begins, it begins too
pub between : (a b c : Parts) → is_prefix a c ≡ true → path_below b a ≡ false → path_below c b ≡ false → is_prefix a b ≡ true
between [] b c pre low high = refl
between (x ∷ a) b [] pre low high = absurd (cc)
between (x ∷ a) [] (z ∷ c) pre low high = absurd (cc)
between (x ∷ a) (y ∷ b) (z ∷ c) pre low high =
    let parted = both (bytes_eq x z) (is_prefix a c) pre in
    let same : x ≡ z = (bytes_eq-Decides x z).0 parted.0 in
    let turned : slice_cmp nat_cmp z y ≡ ordering_reverse (slice_cmp nat_cmp y x) = ap (λ p. slice_cmp nat_cmp p y) (sym same)
    ∙ nat_list_cmp_total.antisymm x y in
    let told = heads (slice_cmp nat_cmp y x) (parts_cmp b a) (parts_cmp c b) low (subst (λ o. is_lt (ordering_then o (parts_cmp c b))
    ≡ false) turned high) in
    let equal : bytes_eq x y ≡ true = sym (is_eq-slice_cmp x y) ∙ ap is_eq (nat_list_cmp_total.antisymm x y)
    ∙ ap (λ o. is_eq (ordering_reverse o)) told.0 in
    and_true (bytes_eq x y) (is_prefix a b) equal (between a b c parted.1 told.1 told.2)

-- a path that begins another and is not below it is begun by it
pub turned_round : (c a : Parts) → is_prefix c a ≡ true → path_below c a ≡ false → is_prefix a c ≡ true
turned_round [] [] pre high = refl
turned_round [] (x ∷ a) pre high = absurd (cc)
turned_round (z ∷ c) [] pre high = absurd (cc)
turned_round (z ∷ c) (x ∷ a) pre high =
    let parted = both (bytes_eq z x) (is_prefix c a) pre in
    let same : z ≡ x = (bytes_eq-Decides z x).0 parted.0 in
    let equal : bytes_eq x z ≡ true = subst (λ p. bytes_eq p x ≡ true → bytes_eq x p ≡ true) (sym same) (λ e. e) parted.0 in
    let one : slice_cmp nat_cmp z x ≡ Equal = tied (slice_cmp nat_cmp z x) (is_eq-slice_cmp z x ∙ parted.0) in
    and_true (bytes_eq x z) (is_prefix a c) equal (turned_round c a parted.1 (subst (λ o. is_lt (ordering_then o (parts_cmp c a))
    ≡ false) one high))
  where
    tied : (o : Ordering) → is_eq o ≡ true → o ≡ Equal
    tied Equal e = refl
    tied Less e = absurd (cc)
    tied Greater e = absurd (cc)

-- ---- lists that rise

abbrev pub Floor : Parts → List Parts → Type 0
Floor x xs = Low path_below below_ranks x xs

abbrev pub Rises : List Parts → Type 0
Rises xs = Up path_below below_ranks xs

or_false : (a b : Bool) → (b ≡ true → a ≡ true) → a || b ≡ a
or_false true b f = refl
or_false false true f = let e : false ≡ true = f refl in absurd (cc)
or_false false false f = refl

split_or : (a b : Bool) (P : Type 0) → (a ≡ true → P) → (b ≡ true → P) → a || b ≡ true → P
split_or true b P f g e = f refl
split_or false b P f g e = g e

-- what clashes with a later one clashes with the next
reaches : (x y : Parts) (zs : List Parts) → path_below y x ≡ false → Floor x zs → Floor y zs → list_any (clash x) zs ≡ true
    → clash x y ≡ true
reaches x y [] e low high is = absurd (cc)
reaches x y (z ∷ zs) e low high is =
    split_or (clash x z) (list_any (clash x) zs) (clash x y ≡ true)
    (split_or (is_prefix x z) (is_prefix z x) (clash x y ≡ true)
    (λ pre. first (is_prefix y x) (between x y z pre e high.0))
    (λ pre. first (is_prefix y x) (between x y z (turned_round z x pre low.0) e high.0)))
    (λ more. reaches x y zs e low.1 high.1 more) is
  where
    first : {a : Bool} (b : Bool) → a ≡ true → a || b ≡ true
    first b f = ap (λ c. c || b) f

-- in a list that rises some two clash where some neighbours do
pub neighbours_tell : (xs : List Parts) → Rises xs → any_clash xs ≡ neighbours_clash xs
neighbours_tell [] up = refl
neighbours_tell (x ∷ []) up = refl
neighbours_tell (x ∷ y ∷ ys) up =
    ap (λ b. b || any_clash (y ∷ ys)) (or_false (clash x y) (list_any (clash x) ys) (reaches x y ys up.0.0 up.0.1 up.1.0))
    ∙ ap (λ b. clash x y || b) (neighbours_tell (y ∷ ys) up.1)

-- ---- whether some two clash does not turn on the order

or_comm : (a b : Bool) → a || b ≡ b || a
or_comm true true = refl
or_comm true false = refl
or_comm false true = refl
or_comm false false = refl

clash_comm : (a b : Parts) → clash a b ≡ clash b a
clash_comm a b = or_comm (is_prefix a b) (is_prefix b a)

swap : (a b c : Bool) → a || (b || c) ≡ b || (a || c)
swap true true c = refl
swap true false c = refl
swap false b c = refl

any_put : (p : Parts → Bool) (x : Parts) (ys : List Parts) → list_any p (put_in_order path_below x ys) ≡ p x || list_any p ys
any_put p x [] = refl
any_put p x (y ∷ ys) = by (path_below y x) (any_put p x ys)
  where
    by : (b : Bool) → list_any p (put_in_order path_below x ys) ≡ p x || list_any p ys
        → list_any p (cond b (y ∷ put_in_order path_below x ys) (x ∷ y ∷ ys)) ≡ p x || (p y || list_any p ys)
    by true e = ap (λ c. p y || c) e ∙ swap (p y) (p x) (list_any p ys)
    by false e = refl

any_sorted : (p : Parts → Bool) (xs : List Parts) → list_any p (stably_sorted path_below xs) ≡ list_any p xs
any_sorted p [] = refl
any_sorted p (x ∷ xs) = any_put p x (stably_sorted path_below xs) ∙ ap (λ b. p x || b) (any_sorted p xs)

crossed : (a b c d : Bool) → (a || b) || (c || d) ≡ (a || c) || (b || d)
crossed true b c d = refl
crossed false true true d = refl
crossed false true false d = refl
crossed false false c d = refl

clash_put : (x : Parts) (ys : List Parts) → any_clash (put_in_order path_below x ys) ≡ list_any (clash x) ys || any_clash ys
clash_put x [] = refl
clash_put x (y ∷ ys) = by (path_below y x) (clash_put x ys) (any_put (clash y) x ys)
  where
    by : (b : Bool) → any_clash (put_in_order path_below x ys) ≡ list_any (clash x) ys || any_clash ys
        → list_any (clash y) (put_in_order path_below x ys) ≡ clash y x || list_any (clash y) ys
        → any_clash (cond b (y ∷ put_in_order path_below x ys) (x ∷ y ∷ ys)) ≡ (clash x y || list_any (clash x) ys) || (list_any
        (clash y) ys || any_clash ys)
    by true e f =
        ap (λ b. b || any_clash (put_in_order path_below x ys)) f ∙ ap (λ b. (clash y x || list_any (clash y) ys) || b) e
        ∙ crossed (clash y x) (list_any (clash y) ys) (list_any (clash x) ys) (any_clash ys)
        ∙ ap (λ b. (b || list_any (clash x) ys) || (list_any (clash y) ys || any_clash ys)) (clash_comm y x)
    by false e f = refl

clash_sorted : (xs : List Parts) → any_clash (stably_sorted path_below xs) ≡ any_clash xs
clash_sorted [] = refl
clash_sorted (x ∷ xs) =
    clash_put x (stably_sorted path_below xs) ∙ ap (λ b. b || any_clash (stably_sorted path_below xs)) (any_sorted (clash x) xs)
    ∙ ap (λ b. list_any (clash x) xs || b) (clash_sorted xs)

-- so neighbours in order tell it
pub clashes_told : (xs : List Parts) → neighbours_clash (stably_sorted path_below xs) ≡ any_clash xs
clashes_told xs = sym (neighbours_tell (stably_sorted path_below xs) (up_sorted path_below below_ranks xs)) ∙ clash_sorted xs

-- ---- as a test

none_below : (x : Parts) (xs : List Parts) → Floor x xs → list_any (λ other. path_below other x) xs ≡ false
none_below x [] floor = refl
none_below x (y ∷ ys) floor = ap (λ b. b || list_any (λ other. path_below other x) ys) floor.0 ∙ none_below x ys floor.1

rises_so : (xs : List Parts) → Rises xs → rises xs ≡ true
rises_so [] up = refl
rises_so (x ∷ xs) up = ap (λ b. not b && rises xs) (none_below x xs up.0) ∙ rises_so xs up.1

pub sorted_rises : (xs : List Parts) → rises (stably_sorted path_below xs) ≡ true
sorted_rises xs = rises_so (stably_sorted path_below xs) (up_sorted path_below below_ranks xs)
