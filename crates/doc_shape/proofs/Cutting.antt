-- Of paths that rise, those whose part is a name stand side by side.
use Rattle.std.proofs.Common.{◌≡◌, ℕ, zero, suc, ◌≤◌, ◌<◌, ◌+◌, Bool, true, false, cond, ◌&&◌, ◌||◌, not, List, [], ◌∷◌, ◌++◌, map}
use Rattle.std.proofs.Common.{take, drop, length, slice_index_or}
use Rattle.std.proofs.Common.{refl, sym, ap, ◌∙◌, arith}
use Rattle.std.proofs.lemmas.List.{take-append-drop, drop-drop, drop_all, drop_more, append-nil}
use Rattle.std.specs.List.{list_any, AllWithin}
use Rattle.std.specs.List.Sorted.{IsPartitionedBy}
use Rattle.std.specs.Str.{bytes_eq}
use Rattle.std.specs.Ordering.{nat_cmp, is_lt, is_eq, ordering_then, ordering_reverse}
use Rattle.std.specs.declared.cmp.Ordering.{Ordering}
use Rattle.std.specs.declared.cmp.Ordering.TheVariants.{Less, Equal, Greater}
use Rattle.std.specs.Cmp.{IsStrictWeakOrder}
use Rattle.std.specs.Cmp.Lexicographic.{slice_cmp}
use Rattle.std.proofs.lemmas.Cmp.{nat_list_cmp_total}
use Rattle.std.proofs.lemmas.List.Sorted.{ranks_by}
use Rattle.std.proofs.lemmas.Map.Text.{is_eq-slice_cmp}
use Rattle.std.proofs.lemmas.Slice.Eq.{bytes_eq-Decides}
use Rattle.doc_shape.specs.Clashes.{Parts, parts_cmp, path_below, rises}
use Rattle.doc_shape.specs.Cuts.{tails, before, up_to, none_before}
use Rattle.doc_shape.specs.Shown.{behind, is_end, any_ends}

abbrev less : List ℕ → List ℕ → Bool
less one other = is_lt (slice_cmp nat_cmp one other)

ranks : IsStrictWeakOrder less
ranks = ranks_by nat_list_cmp_total (λ (text : List ℕ). text)

not_self : (text : List ℕ) → less text text ≡ false
not_self text = of (less text text) refl
  where
    of : (b : Bool) → less text text ≡ b → b ≡ false
    of true e = sym e ∙ ranks.one_way text text e
    of false e = refl

own_cmp : (text : List ℕ) → slice_cmp nat_cmp text text ≡ Equal
own_cmp text = tied (slice_cmp nat_cmp text text) (is_eq-slice_cmp text text ∙ (bytes_eq-Decides text text).1 refl)
  where
    tied : (o : Ordering) → is_eq o ≡ true → o ≡ Equal
    tied Equal e = refl
    tied Less e = absurd (cc)
    tied Greater e = absurd (cc)

-- ---- one path beside another

heads_so : (o p : Ordering) → is_lt (ordering_then o p) ≡ false → is_lt o ≡ false
heads_so Less p e = absurd (cc)
heads_so Equal p e = refl
heads_so Greater p e = refl

pub before_falls : (name : List ℕ) (one other : Parts) → path_below other one ≡ false → before name other ≡ true → before name one ≡ true
before_falls name [] other e h = refl
before_falls name (x ∷ one) [] e h = absurd (cc)
before_falls name (x ∷ one) (y ∷ other) e h = by (less x name) refl
  where
    by : (b : Bool) → less x name ≡ b → b ≡ true
    by true f = refl
    by false f =
        let no : less y name ≡ false = ranks.chain y x name (heads_so (slice_cmp nat_cmp y x) (parts_cmp other one) e) f in absurd (cc)

pub up_to_falls : (name : List ℕ) (one other : Parts) → path_below other one ≡ false → up_to name other ≡ true → up_to name one ≡ true
up_to_falls name [] other e h = refl
up_to_falls name (x ∷ one) [] e h = absurd (cc)
up_to_falls name (x ∷ one) (y ∷ other) e h = by (less name y) refl h
  where
    by : (b : Bool) → less name y ≡ b → not b ≡ true → not (less name x) ≡ true
    by true f g = absurd (cc)
    by false f g = ap not (ranks.chain name y x f (heads_so (slice_cmp nat_cmp y x) (parts_cmp other one) e))

-- ---- in a list that rises

both : (a b : Bool) → not a && b ≡ true → (a ≡ false) × (b ≡ true)
both true b e = absurd (cc)
both false b e = (refl, e)

none_of : {X : Type 0} (p : X → Bool) (xs : List X) (k : ℕ) (d : X) → list_any p xs ≡ false → k < length xs
    → p (slice_index_or xs k d) ≡ false
none_of p [] k d none low = absurd (omega (arith, low))
none_of p (x ∷ xs) zero d none low = by (p x) none
  where
    by : (a : Bool) → a || list_any p xs ≡ false → a ≡ false
    by true e = absurd (cc)
    by false e = refl
none_of p (x ∷ xs) (suc k) d none low = none_of p xs k d (by (p x) none) (omega arith)
  where
    by : (a : Bool) → a || list_any p xs ≡ false → list_any p xs ≡ false
    by true e = absurd (cc)
    by false e = e

any_map : {X Y : Type 0} (p : Y → Bool) (f : X → Y) (xs : List X) → list_any p (map f xs) ≡ list_any (λ x. p (f x)) xs
any_map p f [] = refl
any_map p f (x ∷ xs) = ap (λ b. p (f x) || b) (any_map p f xs)

pub falls_along : (test : Parts → Bool) → ((one other : Parts) → path_below other one ≡ false → test other ≡ true → test one ≡ true)
    → (depth : ℕ) (paths : List Parts) → rises (tails depth paths) ≡ true → IsPartitionedBy (λ path. test (drop depth path)) paths
falls_along test falls depth [] up i j d low high told = absurd (omega (arith, high))
falls_along test falls depth (path ∷ paths) up zero zero d low high told = told
falls_along test falls depth (path ∷ paths) up zero (suc j) d low high told =
    let parted = both (list_any (λ other. path_below other (drop depth path)) (tails depth paths)) (rises (tails depth paths)) up in
    let none = sym (any_map (λ other. path_below other (drop depth path)) (drop depth) paths) ∙ parted.0 in
    falls (drop depth path) (drop depth (slice_index_or paths j d))
    (none_of (λ other. path_below (drop depth other) (drop depth path)) paths j d none (omega arith)) told
falls_along test falls depth (path ∷ paths) up (suc i) zero d low high told = absurd (omega (arith, low))
falls_along test falls depth (path ∷ paths) up (suc i) (suc j) d low high told =
    falls_along test falls depth paths
    ((both (list_any (λ other. path_below other (drop depth path)) (tails depth paths)) (rises (tails depth paths)) up).1) i j d
    (omega arith) (omega arith) told

pub rises_behind : (depth : ℕ) (paths : List Parts) (i : ℕ) → rises (tails depth paths) ≡ true → rises (tails depth (drop i paths)) ≡ true
rises_behind depth paths zero up = up
rises_behind depth [] (suc i) up = refl
rises_behind depth (path ∷ paths) (suc i) up =
    rises_behind depth paths i ((both (list_any (λ other. path_below other (drop depth path)) (tails depth paths)) (rises
    (tails depth paths)) up).1)

-- ---- what is behind a name

skipped : (name : List ℕ) (path : Parts) (paths : List Parts) → (before name path ≡ true) → behind name (path ∷ paths) ≡ behind name paths
skipped name [] paths h = refl
skipped name (part ∷ rest) paths h = by (bytes_eq part name) refl
  where
    by : (b : Bool) → bytes_eq part name ≡ b → cond b (rest ∷ behind name paths) (behind name paths) ≡ behind name paths
    by true e =
        let same : part ≡ name = (bytes_eq-Decides part name).0 e in
        let no : less part name ≡ false = ap (λ n. less n name) same ∙ not_self name in absurd (cc)
    by false e = refl

joined_behind : (name : List ℕ) (xs ys : List Parts) → behind name (xs ++ ys) ≡ behind name xs ++ behind name ys
joined_behind name [] ys = refl
joined_behind name ([] ∷ xs) ys = joined_behind name xs ys
joined_behind name ((part ∷ rest) ∷ xs) ys =
    ap (λ more. cond (bytes_eq part name) (rest ∷ more) more) (joined_behind name xs ys) ∙ by (bytes_eq part name)
  where
    by : (b : Bool) → cond b (rest ∷ (behind name xs ++ behind name ys)) (behind name xs ++ behind name ys) ≡ cond b
        (rest ∷ behind name xs) (behind name xs) ++ behind name ys
    by true = refl
    by false = refl

map_joined : (depth : ℕ) (xs ys : List Parts) → tails depth (xs ++ ys) ≡ tails depth xs ++ tails depth ys
map_joined depth [] ys = refl
map_joined depth (x ∷ xs) ys = ap (λ more. drop depth x ∷ more) (map_joined depth xs ys)

-- the paths before a place, of which each stands before the name, lead on to none
none_behind : (name : List ℕ) (depth : ℕ) (paths : List Parts) (i : ℕ) → AllWithin (λ path. before name (drop depth path) ≡ true) paths 0 i
    → behind name (tails depth (take i paths)) ≡ []
none_behind name depth paths zero all = refl
none_behind name depth [] (suc i) all = refl
none_behind name depth (path ∷ paths) (suc i) all =
    skipped name (drop depth path) (tails depth (take i paths)) (all 0 path (omega arith) (omega arith))
    ∙ none_behind name depth paths i (λ k d low high. all (suc k) d (omega arith) (omega arith))

pub behind_rest : (name : List ℕ) (depth : ℕ) (paths : List Parts) (i : ℕ)
    → AllWithin (λ path. before name (drop depth path) ≡ true) paths 0 i
    → behind name (tails depth (drop i paths)) ≡ behind name (tails depth paths)
behind_rest name depth paths i all =
    ap (λ front. front ++ behind name (tails depth (drop i paths))) (sym (none_behind name depth paths i all))
    ∙ sym (joined_behind name (tails depth (take i paths)) (tails depth (drop i paths)))
    ∙ ap (behind name) (sym (map_joined depth (take i paths) (drop i paths)) ∙ ap (tails depth) (take-append-drop i paths))

pub none_left : (name : List ℕ) (depth : ℕ) (paths : List Parts) (i : ℕ)
    → AllWithin (λ path. before name (drop depth path) ≡ false) paths i (length paths)
    → none_before name (tails depth (drop i paths)) ≡ true
none_left name depth [] zero all = refl
none_left name depth (path ∷ paths) zero all =
    ap (λ b. not (b || list_any (before name) (tails depth paths))) (all 0 path (omega arith) (omega arith))
    ∙ none_left name depth paths zero (λ k d low high. all (suc k) d (omega arith) (omega arith))
none_left name depth [] (suc i) all = refl
none_left name depth (path ∷ paths) (suc i) all = none_left name depth paths i (λ k d low high. all (suc k) d (omega arith) (omega arith))

-- ---- those that stand up to the name and not before it

cut : (name : List ℕ) (a : Bool) (xs : List Parts) → not (a || list_any (before name) xs) ≡ true
    → (a ≡ false) × (none_before name xs ≡ true)
cut name true xs e = absurd (cc)
cut name false xs e = (refl, e)

same_part : (part name : List ℕ) → less part name ≡ false → less name part ≡ false → bytes_eq part name ≡ true
same_part part name e f =
    sym (is_eq-slice_cmp part name) ∙ by (slice_cmp nat_cmp part name) refl e (ap is_lt (sym (nat_list_cmp_total.antisymm name part)) ∙ f)
  where
    by : (o : Ordering) → slice_cmp nat_cmp part name ≡ o → is_lt (slice_cmp nat_cmp part name) ≡ false
        → is_lt (ordering_reverse (slice_cmp nat_cmp part name)) ≡ false
        → is_eq (slice_cmp nat_cmp part name) ≡ true
    by Less is e f = let no : is_lt (slice_cmp nat_cmp part name) ≡ true = ap is_lt is in absurd (cc)
    by Equal is e f = ap is_eq is
    by Greater is e f = let no : is_lt (ordering_reverse (slice_cmp nat_cmp part name)) ≡ true = ap (λ o. is_lt
        (ordering_reverse o)) is in absurd (cc)

one_more_part : (depth : ℕ) (path rest : Parts) (part : List ℕ) → drop depth path ≡ part ∷ rest → drop (depth + 1) path ≡ rest
one_more_part depth path rest part is = sym (drop-drop 1 depth path) ∙ ap (drop 1) is

this_one : (name : List ℕ) (depth : ℕ) (path : Parts) (more : List Parts) (tail : Parts) → drop depth path ≡ tail
    → before name tail ≡ false → up_to name tail ≡ true → behind name (tail ∷ more) ≡ drop (depth + 1) path ∷ behind name more
this_one name depth path more [] is e f = absurd (cc)
this_one name depth path more (part ∷ rest) is e f =
    ap (λ b. cond b (rest ∷ behind name more) (behind name more)) (same_part part name e (untrue (less name part) f))
    ∙ ap (λ it. it ∷ behind name more) (sym (one_more_part depth path rest part is))
  where
    untrue : (b : Bool) → not b ≡ true → b ≡ false
    untrue true e = absurd (cc)
    untrue false e = refl

up_front : (name : List ℕ) (depth : ℕ) (paths : List Parts) (i : ℕ) → none_before name (tails depth paths) ≡ true
    → AllWithin (λ path. up_to name (drop depth path) ≡ true) paths 0 i
    → tails (depth + 1) (take i paths) ≡ behind name (tails depth (take i paths))
up_front name depth paths zero none all = refl
up_front name depth [] (suc i) none all = refl
up_front name depth (path ∷ paths) (suc i) none all =
    let parted = cut name (before name (drop depth path)) (tails depth paths) none in
    ap (λ more. drop (depth + 1) path ∷ more)
    (up_front name depth paths i parted.1 (λ k d low high. all (suc k) d (omega arith) (omega arith)))
    ∙ sym (this_one name depth path (tails depth (take i paths)) (drop depth path) refl parted.0 (all 0 path (omega arith) (omega arith)))

passed_by : (name : List ℕ) (path : Parts) (paths : List Parts) → up_to name path ≡ false → behind name (path ∷ paths) ≡ behind name paths
passed_by name [] paths h = absurd (cc)
passed_by name (part ∷ rest) paths h = by (bytes_eq part name) refl
  where
    by : (b : Bool) → bytes_eq part name ≡ b → cond b (rest ∷ behind name paths) (behind name paths) ≡ behind name paths
    by true e =
        let same : part ≡ name = (bytes_eq-Decides part name).0 e in
        let no : less name part ≡ false = ap (less name) same ∙ not_self name in
        let yes : not (less name part) ≡ true = ap not no in absurd (cc)
    by false e = refl

none_past : (name : List ℕ) (depth : ℕ) (paths : List Parts) (i : ℕ)
    → AllWithin (λ path. up_to name (drop depth path) ≡ false) paths i (length paths) → behind name (tails depth (drop i paths)) ≡ []
none_past name depth [] zero all = refl
none_past name depth (path ∷ paths) zero all =
    passed_by name (drop depth path) (tails depth paths) (all 0 path (omega arith) (omega arith))
    ∙ none_past name depth paths zero (λ k d low high. all (suc k) d (omega arith) (omega arith))
none_past name depth [] (suc i) all = refl
none_past name depth (path ∷ paths) (suc i) all = none_past name depth paths i (λ k d low high. all (suc k) d (omega arith) (omega arith))

pub behind_front : (name : List ℕ) (depth : ℕ) (paths : List Parts) (i : ℕ) → none_before name (tails depth paths) ≡ true
    → AllWithin (λ path. up_to name (drop depth path) ≡ true) paths 0 i
    → AllWithin (λ path. up_to name (drop depth path) ≡ false) paths i (length paths)
    → tails (depth + 1) (take i paths) ≡ behind name (tails depth paths)
behind_front name depth paths i none all past =
    up_front name depth paths i none all
    ∙ sym (append-nil (behind name (tails depth (take i paths))))
    ∙ ap (λ more. behind name (tails depth (take i paths)) ++ more) (sym (none_past name depth paths i past))
    ∙ sym (joined_behind name (tails depth (take i paths)) (tails depth (drop i paths)))
    ∙ ap (behind name) (sym (map_joined depth (take i paths) (drop i paths)) ∙ ap (tails depth) (take-append-drop i paths))

-- ---- what is left rises too

halves : (a b : Bool) → a || b ≡ false → (a ≡ false) × (b ≡ false)
halves true b e = absurd (cc)
halves false b e = (refl, e)

none_lower : (name part : List ℕ) (rest : Parts) (paths : List Parts) → part ≡ name
    → list_any (λ other. path_below other (part ∷ rest)) paths ≡ false
    → list_any (λ other. path_below other rest) (behind name paths) ≡ false
none_lower name part rest [] is none = refl
none_lower name part rest ([] ∷ paths) is none = absurd (cc)
none_lower name part rest ((first ∷ other) ∷ paths) is none =
    let parted = halves (path_below (first ∷ other) (part ∷ rest)) (list_any (λ other. path_below other (part ∷ rest)) paths) none in
    by (bytes_eq first name) refl parted.0 (none_lower name part rest paths is parted.1)
  where
    by : (b : Bool) → bytes_eq first name ≡ b → path_below (first ∷ other) (part ∷ rest) ≡ false
        → list_any (λ other. path_below other rest) (behind name paths) ≡ false
        → list_any (λ other. path_below other rest) (cond b (other ∷ behind name paths) (behind name paths)) ≡ false
    by true e lower more =
        let same : first ≡ part = (bytes_eq-Decides first name).0 e ∙ sym is in
        let tied : slice_cmp nat_cmp first part ≡ Equal = ap (λ text. slice_cmp nat_cmp text part) same ∙ own_cmp part in
        let here : path_below other rest ≡ false = ap (λ o. is_lt (ordering_then o (parts_cmp other rest))) (sym tied) ∙ lower in
        ap (λ b. b || list_any (λ other. path_below other rest) (behind name paths)) here ∙ more
    by false e lower more = more

pub behind_rises : (name : List ℕ) (paths : List Parts) → rises paths ≡ true → rises (behind name paths) ≡ true
behind_rises name [] up = refl
behind_rises name ([] ∷ paths) up = behind_rises name paths (both (list_any (λ other. path_below other []) paths) (rises paths) up).1
behind_rises name ((part ∷ rest) ∷ paths) up =
    let parted = both (list_any (λ other. path_below other (part ∷ rest)) paths) (rises paths) up in
    by (bytes_eq part name) refl parted.0 (behind_rises name paths parted.1)
  where
    by : (b : Bool) → bytes_eq part name ≡ b → list_any (λ other. path_below other (part ∷ rest)) paths ≡ false
        → rises (behind name paths) ≡ true
        → rises (cond b (rest ∷ behind name paths) (behind name paths)) ≡ true
    by true e none more =
        ap (λ b. not b && rises (behind name paths)) (none_lower name part rest paths ((bytes_eq-Decides part name).0 e) none) ∙ more
    by false e none more = more

-- ---- a path that ends here is the first

pub first_ends : (depth : ℕ) (path : Parts) (paths : List Parts) → length path ≤ depth → any_ends (tails depth (path ∷ paths)) ≡ true
first_ends depth path paths low = ap (λ (tail : Parts). is_end tail || any_ends (tails depth paths)) (drop_all depth path low)

leads : (x : List ℕ) (rest : Parts) (paths : List Parts) → list_any (λ other. path_below other (x ∷ rest)) paths ≡ false
    → any_ends paths ≡ false
leads x rest [] none = refl
leads x rest ([] ∷ paths) none = absurd (cc)
leads x rest ((y ∷ other) ∷ paths) none =
    leads x rest paths (halves (path_below (y ∷ other) (x ∷ rest)) (list_any (λ other. path_below other (x ∷ rest)) paths) none).1

pub none_ends : (depth : ℕ) (path : Parts) (paths : List Parts) → depth < length path → rises (tails depth (path ∷ paths)) ≡ true
    → any_ends (tails depth (path ∷ paths)) ≡ false
none_ends depth path paths low up =
    let is = drop_more path depth [] low in
    let parted = both (list_any (λ other. path_below other (drop depth path)) (tails depth paths)) (rises (tails depth paths)) up in
    ap (λ (tail : Parts). is_end tail || any_ends (tails depth paths)) is
    ∙ leads (slice_index_or path depth []) (drop (depth + 1) path) (tails depth paths)
    (ap (λ (tail : Parts). list_any (λ other. path_below other tail) (tails depth paths)) (sym is) ∙ parted.0)
