-- The comparisons of a sort are total orders.
use Rattle.std.proofs.Common.{◌≡◌, ◌∙◌, sym, ap, List, [], ◌∷◌, map, Bool, true, false, cond, refl, length, arith}
use Rattle.std.specs.Cmp.{IsTotalOrder, IsStrictWeakOrder}
use Rattle.std.specs.Cmp.Lexicographic.{slice_cmp, options_total}
use Rattle.std.specs.Option.{option_cmp}
use Rattle.bson_order.specs.Order.{compared}
use Rattle.std.specs.Ordering.{is_lt, ordering_then, ordering_reverse}
use Rattle.std.specs.declared.cmp.Ordering.TheVariants.{Less, Equal}
use Rattle.std.proofs.lemmas.Cmp.{lists_total, back_total}
use Rattle.std.proofs.lemmas.List.Sorted.{ranks_by}
use Rattle.bson_order.proofs.Total.{compared_total}
use Rattle.doc_shape.specs.Keys.{Doc, Way, key, key_cmp}
use Rattle.doc_shape.specs.Sorted.{put_in_order, stably_sorted, order_cmp, sorted}
use Rattle.doc_shape.specs.Rows.{sort_key_cmp, sort_key, row, row_below}
use Rattle.doc_shape.specs.declared.sorting.SortKey.{SortKey}
use Rattle.doc_shape.specs.declared.sorting.SortKey.TheVariants.{Up, Down}
use Rattle.doc_shape.specs.declared.sorting.Row.{Row}

up : IsTotalOrder (option_cmp compared)
up = options_total compared_total

down : IsTotalOrder (λ one other. option_cmp compared other one)
down = back_total up

turned : (x y : SortKey) → sort_key_cmp x y ≡ ordering_reverse (sort_key_cmp y x)
turned (Up x) (Up y) = up.antisymm x y
turned (Up x) (Down y) = refl
turned (Down x) (Up y) = refl
turned (Down x) (Down y) = down.antisymm x y

chained : (x y z : SortKey) → sort_key_cmp x y ≡ Less → sort_key_cmp y z ≡ Less → sort_key_cmp x z ≡ Less
chained (Up x) (Up y) (Up z) p q = up.trans x y z p q
chained (Up x) (Up y) (Down z) p q = refl
chained (Up x) (Down y) (Up z) p q = absurd (cc)
chained (Up x) (Down y) (Down z) p q = refl
chained (Down x) (Up y) z p q = absurd (cc)
chained (Down x) (Down y) (Up z) p q = absurd (cc)
chained (Down x) (Down y) (Down z) p q = down.trans x y z p q

tied : (x y z : SortKey) → sort_key_cmp x y ≡ Equal → sort_key_cmp x z ≡ sort_key_cmp y z
tied (Up x) (Up y) (Up z) p = up.congr x y z p
tied (Up x) (Up y) (Down z) p = refl
tied (Up x) (Down y) z p = absurd (cc)
tied (Down x) (Up y) z p = absurd (cc)
tied (Down x) (Down y) (Up z) p = refl
tied (Down x) (Down y) (Down z) p = down.congr x y z p

sort_key_total : IsTotalOrder sort_key_cmp
sort_key_total = record { antisymm = turned; trans = chained; congr = tied }

pub row_ranks : IsStrictWeakOrder row_below
row_ranks = ranks_by (lists_total sort_key_total) (λ (row : Row). row.keys)

same_key : (way : Way) (one other : Doc) → sort_key_cmp (sort_key one way) (sort_key other way) ≡ key_cmp way.1 (key way one)
    (key way other)
same_key (path, true) one other = refl
same_key (path, false) one other = refl

-- the keys of two documents stand as the documents do
pub same_order : (ways : List Way) (one other : Doc)
    → slice_cmp sort_key_cmp (map (sort_key one) ways) (map (sort_key other) ways) ≡ order_cmp ways one other
same_order [] one other = refl
same_order (way ∷ ways) one other =
    ap (λ told. ordering_then told (slice_cmp sort_key_cmp (map (sort_key one) ways) (map (sort_key other) ways))) (same_key way one other)
    ∙ ap (ordering_then (key_cmp way.1 (key way one) (key way other))) (same_order ways one other)

-- ---- what is carried along does not turn a sort

put_carried : {X Y : Type 0} (lo : X → X → Bool) (lt : Y → Y → Bool) (f : X → Y) → ((a b : X) → lt (f a) (f b) ≡ lo a b)
    → (x : X) (xs : List X) → put_in_order lt (f x) (map f xs) ≡ map f (put_in_order lo x xs)
put_carried lo lt f same x [] = refl
put_carried lo lt f same x (y ∷ ys) =
    ap (λ b. cond b (f y ∷ put_in_order lt (f x) (map f ys)) (f x ∷ f y ∷ map f ys)) (same y x)
    ∙ ap (λ zs. cond (lo y x) (f y ∷ zs) (f x ∷ f y ∷ map f ys)) (put_carried lo lt f same x ys)
    ∙ either (lo y x)
  where
    either : (b : Bool) → cond b (f y ∷ map f (put_in_order lo x ys)) (f x ∷ f y ∷ map f ys) ≡ map f (cond b (y ∷ put_in_order lo x ys)
        (x ∷ y ∷ ys))
    either true = refl
    either false = refl

carried : {X Y : Type 0} (lo : X → X → Bool) (lt : Y → Y → Bool) (f : X → Y) → ((a b : X) → lt (f a) (f b) ≡ lo a b)
    → (xs : List X) → stably_sorted lt (map f xs) ≡ map f (stably_sorted lo xs)
carried lo lt f same [] = refl
carried lo lt f same (x ∷ xs) = ap (put_in_order lt (f x)) (carried lo lt f same xs) ∙ put_carried lo lt f same x (stably_sorted lo xs)

back_again : (ways : List Way) (docs : List Doc) → map (λ (it : Row). it.doc) (map (row ways) docs) ≡ docs
back_again ways [] = refl
back_again ways (doc ∷ docs) = ap (λ more. doc ∷ more) (back_again ways docs)

pub rows_sorted : (ways : List Way) (docs : List Doc)
    → map (λ (it : Row). it.doc) (stably_sorted row_below (map (row ways) docs)) ≡ sorted ways docs
rows_sorted ways docs =
    ap (map (λ (it : Row). it.doc))
    (carried (λ one other. is_lt (order_cmp ways one other)) row_below (row ways) (λ one other. ap is_lt (same_order ways one other)) docs)
    ∙ back_again ways (sorted ways docs)

-- by no key all stays as it stands
unmoved : (docs : List Doc) → sorted [] docs ≡ docs
unmoved [] = refl
unmoved (doc ∷ docs) = ap (put_in_order (λ one other. false) doc) (unmoved docs) ∙ first docs
  where
    first : (docs : List Doc) → put_in_order (λ one other. false) doc docs ≡ doc ∷ docs
    first [] = refl
    first (next ∷ docs) = refl

pub sorted_by_none : (ways : List Way) (docs : List Doc) → length ways ≡ 0 → docs ≡ sorted ways docs
sorted_by_none [] docs none = sym (unmoved docs)
sorted_by_none (way ∷ ways) docs none = absurd (omega (arith, none))
