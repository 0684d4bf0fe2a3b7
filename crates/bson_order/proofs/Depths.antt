-- How deep a value is, and its comparison in so many levels.
use Rattle.std.proofs.Common.{◌≡◌, ◌<◌, ℕ, zero, suc, max, List, [], ◌∷◌, map, refl, ap, ◌∙◌, arith}
use Rattle.std.specs.declared.cmp.Ordering.{Ordering}
use Rattle.std.specs.declared.cmp.Ordering.TheVariants.{Equal}
use Rattle.std.specs.Ordering.{nat_cmp, ordering_then}
use Rattle.std.specs.Cmp.Lexicographic.{slice_cmp}
use Rattle.bson_values.specs.declared.pairs.Pair.{Pair}
use Rattle.bson_values.specs.declared.value.Value.{Value, map-Value}
use Rattle.bson_values.specs.declared.value.Value.TheViews.{out-Value}
use Rattle.bson_values.specs.declared.value.Value.TheOpen.{Value-F}
use Rattle.bson_values.specs.declared.value.Value.TheFolds.{fold-Value, fold_out-Value}
use Rattle.bson_order.specs.Order.{rank_of, bytes_cmp, pair_cmp, layer_cmp, compared}
use Rattle.bson_order.proofs.Layers.{compared_is}

abbrev pub most : List ℕ → ℕ
most [] = 0
most (n ∷ ns) = max n (most ns)

abbrev depth_in : Value-F ℕ → ℕ
depth_in (Value-F.Doc pairs) = suc (most (map (λ (pair : Pair ℕ). pair.value) pairs))
depth_in (Value-F.Arr items) = suc (most items)
depth_in layer = 0

-- how many levels of documents and arrays
abbrev pub depth : Value → ℕ
depth = fold-Value ℕ depth_in

-- the same of a layer, by the depths of the values in it
abbrev pub layer_depth : Value-F Value → ℕ
layer_depth layer = depth_in (map-Value Value ℕ depth layer)

pub depth_is : (it : Value) → depth it ≡ layer_depth (out-Value it)
depth_is = fold_out-Value ℕ depth_in

-- a pair with the depth of its value
abbrev pub with_depth : Pair Value → Pair ℕ
with_depth pair = record { name = pair.name; value = depth pair.value }

-- how deep the deepest of their values is
abbrev pub pairs_depth : List (Pair Value) → ℕ
pairs_depth pairs = most (map (λ (pair : Pair ℕ). pair.value) (map with_depth pairs))

-- ---- so many levels

-- the comparison in so many levels; below them all is the same
abbrev pub within : ℕ → Value → Value → Ordering
within zero one other = Equal
within (suc levels) one other = layer_cmp rank_of (within levels) (out-Value one) (out-Value other)

abbrev Agrees : ℕ → Type 0
Agrees levels = (one : Value) → depth one < levels → (other : Value) → compared one other ≡ within levels one other

pairs_agree : (levels : ℕ) → Agrees levels → (pairs others : List (Pair Value)) → pairs_depth pairs < levels
    → slice_cmp (pair_cmp rank_of compared) pairs others ≡ slice_cmp (pair_cmp rank_of (within levels)) pairs others
pairs_agree levels agree [] [] below = refl
pairs_agree levels agree [] (other ∷ others) below = refl
pairs_agree levels agree (pair ∷ pairs) [] below = refl
pairs_agree levels agree (pair ∷ pairs) (other ∷ others) below =
    let ranks = nat_cmp (rank_of pair.value) (rank_of other.value) in
    let names = bytes_cmp pair.name other.name in
    let rest = slice_cmp (pair_cmp rank_of compared) pairs others in
    ap (λ (last : Ordering). ordering_then (ordering_then ranks (ordering_then names last)) rest)
    (agree pair.value (omega arith) other.value)
    ∙ ap (λ (rest : Ordering). ordering_then (pair_cmp rank_of (within levels) pair other) rest)
    (pairs_agree levels agree pairs others (omega arith))

items_agree : (levels : ℕ) → Agrees levels → (items others : List Value) → most (map depth items) < levels
    → slice_cmp compared items others ≡ slice_cmp (within levels) items others
items_agree levels agree [] [] below = refl
items_agree levels agree [] (other ∷ others) below = refl
items_agree levels agree (item ∷ items) [] below = refl
items_agree levels agree (item ∷ items) (other ∷ others) below =
    ap (λ (first : Ordering). ordering_then first (slice_cmp compared items others)) (agree item (omega arith) other)
    ∙ ap (λ (rest : Ordering). ordering_then (within levels item other) rest) (items_agree levels agree items others (omega arith))

layers_agree : (levels : ℕ) → Agrees levels → (layer other : Value-F Value) → layer_depth layer < suc levels
    → layer_cmp rank_of compared layer other ≡ layer_cmp rank_of (within levels) layer other
layers_agree levels agree (Value-F.Doc pairs) (Value-F.Doc others) below = pairs_agree levels agree pairs others (omega arith)
layers_agree levels agree (Value-F.Arr items) (Value-F.Arr others) below = items_agree levels agree items others (omega arith)
layers_agree levels agree layer other below = refl

-- a value of fewer levels is compared so
pub agrees : (levels : ℕ) → Agrees levels
agrees zero one below other = absurd (omega arith)
agrees (suc levels) one below other = compared_is one other ∙ layers_agree levels (agrees levels) (out-Value one) (out-Value other)
    (omega (arith, depth_is one))
