-- How two values compare, one level at a time.
use Rattle.std.proofs.Common.{◌≡◌, ℕ, List, [], ◌∷◌, map, refl, ap, ◌∙◌}
use Rattle.std.specs.declared.cmp.Ordering.{Ordering}
use Rattle.std.specs.Ordering.{nat_cmp, ordering_then}
use Rattle.std.specs.Cmp.Lexicographic.{slice_cmp}
use Rattle.bson_values.specs.declared.pairs.Pair.{Pair}
use Rattle.bson_values.specs.declared.value.Value.{Value, map-Value}
use Rattle.bson_values.specs.declared.value.Value.TheViews.{out-Value}
use Rattle.bson_values.specs.declared.value.Value.TheVariants as value
use Rattle.bson_values.specs.declared.value.Value.TheOpen.{Value-F}
use Rattle.bson_values.specs.declared.value.Value.TheFolds.{fold_out-Value}
use Rattle.bson_order.specs.Order.{Side, rank_in, rank_of, bytes_cmp, pair_cmp, layer_cmp, side, compared}

-- ---- the fold, one level at a time

abbrev rank : Side → ℕ
rank it = it.rank

abbrev beside : Side → Value → Ordering
beside it = it.beside

abbrev side_in : Value-F Side → Side
side_in it = record { rank = rank_in it; beside = λ other. layer_cmp rank beside it (out-Value other) }

-- a rank is not changed by what stands in a value
rank_map : (layer : Value-F Value) → rank_in (map-Value Value Side side layer) ≡ rank_in layer
rank_map (Value-F.Str text) = refl
rank_map (Value-F.Doc pairs) = refl
rank_map (Value-F.Arr items) = refl
rank_map (Value-F.Bin it) = refl
rank_map (Value-F.Id id) = refl
rank_map (Value-F.Bool truth) = refl
rank_map (Value-F.Date moment) = refl
rank_map Value-F.Null = refl
rank_map (Value-F.Regex regex) = refl
rank_map (Value-F.Int number) = refl
rank_map (Value-F.Stamp stamp) = refl
rank_map (Value-F.Long number) = refl

side_rank : (it : Value) → (side it).rank ≡ rank_of it
side_rank it = ap rank (fold_out-Value Side side_in it) ∙ rank_map (out-Value it)

-- a pair with the side of its value
abbrev along : Pair Value → Pair Side
along pair = record { name = pair.name; value = side pair.value }

pairs_map : (pairs others : List (Pair Value)) → slice_cmp (pair_cmp rank beside) (map along pairs) others
    ≡ slice_cmp (pair_cmp rank_of compared) pairs others
pairs_map [] [] = refl
pairs_map [] (other ∷ others) = refl
pairs_map (pair ∷ pairs) [] = refl
pairs_map (pair ∷ pairs) (other ∷ others) =
    let behind = ordering_then (bytes_cmp pair.name other.name) (compared pair.value other.value) in
    let rest = slice_cmp (pair_cmp rank beside) (map along pairs) others in
    ap (λ (n : ℕ). ordering_then (ordering_then (nat_cmp n (rank_of other.value)) behind) rest) (side_rank pair.value)
    ∙ ap (λ (rest : Ordering). ordering_then (pair_cmp rank_of compared pair other) rest) (pairs_map pairs others)

items_map : (items others : List Value) → slice_cmp beside (map side items) others ≡ slice_cmp compared items others
items_map [] [] = refl
items_map [] (other ∷ others) = refl
items_map (item ∷ items) [] = refl
items_map (item ∷ items) (other ∷ others) = ap (λ (rest : Ordering). ordering_then (compared item other) rest) (items_map items others)

-- sides compare as their values do
layer_is : (one other : Value-F Value) → layer_cmp rank beside (map-Value Value Side side one) other ≡ layer_cmp rank_of compared one other
layer_is (Value-F.Doc pairs) (Value-F.Doc others) = pairs_map pairs others
layer_is (Value-F.Arr items) (Value-F.Arr others) = items_map items others
layer_is one other = refl

pub compared_is : (one other : Value) → compared one other ≡ layer_cmp rank_of compared (out-Value one) (out-Value other)
compared_is one other = ap (λ (s : Side). s.beside other) (fold_out-Value Side side_in one) ∙ layer_is (out-Value one) (out-Value other)

-- ---- values that hold others

by_layers : (one other : Value) (layer like : Value-F Value) → out-Value one ≡ layer → out-Value other ≡ like
    → compared one other ≡ layer_cmp rank_of compared layer like
by_layers one other layer like is alike =
    compared_is one other ∙ ap (λ (it : Value-F Value). layer_cmp rank_of compared it (out-Value other)) is
    ∙ ap (λ (it : Value-F Value). layer_cmp rank_of compared layer it) alike

pub compared_pairs : (pairs others : List (Pair Value)) → compared (value.Doc pairs) (value.Doc others)
    ≡ slice_cmp (pair_cmp rank_of compared) pairs others
compared_pairs pairs others = by_layers (value.Doc pairs) (value.Doc others) (Value-F.Doc pairs) (Value-F.Doc others) (value.outs-Doc pairs)
    (value.outs-Doc others)

pub compared_items : (items others : List Value) → compared (value.Arr items) (value.Arr others) ≡ slice_cmp compared items others
compared_items items others = by_layers (value.Arr items) (value.Arr others) (Value-F.Arr items) (Value-F.Arr others) (value.outs-Arr items)
    (value.outs-Arr others)
