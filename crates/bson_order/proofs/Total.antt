-- The comparison is a total order.
use Rattle.std.proofs.Common.{◌≡◌, ◌<◌, ℕ, ℤ, zero, suc, ◌+◌, Bool, true, false, List, [], ◌∷◌, length, pos, refl, sym, ap, subst, ◌∙◌}
use Rattle.std.proofs.Common.{arith}
use Rattle.std.specs.declared.cmp.Ordering.{Ordering}
use Rattle.std.specs.declared.cmp.Ordering.TheVariants.{Less, Equal, Greater}
use Rattle.std.specs.Ordering.{nat_cmp, int_cmp, bool_cmp, ordering_then, ordering_reverse, then_cmp, on}
use Rattle.std.specs.Cmp.{IsTotalOrder}
use Rattle.std.specs.Cmp.Lexicographic.{slice_cmp}
use Rattle.std.proofs.lemmas.Bool.Decides.{nat_tests}
use Rattle.std.proofs.lemmas.Cmp.{nat_cmp_total, int_cmp_total, nat_list_cmp_total, on_total, then_total, lists_total}
use Rattle.bson_values.specs.declared.pairs.Pair.{Pair}
use Rattle.bson_values.specs.declared.value.Value.{Value}
use Rattle.bson_values.specs.declared.value.Value.TheViews.{out-Value}
use Rattle.bson_values.specs.declared.value.Value.TheOpen.{Value-F}
use Rattle.bson_order.specs.Order.{rank_in, rank_of, bytes_cmp, pair_cmp, layer_cmp, compared, Below, Same}
use Rattle.bson_order.proofs.Ties.{first_tied, first_decides}
use Rattle.bson_order.proofs.Layers.{compared_is}
use Rattle.bson_order.proofs.Depths.{depth, within, agrees}

-- ---- what a value is compared by, one after another

abbrev number_in : Value-F Value → ℤ
number_in (Value-F.Int number) = number
number_in (Value-F.Long number) = number
number_in (Value-F.Date moment) = moment
number_in layer = pos 0

abbrev natural_of : Bool → ℕ
natural_of false = 0
natural_of true = 1

abbrev natural_in : Value-F Value → ℕ
natural_in (Value-F.Bin it) = length it.bytes
natural_in (Value-F.Bool truth) = natural_of truth
natural_in (Value-F.Stamp stamp) = stamp
natural_in layer = 0

abbrev bytes_in : Value-F Value → List ℕ
bytes_in (Value-F.Str text) = text
bytes_in (Value-F.Bin it) = it.subtype ∷ it.bytes
bytes_in (Value-F.Id id) = id
bytes_in (Value-F.Regex regex) = regex.pattern
bytes_in layer = []

abbrev options_in : Value-F Value → List ℕ
options_in (Value-F.Regex regex) = regex.options
options_in layer = []

abbrev pairs_in : Value-F Value → List (Pair Value)
pairs_in (Value-F.Doc pairs) = pairs
pairs_in layer = []

abbrev items_in : Value-F Value → List Value
items_in (Value-F.Arr items) = items
items_in layer = []

module _ (order : Value → Value → Ordering) where
  -- all of these in turn, of which a type has some
  abbrev chain : Value-F Value → Value-F Value → Ordering
  chain =
      then_cmp (on rank_in nat_cmp)
      (then_cmp (on number_in int_cmp)
      (then_cmp (on natural_in nat_cmp)
      (then_cmp (on bytes_in bytes_cmp)
      (then_cmp (on options_in bytes_cmp)
      (then_cmp (on pairs_in (slice_cmp (pair_cmp rank_of order)))
      (on items_in (slice_cmp order)))))))

  -- what is compared last is tied
  last : (first : Ordering) → first ≡ ordering_then first Equal
  last Less = refl
  last Equal = refl
  last Greater = refl

  truths : (one other : Bool) → bool_cmp one other ≡ ordering_then (nat_cmp (natural_of one) (natural_of other)) Equal
  truths false false = refl
  truths false true = refl
  truths true false = refl
  truths true true = refl

  -- the parts that a type lacks are tied
  chain_is : (one other : Value-F Value) → layer_cmp rank_of order one other ≡ chain one other
  chain_is (Value-F.Int number) (Value-F.Int other) = last (int_cmp number other)
  chain_is (Value-F.Int number) (Value-F.Long other) = last (int_cmp number other)
  chain_is (Value-F.Long number) (Value-F.Int other) = last (int_cmp number other)
  chain_is (Value-F.Long number) (Value-F.Long other) = last (int_cmp number other)
  chain_is (Value-F.Str text) (Value-F.Str other) = last (bytes_cmp text other)
  chain_is (Value-F.Doc pairs) (Value-F.Doc others) = last (slice_cmp (pair_cmp rank_of order) pairs others)
  chain_is (Value-F.Arr items) (Value-F.Arr others) = refl
  chain_is (Value-F.Bin it) (Value-F.Bin other) = ap (λ (rest : Ordering). ordering_then
      (nat_cmp (length it.bytes) (length other.bytes)) rest) (last (bytes_cmp (it.subtype ∷ it.bytes) (other.subtype ∷ other.bytes)))
  chain_is (Value-F.Id id) (Value-F.Id other) = last (bytes_cmp id other)
  chain_is (Value-F.Bool truth) (Value-F.Bool other) = truths truth other
  chain_is (Value-F.Date moment) (Value-F.Date other) = last (int_cmp moment other)
  chain_is (Value-F.Stamp stamp) (Value-F.Stamp other) = last (nat_cmp stamp other)
  chain_is (Value-F.Regex regex) (Value-F.Regex other) = ap (λ (rest : Ordering). ordering_then
      (bytes_cmp regex.pattern other.pattern) rest) (last (bytes_cmp regex.options other.options))
  chain_is Value-F.Null Value-F.Null = refl
  chain_is one other = refl

  pair_total : IsTotalOrder order → IsTotalOrder (pair_cmp rank_of order)
  pair_total is =
      then_total (on_total (λ (pair : Pair Value). rank_of pair.value) nat_cmp_total)
      (then_total (on_total (λ (pair : Pair Value). pair.name) nat_list_cmp_total)
      (on_total (λ (pair : Pair Value). pair.value) is))

  chain_total : IsTotalOrder order → IsTotalOrder chain
  chain_total is =
      then_total (on_total rank_in nat_cmp_total)
      (then_total (on_total number_in int_cmp_total)
      (then_total (on_total natural_in nat_cmp_total)
      (then_total (on_total bytes_in nat_list_cmp_total)
      (then_total (on_total options_in nat_list_cmp_total)
      (then_total (on_total pairs_in (lists_total (pair_total is)))
      (on_total items_in (lists_total is)))))))

  layer_total : IsTotalOrder order → IsTotalOrder (layer_cmp rank_of order)
  layer_total is = subst IsTotalOrder (λ i one other. sym (chain_is one other) i) (chain_total is)

-- ---- level by level

within_total : (levels : ℕ) → IsTotalOrder (within levels)
within_total zero = record { antisymm = λ x y. refl; trans = λ x y z one two. one; congr = λ x y z same. refl }
within_total (suc levels) = on_total out-Value (layer_total (within levels) (within_total levels))

pub compared_total : IsTotalOrder compared
compared_total = record {
  antisymm = λ x y.
      let levels = depth x + depth y + 1 in
      agrees levels x (omega arith) y ∙ (within_total levels).antisymm x y ∙ ap ordering_reverse (sym (agrees levels y (omega arith) x));
  trans = λ x y z one two.
      let levels = depth x + depth y + 1 in
      agrees levels x (omega arith) z ∙ (within_total levels).trans x y z (sym (agrees levels x (omega arith) y)
      ∙ one) (sym (agrees levels y (omega arith) z) ∙ two);
  congr = λ x y z same.
      let levels = depth x + depth y + 1 in
      agrees levels x (omega arith) z ∙ (within_total levels).congr x y z (sym (agrees levels x (omega arith) y) ∙ same)
      ∙ sym (agrees levels y (omega arith) z);
}

-- a value of a lower rank is below
pub lower_rank : (one other : Value) → rank_of one < rank_of other → Below one other
lower_rank one other lower =
    let ranks : nat_cmp (rank_of one) (rank_of other) ≡ Less = grind (arith, nat_tests) in
    compared_is one other ∙ chain_is compared (out-Value one) (out-Value other)
    ∙ first_decides (nat_cmp (rank_of one) (rank_of other)) _ ranks

-- values that are the same have one rank
pub same_rank : (one other : Value) → Same one other → nat_cmp (rank_of one) (rank_of other) ≡ Equal
same_rank one other same = first_tied (nat_cmp (rank_of one) (rank_of other)) _ (sym (chain_is compared (out-Value one) (out-Value other))
    ∙ sym (compared_is one other) ∙ same)
