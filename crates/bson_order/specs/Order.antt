-- The order of values: MongoDB Manual, "Comparison/Sort Order", in twelve types.
use Rattle.std.specs.Prelude.{ℕ, ◌≡◌, Bool, List, length}
use Rattle.std.specs.declared.cmp.Ordering.{Ordering}
use Rattle.std.specs.declared.cmp.Ordering.TheVariants.{Less, Equal}
use Rattle.std.specs.Ordering.{nat_cmp, int_cmp, bool_cmp, ordering_then, is_eq}
use Rattle.std.specs.Cmp.Lexicographic.{slice_cmp}
use Rattle.bson_values.specs.declared.pairs.Pair.{Pair}
use Rattle.bson_values.specs.declared.value.Binary.{Binary}
use Rattle.bson_values.specs.declared.value.Regex.{Regex}
use Rattle.bson_values.specs.declared.value.Value.{Value, out-Value}
use Rattle.bson_values.specs.declared.value.Value.TheOpen.{Value-F}
use Rattle.bson_values.specs.declared.value.Value.TheFolds.{fold-Value}

-- the place of a type among the types
abbrev pub rank_in : {A : Type 0} → Value-F A → ℕ
rank_in Value-F.Null = 0
rank_in (Value-F.Int number) = 1
rank_in (Value-F.Long number) = 1
rank_in (Value-F.Str text) = 2
rank_in (Value-F.Doc pairs) = 3
rank_in (Value-F.Arr items) = 4
rank_in (Value-F.Bin it) = 5
rank_in (Value-F.Id id) = 6
rank_in (Value-F.Bool truth) = 7
rank_in (Value-F.Date moment) = 8
rank_in (Value-F.Stamp stamp) = 9
rank_in (Value-F.Regex regex) = 10

-- the place of a value's type
abbrev pub rank_of : Value → ℕ
rank_of it = rank_in (out-Value it)

-- texts and ObjectIds: byte by byte; the one that ends first is less
abbrev pub bytes_cmp : List ℕ → List ℕ → Ordering
bytes_cmp one other = slice_cmp nat_cmp one other

-- length, subtype, bytes
abbrev pub binary_cmp : Binary → Binary → Ordering
binary_cmp one other =
    ordering_then (nat_cmp (length one.bytes) (length other.bytes))
    (ordering_then (nat_cmp one.subtype other.subtype) (bytes_cmp one.bytes other.bytes))

-- pattern, options
abbrev pub regex_cmp : Regex → Regex → Ordering
regex_cmp one other = ordering_then (bytes_cmp one.pattern other.pattern) (bytes_cmp one.options other.options)

module _ {A : Type 0} (rank : A → ℕ) (order : A → Value → Ordering) where
  -- a pair of one document beside one of another: rank of the value, name, value
  abbrev pub pair_cmp : Pair A → Pair Value → Ordering
  pair_cmp one other =
      ordering_then (nat_cmp (rank one.value) (rank_of other.value))
      (ordering_then (bytes_cmp one.name other.name) (order one.value other.value))

  -- a value beside another, by the rank and the order of the values in it; the list that ends first is less
  abbrev pub layer_cmp : Value-F A → Value-F Value → Ordering
  layer_cmp (Value-F.Int number) (Value-F.Int other) = int_cmp number other
  layer_cmp (Value-F.Int number) (Value-F.Long other) = int_cmp number other
  layer_cmp (Value-F.Long number) (Value-F.Int other) = int_cmp number other
  layer_cmp (Value-F.Long number) (Value-F.Long other) = int_cmp number other
  layer_cmp (Value-F.Str text) (Value-F.Str other) = bytes_cmp text other
  layer_cmp (Value-F.Doc pairs) (Value-F.Doc others) = slice_cmp pair_cmp pairs others
  layer_cmp (Value-F.Arr items) (Value-F.Arr others) = slice_cmp order items others
  layer_cmp (Value-F.Bin it) (Value-F.Bin other) = binary_cmp it other
  layer_cmp (Value-F.Id id) (Value-F.Id other) = bytes_cmp id other
  layer_cmp (Value-F.Bool truth) (Value-F.Bool other) = bool_cmp truth other
  layer_cmp (Value-F.Date moment) (Value-F.Date other) = int_cmp moment other
  layer_cmp (Value-F.Stamp stamp) (Value-F.Stamp other) = nat_cmp stamp other
  layer_cmp (Value-F.Regex regex) (Value-F.Regex other) = regex_cmp regex other
  layer_cmp one other = nat_cmp (rank_in one) (rank_in other)

-- the rank of a value, and how it stands beside each value
pub record Side : Type 0 where
  pub rank : ℕ
  pub beside : Value → Ordering

-- both, by those of the values in it
abbrev pub side : Value → Side
side =
    fold-Value Side (λ it. record { rank = rank_in it; beside = λ other. layer_cmp (λ s. s.rank) (λ s. s.beside) it (out-Value other) })

-- whether the first is less, the same or greater
abbrev pub compared : Value → Value → Ordering
compared one other = (side one).beside other

-- the first comes before the second
abbrev pub Below : Value → Value → Type 0
Below one other = compared one other ≡ Less

-- neither comes before the other
abbrev pub Same : Value → Value → Type 0
Same one other = compared one other ≡ Equal

-- the same, as a test
unfoldable pub is_same : Value → Value → Bool
is_same one other = is_eq (compared one other)
