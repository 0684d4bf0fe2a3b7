-- The key of a document for a path: MongoDB Manual, "cursor.sort()". An empty array has the key `None`, which is below every value.
use Rattle.std.specs.Prelude.{ℕ, Bool, true, false, if◌then◌else◌, List, [], ◌∷◌, map, Option, Some, None, unwrap_or}
use Rattle.std.specs.declared.cmp.Ordering.{Ordering}
use Rattle.std.specs.Ordering.{is_lt}
use Rattle.std.specs.Option.{option_cmp}
use Rattle.std.specs.List.{flat_map}
use Rattle.bson_values.specs.declared.pairs.Pair.{Pair}
use Rattle.bson_values.specs.declared.value.Value.{Value, out-Value}
use Rattle.bson_values.specs.declared.value.Value.TheOpen.{Value-F}
use Rattle.bson_values.specs.declared.value.Value.TheVariants as value
use Rattle.bson_order.specs.Order.{compared}
use Rattle.doc_paths.specs.Reach.{reached}
use Rattle.doc_paths.specs.declared.reached.Reached.{Reached}
use Rattle.doc_paths.specs.declared.reached.Reached.TheVariants.{Missing, Found}

abbrev pub Doc : Type 0
Doc = List (Pair Value)

-- a path to sort by, and whether it ascends
abbrev pub Way : Type 0
Way = List (List ℕ) × Bool

-- the keys of an array: its elements, or what is below null
abbrev pub keys_in : List Value → List (Option Value)
keys_in [] = None ∷ []
keys_in (item ∷ items) = map Some (item ∷ items)

abbrev pub value_keys : Value → Value-F Value → List (Option Value)
value_keys it (Value-F.Arr items) = keys_in items
value_keys it layer = Some it ∷ []

-- the keys of what is reached; what is missing counts as null
abbrev pub keys_of : Reached → List (Option Value)
keys_of Missing = Some value.Null ∷ []
keys_of (Found it) = value_keys it (out-Value it)

-- a key beside another; descending, turned round
abbrev pub key_cmp : Bool → Option Value → Option Value → Ordering
key_cmp true one other = option_cmp compared one other
key_cmp false one other = option_cmp compared other one

-- of two keys, where they are there, the one that comes first; the former where they are the same
abbrev pub sooner : Bool → Option (Option Value) → Option (Option Value) → Option (Option Value)
sooner ascends None other = other
sooner ascends (Some one) None = Some one
sooner ascends (Some one) (Some other) = Some (if is_lt (key_cmp ascends other one) then other else one)

-- the first of the keys: ascending the least, descending the greatest
abbrev pub first_key : Bool → List (Option Value) → Option (Option Value)
first_key ascends [] = None
first_key ascends (key ∷ keys) = sooner ascends (Some key) (first_key ascends keys)

-- where nothing is reached, that counts as null
abbrev pub key : Way → Doc → Option Value
key way doc = unwrap_or (first_key way.1 (flat_map keys_of (reached way.0 (value.Doc doc)))) (Some value.Null)
