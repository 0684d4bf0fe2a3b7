-- What a path reaches: MongoDB Manual, "Dot Notation" and "Query an Array".
use Rattle.std.specs.Prelude.{ℕ, Bool, false, ◌&&◌, ◌||◌, not, if◌then◌else◌, List, [], ◌∷◌, ◌++◌, length, map, Option, Some, None, slice_get, nat_eq}
use Rattle.std.specs.Str.{all_ascii_digits}
use Rattle.std.specs.Str.Parse.{digits_value}
use Rattle.std.specs.List.{flat_map}
use Rattle.bson_values.specs.Names.{first_of}
use Rattle.bson_values.specs.declared.value.Value.{Value, out-Value}
use Rattle.bson_values.specs.declared.value.Value.TheOpen.{Value-F}
use Rattle.doc_paths.specs.declared.reached.Reached.{Reached}
use Rattle.doc_paths.specs.declared.reached.Reached.TheVariants.{Missing, Found}

-- a part that tells a place in an array: "0", or digits without a leading zero
abbrev pub is_index : List ℕ → Bool
is_index [] = false
is_index (digit ∷ more) = all_ascii_digits (digit ∷ more) && (not (nat_eq digit 48) || nat_eq (length more) 0)

-- the element whose place a part tells
abbrev pub item_at : List ℕ → List Value → Option Value
item_at part items = if is_index part then slice_get items (digits_value 10 part) else None

-- what is reached behind a field, where `go` tells what is reached in its value
abbrev pub behind_field : (Value → List Reached) → Option Value → List Reached
behind_field go None = Missing ∷ []
behind_field go (Some it) = go it

-- what is reached behind an element that was told by its place
abbrev pub behind_item : (Value → List Reached) → Option Value → List Reached
behind_item go None = []
behind_item go (Some it) = go it

-- an element of an array: a document is looked at for the same part, another value leads nowhere
abbrev pub in_element : List ℕ → (Value → List Reached) → Value-F Value → List Reached
in_element part go (Value-F.Doc pairs) = behind_field go (first_of part pairs)
in_element part go layer = []

-- a value that is looked at for a part: a document by its field, an array by a place and then in each of its documents
abbrev pub in_value : List ℕ → (Value → List Reached) → Value-F Value → List Reached
in_value part go (Value-F.Doc pairs) = behind_field go (first_of part pairs)
in_value part go (Value-F.Arr items) = behind_item go (item_at part items) ++ flat_map (λ item. in_element part go (out-Value item)) items
in_value part go layer = Missing ∷ []

-- everything that the parts reach, in order
abbrev pub reached : List (List ℕ) → Value → List Reached
reached [] it = Found it ∷ []
reached (part ∷ rest) it = in_value part (reached rest) (out-Value it)

-- the elements of an array
abbrev pub items_in : Value-F Value → List Value
items_in (Value-F.Arr items) = items
items_in layer = []

-- what was reached, and directly behind it its elements where it is an array
abbrev pub with_elements : Reached → List Reached
with_elements Missing = Missing ∷ []
with_elements (Found it) = Found it ∷ map Found (items_in (out-Value it))

-- what an operator looks at
abbrev pub candidates : List Reached → List Reached
candidates all = flat_map with_elements all
