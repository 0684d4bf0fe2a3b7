-- What an operator asks of one candidate: a reached value, an element of a reached array, or Missing.
use Rattle.std.specs.Prelude.{ℕ, ℤ, pos, Bool, true, false, ◌&&◌, not, if◌then◌else◌, List, [], length, Option, Some, None, nat_eq, bit_and}
use Rattle.std.specs.declared.cmp.Ordering.{Ordering}
use Rattle.std.specs.Ordering.{int_eq}
use Rattle.std.specs.Int.{w64, cast_unsigned}
use Rattle.std.specs.Int.Signed.{rem_z}
use Rattle.std.specs.List.{list_any}
use Rattle.bson_values.specs.declared.value.Value.{Value, out-Value}
use Rattle.bson_values.specs.declared.value.Value.TheOpen.{Value-F}
use Rattle.bson_order.specs.Order.{rank_of, compared, is_same}
use Rattle.doc_paths.specs.Reach.{items_in}
use Rattle.doc_paths.specs.declared.reached.Reached.{Reached}
use Rattle.doc_paths.specs.declared.reached.Reached.TheVariants.{Missing, Found}

-- ---- order

abbrev pub is_null : Value → Bool
is_null it = nat_eq (rank_of it) 0

-- the same as a value; what is missing is the same as null
abbrev pub is_equal : Value → Reached → Bool
is_equal wanted Missing = is_null wanted
is_equal wanted (Found it) = is_same it wanted

-- of the same rank as a value, and stands so beside it
abbrev pub compares : (Ordering → Bool) → Value → Reached → Bool
compares so wanted Missing = false
compares so wanted (Found it) = nat_eq (rank_of it) (rank_of wanted) && so (compared it wanted)

-- likewise; beside null, the same as null
abbrev pub compares_or_null : (Ordering → Bool) → Value → Reached → Bool
compares_or_null so wanted it = if is_null wanted then is_equal wanted it else compares so wanted it

-- ---- types

-- the type byte of a value (bsonspec.org)
abbrev pub code_in : {A : Type 0} → Value-F A → ℕ
code_in (Value-F.Str text) = 2
code_in (Value-F.Doc pairs) = 3
code_in (Value-F.Arr items) = 4
code_in (Value-F.Bin it) = 5
code_in (Value-F.Id id) = 7
code_in (Value-F.Bool truth) = 8
code_in (Value-F.Date moment) = 9
code_in Value-F.Null = 10
code_in (Value-F.Regex regex) = 11
code_in (Value-F.Int number) = 16
code_in (Value-F.Stamp stamp) = 17
code_in (Value-F.Long number) = 18

-- a value of one of the types
abbrev pub has_type : List ℕ → Reached → Bool
has_type codes Missing = false
has_type codes (Found it) = list_any (nat_eq (code_in (out-Value it))) codes

-- ---- numbers

abbrev pub number_of : {A : Type 0} → Value-F A → Option ℤ
number_of (Value-F.Int number) = Some number
number_of (Value-F.Long number) = Some number
number_of layer = None

-- there is one, and it passes
abbrev pub some_passes : (ℤ → Bool) → Option ℤ → Bool
some_passes test None = false
some_passes test (Some number) = test number

-- a number that passes
abbrev pub is_number : (ℤ → Bool) → Reached → Bool
is_number test Missing = false
is_number test (Found it) = some_passes test (number_of (out-Value it))

-- divided by the divisor it leaves the rest, which has the number's sign; by 0 none leaves any
abbrev pub leaves : ℤ → ℤ → ℤ → Bool
leaves divisor rest number = not (int_eq divisor (pos 0)) && int_eq (rem_z number divisor) rest

-- the bits of a mask that a number has, as 64 bits with sign
abbrev pub masked : ℕ → ℤ → ℕ
masked mask number = bit_and (cast_unsigned w64 number) mask

-- it has all of the mask's bits
abbrev pub has_all_bits : ℕ → ℤ → Bool
has_all_bits mask number = nat_eq (masked mask number) mask

-- it has none of them
abbrev pub has_no_bits : ℕ → ℤ → Bool
has_no_bits mask number = nat_eq (masked mask number) 0

-- ---- what is reached, without the elements of arrays

abbrev pub is_found : Reached → Bool
is_found Missing = false
is_found (Found it) = true

-- the elements of a reached array
abbrev pub items_of : Reached → List Value
items_of Missing = []
items_of (Found it) = items_in (out-Value it)

abbrev pub is_array : {A : Type 0} → Value-F A → Bool
is_array (Value-F.Arr items) = true
is_array layer = false

-- an array of so many elements
abbrev pub is_array_of : ℕ → Reached → Bool
is_array_of size Missing = false
is_array_of size (Found it) = is_array (out-Value it) && nat_eq (length (items_in (out-Value it))) size
