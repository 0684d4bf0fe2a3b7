-- What a value is beside an operator, or the kind by which it is refused: 4 a value that the operator does not take, 29 one left out.
use Rattle.std.specs.Prelude.{ℕ, ℤ, pos, negsuc, Bool, true, false, ◌||◌, not, if◌then◌else◌, List, [], ◌∷◌, ◌++◌}
use Rattle.std.specs.Prelude.{map, length, nat_eq, codes}
use Rattle.std.specs.Prelude.{Option, Some, None, find, option_map, Result, Ok, Err, int_lt, unsigned_abs}
use Rattle.std.specs.Ordering.{int_eq}
use Rattle.std.specs.List.{list_any}
use Rattle.std.specs.Str.{bytes_eq}
use Rattle.std_words.specs.Steps.{◌>>=◌}
use Rattle.case_tables.specs.Types.{types}
use Rattle.bson_values.specs.declared.pairs.Pair.{Pair}
use Rattle.bson_values.specs.declared.value.Value.{Value, out-Value}
use Rattle.bson_values.specs.declared.value.Value.TheOpen.{Value-F}
use Rattle.filter_syntax.specs.declared.filter.Test.{Test}
use Rattle.filter_syntax.specs.declared.filter.Test.TheVariants as test
use Rattle.filter_syntax.specs.Candidates.{number_of}

-- what was found, or this kind
abbrev pub found_or : {A : Type 0} → ℕ → Option A → Result A ℕ
found_or kind None = Err kind
found_or kind (Some it) = Ok it

-- several made of each, in order; the first refusal counts
abbrev pub all_of : {X Y : Type 0} → (X → Result (List Y) ℕ) → List X → Result (List Y) ℕ
all_of read [] = Ok []
all_of read (x ∷ xs) = read x >>= λ ys. all_of read xs >>= λ more. Ok (ys ++ more)

-- one made of each
abbrev pub single : {Y : Type 0} → Result Y ℕ → Result (List Y) ℕ
single found = found >>= λ y. Ok (y ∷ [])

abbrev pub each : {X Y : Type 0} → (X → Result Y ℕ) → List X → Result (List Y) ℕ
each read xs = all_of (λ x. single (read x)) xs

-- ---- names

-- a name whose first character is `$`
abbrev pub has_dollar : List ℕ → Bool
has_dollar [] = false
has_dollar (byte ∷ more) = nat_eq byte 36

-- the name of the first field; empty where there is none
abbrev pub first_name : {V : Type 0} → List (Pair V) → List ℕ
first_name [] = []
first_name (pair ∷ pairs) = pair.name

-- ---- values

abbrev pub is_regex : {A : Type 0} → Value-F A → Bool
is_regex (Value-F.Regex regex) = true
is_regex layer = false

-- a document that asks for an element, as `$all` of MongoDB takes one
abbrev pub is_element_test : {A : Type 0} → Value-F A → Bool
is_element_test (Value-F.Doc pairs) = bytes_eq (first_name pairs) (codes "$elemMatch")
is_element_test layer = false

-- values to be compared with, of which none is left out
abbrev pub values_of : (Value → Bool) → Value-F Value → Result (List Value) ℕ
values_of left_out (Value-F.Arr items) = if list_any left_out items then Err 29 else Ok items
values_of left_out layer = Err 4

-- a regex; for `$all` a document that asks for an element, too
abbrev pub is_left_out : Value → Bool
is_left_out it = is_regex (out-Value it)

abbrev pub is_left_out_of_all : Value → Bool
is_left_out_of_all it = is_regex (out-Value it) || is_element_test (out-Value it)

-- ---- truth and numbers

-- a bool, or a whole number, of which 0 is false
abbrev pub truth_of : Value-F Value → Result Bool ℕ
truth_of (Value-F.Bool truth) = Ok truth
truth_of layer = found_or 4 (number_of layer) >>= λ number. Ok (not (int_eq number (pos 0)))

-- a whole number that is not negative
abbrev pub count_of : Value-F Value → Result ℕ ℕ
count_of layer = found_or 4 (number_of layer) >>= λ number. if int_lt number (pos 0) then Err 4 else Ok (unsigned_abs number)

-- a divisor, which is not 0, and a rest
abbrev pub division_in : List Value → Result Test ℕ
division_in (one ∷ other ∷ []) =
    found_or 4 (number_of (out-Value one)) >>= λ divisor. found_or 4 (number_of (out-Value other))
    >>= λ rest. if int_eq divisor (pos 0) then Err 4 else Ok (test.Mod divisor rest)
division_in items = Err 4

abbrev pub division_of : Value-F Value → Result Test ℕ
division_of (Value-F.Arr items) = division_in items
division_of layer = Err 4

-- ---- types

-- the first type that passes
abbrev pub type_where : (ℕ × List ℕ → Bool) → Option ℕ
type_where test = option_map (λ (it : ℕ × List ℕ). it.0) (find test types)

abbrev pub one_type : Option ℕ → Result (List ℕ) ℕ
one_type found = single (found_or 4 found)

-- the types of that name
abbrev pub types_named : List ℕ → Result (List ℕ) ℕ
types_named name =
    if bytes_eq name (codes "number") then Ok (16 ∷ 18 ∷ []) else one_type (type_where (λ it. bytes_eq it.1 name))

-- the type of that number; minkey's is -1, too
abbrev pub types_numbered : ℤ → Result (List ℕ) ℕ
types_numbered number =
    if int_eq number (negsuc 0) then Ok (255 ∷ []) else one_type (type_where (λ it. int_eq (pos it.0) number))

-- types by their name or their number
abbrev pub types_told : Value-F Value → Result (List ℕ) ℕ
types_told (Value-F.Str name) = types_named name
types_told layer = found_or 4 (number_of layer) >>= types_numbered

-- likewise, or an array of such that is not empty
abbrev pub types_of : Value-F Value → Result (List ℕ) ℕ
types_of (Value-F.Arr items) = if nat_eq (length items) 0 then Err 4 else all_of types_told (map out-Value items)
types_of layer = types_told layer
