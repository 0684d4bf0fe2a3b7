-- The operators that stand beside a path, and what each makes of its operand: MongoDB manual, "Query and Projection Operators".
use Prim.Native.String.{String}
use Rattle.std.specs.Prelude.{ℕ, Bool, if◌then◌else◌, List, [], ◌∷◌, codes, Option, find, option_map, is_some, Result, Ok, Err}
use Rattle.std.specs.Str.{bytes_eq}
use Rattle.std_words.specs.Steps.{◌>>=◌}
use Rattle.bson_values.specs.declared.pairs.Pair.{Pair}
use Rattle.bson_values.specs.declared.value.Value.{Value, out-Value}
use Rattle.filter_syntax.specs.declared.filter.Filter.{Filter}
use Rattle.filter_syntax.specs.declared.filter.Filter.TheVariants as filter
use Rattle.filter_syntax.specs.declared.filter.Test.{Test}
use Rattle.filter_syntax.specs.declared.filter.Test.TheVariants as test
use Rattle.filter_syntax.specs.Operands.{found_or, is_regex, is_left_out, is_left_out_of_all}
use Rattle.filter_syntax.specs.Operands.{values_of, truth_of, count_of, division_of, types_of}

-- what a value reads as, in each place where it may stand
pub record Reads : Type 0 where
  pub it : Value
  -- a filter; the filters of `$and`
  pub filter : Result Filter ℕ
  pub filters : Result (List Filter) ℕ
  -- the operators of `$not`; what `$elemMatch` asks
  pub tests : Result (List Test) ℕ
  pub element : Result Test ℕ
  -- what stands beside a path
  pub operand : Result (List Test) ℕ

-- ---- beside a path

-- what one makes of an operand
abbrev pub Takes : Type 0 → Type 0
Takes A = Reads → Result A ℕ

-- of a value, of values, of a number that is not negative
abbrev pub value : (Value → Test) → Takes Test
value make one = Ok (make one.it)

abbrev pub values : (Value → Bool) → (List Value → Test) → Takes Test
values left_out make one = values_of left_out (out-Value one.it) >>= λ all. Ok (make all)

abbrev pub count : (ℕ → Test) → Takes Test
count make one = count_of (out-Value one.it) >>= λ number. Ok (make number)

abbrev pub truth : Takes Test
truth one = truth_of (out-Value one.it) >>= λ is. Ok (test.Exists is)

abbrev pub types : Takes Test
types one = types_of (out-Value one.it) >>= λ all. Ok (test.OfType all)

abbrev pub division : Takes Test
division one = division_of (out-Value one.it)

abbrev pub operator_set : Takes Test
operator_set one = one.tests >>= λ tests. Ok (test.Not tests)

abbrev pub element : Takes Test
element one = one.element

-- MongoDB's, which this profile leaves out
abbrev pub left_out : {A : Type 0} → Takes A
left_out one = Err 29

abbrev pub row : {A : Type 0} → String → A → List ℕ × A
row name it = (codes name, it)

unfoldable pub operators : List (List ℕ × Takes Test)
operators =
    row "$eq" (value test.Eq) ∷
    row "$ne" (value test.Ne) ∷
    row "$gt" (value test.Gt) ∷
    row "$gte" (value test.Gte) ∷
    row "$lt" (value test.Lt) ∷
    row "$lte" (value test.Lte) ∷
    row "$in" (values is_left_out test.OneOf) ∷
    row "$nin" (values is_left_out test.NotOneOf) ∷
    row "$all" (values is_left_out_of_all test.AllOf) ∷
    row "$not" operator_set ∷
    row "$exists" truth ∷
    row "$type" types ∷
    row "$size" (count test.Size) ∷
    row "$elemMatch" element ∷
    row "$mod" division ∷
    row "$bitsAllSet" (count test.BitsAllSet) ∷
    row "$bitsAllClear" (count test.BitsAllClear) ∷
    row "$bitsAnySet" (count test.BitsAnySet) ∷
    row "$bitsAnyClear" (count test.BitsAnyClear) ∷
    row "$regex" left_out ∷
    row "$options" left_out ∷
    row "$geoIntersects" left_out ∷
    row "$geoWithin" left_out ∷
    row "$near" left_out ∷
    row "$nearSphere" left_out ∷
    []

-- the one of that name
abbrev pub named : {A : Type 0} → List ℕ → List (List ℕ × A) → Option A
named {A} name rows = option_map (λ (it : List ℕ × A). it.1) (find (λ (it : List ℕ × A). bytes_eq it.0 name) rows)

abbrev pub is_operator : List ℕ → Bool
is_operator name = is_some (named name operators)

-- an operator beside a path; none takes a regex
abbrev pub pair_test : Pair Reads → Result Test ℕ
pair_test pair =
    found_or 3 (named pair.name operators)
    >>= λ (make : Takes Test). if is_regex (out-Value pair.value.it) then Err 29 else make pair.value

-- ---- in the place of a path

-- what one makes of filters
abbrev pub joined_as : (List Filter → Filter) → Takes (List Filter)
joined_as make one = one.filters >>= λ all. Ok (make all ∷ [])

abbrev pub ignored : Takes (List Filter)
ignored one = Ok []

unfoldable pub top_level : List (List ℕ × Takes (List Filter))
top_level =
    row "$and" (joined_as filter.All) ∷
    row "$or" (joined_as filter.AnyOf) ∷
    row "$nor" (joined_as filter.NoneOf) ∷
    row "$comment" ignored ∷
    row "$expr" left_out ∷
    row "$where" left_out ∷
    row "$text" left_out ∷
    row "$jsonSchema" left_out ∷
    []
