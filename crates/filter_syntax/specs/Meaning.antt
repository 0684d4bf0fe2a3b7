-- What a filter means: MongoDB manual, "Query and Projection Operators", over what paths reach and the order of values.
use Rattle.std.specs.Prelude.{Bool, false, ◌&&◌, not, List, [], ◌∷◌, length, nat_eq}
use Rattle.std.specs.Ordering.{is_lt, is_le, is_gt, is_ge}
use Rattle.std.specs.List.{list_any, list_all}
use Rattle.std.specs.Bool.{beq}
use Rattle.bson_values.specs.declared.pairs.Pair.{Pair}
use Rattle.bson_values.specs.declared.value.Value.{Value, out-Value}
use Rattle.bson_values.specs.declared.value.Value.TheOpen.{Value-F}
use Rattle.bson_values.specs.declared.value.Value.TheVariants as value
use Rattle.doc_paths.specs.Reach.{reached, candidates}
use Rattle.doc_paths.specs.declared.reached.Reached.{Reached}
use Rattle.doc_paths.specs.declared.reached.Reached.TheVariants.{Found}
use Rattle.filter_syntax.specs.declared.filter.Filter.{Filter}
use Rattle.filter_syntax.specs.declared.filter.Test.{Test}
use Rattle.filter_syntax.specs.declared.filter.Filter.TheOpen.{Filter-F, Test-F}
use Rattle.filter_syntax.specs.declared.filter.Filter.TheFolds.{fold-Filter, fold-Test}
use Rattle.filter_syntax.specs.Candidates.{is_equal, compares, compares_or_null, has_type, is_number, leaves, has_all_bits, has_no_bits}
use Rattle.filter_syntax.specs.Candidates.{is_found, is_array_of, items_of}

-- the fields of a document
abbrev pub Doc : Type 0
Doc = List (Pair Value)

-- some candidate passes
abbrev pub some : (Reached → Bool) → List Reached → Bool
some test values = list_any test (candidates values)

-- some candidate is the same as one of the values
abbrev pub some_among : List Value → List Reached → Bool
some_among wanted values = list_any (λ one. some (is_equal one) values) wanted

-- there is a value, and some candidate is the same as each
abbrev pub some_for_each : List Value → List Reached → Bool
some_for_each wanted values = not (nat_eq (length wanted) 0) && list_all (λ one. some (is_equal one) values) wanted

-- some element of a reached array passes
abbrev pub some_element : (Value → Bool) → List Reached → Bool
some_element test values = list_any (λ it. list_any test (items_of it)) values

-- a document of which a filter holds
abbrev pub is_doc : (Doc → Bool) → Value-F Value → Bool
is_doc filter (Value-F.Doc pairs) = filter pairs
is_doc filter layer = false

-- each operator of a set holds
abbrev pub all_hold : List (List Reached → Bool) → List Reached → Bool
all_hold tests values = list_all (λ (test : List Reached → Bool). test values) tests

-- an operator, over what the operators and filters in it say
abbrev pub test_in : Test-F (Doc → Bool) (List Reached → Bool) → List Reached → Bool
test_in (Test-F.Eq wanted) values = some (is_equal wanted) values
test_in (Test-F.Ne wanted) values = not (some (is_equal wanted) values)
test_in (Test-F.OneOf wanted) values = some_among wanted values
test_in (Test-F.NotOneOf wanted) values = not (some_among wanted values)
test_in (Test-F.Not tests) values = not (all_hold tests values)
test_in (Test-F.Gt wanted) values = some (compares is_gt wanted) values
test_in (Test-F.Gte wanted) values = some (compares_or_null is_ge wanted) values
test_in (Test-F.Lt wanted) values = some (compares is_lt wanted) values
test_in (Test-F.Lte wanted) values = some (compares_or_null is_le wanted) values
test_in (Test-F.Exists wanted) values = beq wanted (list_any is_found values)
test_in (Test-F.OfType codes) values = some (has_type codes) values
test_in (Test-F.Size size) values = list_any (is_array_of size) values
test_in (Test-F.AllOf wanted) values = some_for_each wanted values
test_in (Test-F.ElemTests tests) values = some_element (λ it. all_hold tests (Found it ∷ [])) values
test_in (Test-F.ElemFilter filter) values = some_element (λ it. is_doc filter (out-Value it)) values
test_in (Test-F.Mod divisor rest) values = some (is_number (leaves divisor rest)) values
test_in (Test-F.BitsAllSet mask) values = some (is_number (has_all_bits mask)) values
test_in (Test-F.BitsAllClear mask) values = some (is_number (has_no_bits mask)) values
test_in (Test-F.BitsAnySet mask) values = some (is_number (λ number. not (has_no_bits mask number))) values
test_in (Test-F.BitsAnyClear mask) values = some (is_number (λ number. not (has_all_bits mask number))) values

-- a filter, likewise
abbrev pub filter_in : Filter-F (Doc → Bool) (List Reached → Bool) → Doc → Bool
filter_in (Filter-F.All filters) doc = list_all (λ (filter : Doc → Bool). filter doc) filters
filter_in (Filter-F.AnyOf filters) doc = list_any (λ (filter : Doc → Bool). filter doc) filters
filter_in (Filter-F.NoneOf filters) doc = not (list_any (λ (filter : Doc → Bool). filter doc) filters)
filter_in (Filter-F.On path test) doc = test (reached path (value.Doc doc))

-- whether an operator holds of what is reached
abbrev pub met_by : Test → List Reached → Bool
met_by = fold-Test (Doc → Bool) (List Reached → Bool) filter_in test_in

-- whether a filter holds of a document
abbrev pub holds : Filter → Doc → Bool
holds = fold-Filter (Doc → Bool) (List Reached → Bool) filter_in test_in
