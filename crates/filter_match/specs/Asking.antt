-- What an operator asks of one reached value.
use Rattle.std.specs.Prelude.{Bool, false, ◌||◌, not, List, [], ◌∷◌}
use Rattle.std.specs.Ordering.{is_lt, is_le, is_gt, is_ge}
use Rattle.std.specs.List.{list_any, list_all}
use Rattle.bson_values.specs.declared.value.Value.{Value, out-Value}
use Rattle.doc_paths.specs.Reach.{items_in}
use Rattle.filter_syntax.specs.Candidates.{is_equal, compares, compares_or_null, is_found, items_of, is_array_of}
use Rattle.filter_syntax.specs.Candidates.{has_type, is_number, leaves, has_all_bits, has_no_bits}
use Rattle.filter_syntax.specs.Meaning.{is_doc, met_by, holds}
use Rattle.doc_paths.specs.declared.reached.Reached.{Reached}
use Rattle.doc_paths.specs.declared.reached.Reached.TheVariants.{Missing, Found}
use Rattle.filter_syntax.specs.declared.filter.Filter.{Filter}
use Rattle.filter_syntax.specs.declared.filter.Test.{Test, out-Test}
use Rattle.filter_syntax.specs.declared.filter.Filter.TheOpen.{Test-F}
use Rattle.filter_match.specs.declared.asking.Ask.{Ask}
use Rattle.filter_match.specs.declared.asking.Ask.TheVariants.{Equal, By}

-- a reached value passes, or an element of it
abbrev pub one_of : (Reached → Bool) → Reached → Bool
one_of test Missing = test Missing
one_of test (Found it) = test (Found it) || list_any (λ item. test (Found item)) (items_in (out-Value it))

-- what an operator asks of one candidate; those that ask something else ask nothing here
abbrev pub passes_in : Test-F Filter Test → Reached → Bool
passes_in (Test-F.Gt wanted) it = compares is_gt wanted it
passes_in (Test-F.Gte wanted) it = compares_or_null is_ge wanted it
passes_in (Test-F.Lt wanted) it = compares is_lt wanted it
passes_in (Test-F.Lte wanted) it = compares_or_null is_le wanted it
passes_in (Test-F.OfType codes) it = has_type codes it
passes_in (Test-F.Mod divisor rest) it = is_number (leaves divisor rest) it
passes_in (Test-F.BitsAllSet mask) it = is_number (has_all_bits mask) it
passes_in (Test-F.BitsAllClear mask) it = is_number (has_no_bits mask) it
passes_in (Test-F.BitsAnySet mask) it = is_number (λ number. not (has_no_bits mask number)) it
passes_in (Test-F.BitsAnyClear mask) it = is_number (λ number. not (has_all_bits mask number)) it
passes_in test it = false

unfoldable pub passes : Test → Reached → Bool
passes test it = passes_in (out-Test test) it

-- an element of which all operators hold
unfoldable pub meets_all : List Test → Value → Bool
meets_all tests item = list_all (λ test. met_by test (Found item ∷ [])) tests

-- an element that is a document of which a filter holds
unfoldable pub meets : Filter → Value → Bool
meets filter item = is_doc (holds filter) (out-Value item)

-- what an operator that asks for one reached value asks of it, where `asks` is what it asks of one candidate
abbrev pub asked_in : (Reached → Bool) → Test-F Filter Test → Reached → Bool
asked_in asks (Test-F.Exists wanted) it = is_found it
asked_in asks (Test-F.Size size) it = is_array_of size it
asked_in asks (Test-F.ElemTests tests) it = list_any (meets_all tests) (items_of it)
asked_in asks (Test-F.ElemFilter filter) it = list_any (meets filter) (items_of it)
asked_in asks layer it = one_of asks it

unfoldable pub asked : Ask → Reached → Bool
asked (Equal wanted) it = one_of (is_equal wanted.now) it
asked (By test) it = asked_in (passes test.now) (out-Test test.now) it

-- some member, each member, is equal to a candidate; each operator holds
abbrev pub any_equal : List Value → List Reached → Bool
any_equal wanted values = list_any (λ one. list_any (one_of (is_equal one)) values) wanted

abbrev pub all_equal : List Value → List Reached → Bool
all_equal wanted values = list_all (λ one. list_any (one_of (is_equal one)) values) wanted

abbrev pub all_met : List Test → List Reached → Bool
all_met tests values = list_all (λ test. met_by test values) tests
