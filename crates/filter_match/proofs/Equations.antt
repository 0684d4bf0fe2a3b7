-- What operators and filters mean, one level at a time, as one question to each reached value.
use Rattle.std.proofs.Common.{◌≡◌, Bool, ◌||◌, ◌&&◌, not, nat_eq, List, [], ◌∷◌, ◌++◌, length, map, refl, ap, ◌∙◌, arith}
use Rattle.std.specs.List.{list_any, list_all, flat_map}
use Rattle.std.specs.Bool.{beq}
use Rattle.std.proofs.lemmas.List.Folds.{list_any-append, list_all-map}
use Rattle.std.proofs.lemmas.List.Concat.{flat_map-cons}
use Rattle.bson_values.specs.declared.value.Value.{Value, out-Value}
use Rattle.bson_values.specs.declared.value.Value.TheVariants as value
use Rattle.doc_paths.specs.Reach.{items_in, reached, with_elements, candidates}
use Rattle.filter_syntax.specs.Candidates.{is_equal, is_found, items_of}
use Rattle.filter_syntax.specs.Meaning.{Doc, is_doc, some, some_element, some_among, some_for_each, all_hold, test_in, filter_in, met_by, holds}
use Rattle.filter_match.specs.Asking.{any_equal, all_equal, all_met, one_of, passes_in, passes, meets_all, meets, asked_in}
use Rattle.doc_paths.specs.declared.reached.Reached.{Reached}
use Rattle.doc_paths.specs.declared.reached.Reached.TheVariants.{Missing, Found}
use Rattle.filter_syntax.specs.declared.filter.Filter.{Filter, out-Filter}
use Rattle.filter_syntax.specs.declared.filter.Filter.TheOpen.{Filter-F, Test-F}
use Rattle.filter_syntax.specs.declared.filter.Filter.TheFolds.{fold_out-Filter, fold_out-Test, map-Filter, map-Test}
use Rattle.filter_syntax.specs.declared.filter.Test.{Test, out-Test}
use Rattle.filter_syntax.specs.declared.filter.Filter.TheVariants as filter
use Rattle.filter_syntax.specs.declared.filter.Test.TheVariants as test

-- ---- lists

pub list_any-map : {X Y : Type 0} (p : X → Bool) (h : Y → X) (ys : List Y) → list_any p (map h ys) ≡ list_any (λ y. p (h y)) ys
list_any-map p h [] = refl
list_any-map p h (y ∷ ys) = ap (λ b. p (h y) || b) (list_any-map p h ys)

-- a candidate of one reached value passes
with_elements_pass : (test : Reached → Bool) (it : Reached) → list_any test (with_elements it) ≡ one_of test it
with_elements_pass test Missing = grind arith
with_elements_pass test (Found it) = ap (λ b. test (Found it) || b) (list_any-map test Found (items_in (out-Value it)))

-- some candidate passes where some reached value does, or an element of it
pub some_is : (test : Reached → Bool) (values : List Reached) → some test values ≡ list_any (one_of test) values
some_is test [] = refl
some_is test (it ∷ values) =
    ap (list_any test) (flat_map-cons with_elements it values) ∙ list_any-append test (with_elements it) (candidates values)
    ∙ ap (λ b. b || some test values) (with_elements_pass test it) ∙ ap (λ b. one_of test it || b) (some_is test values)

-- ---- operators

-- where `asks` is what the operator asks of one candidate
abbrev pub met_layer : (Reached → Bool) → Test-F Filter Test → List Reached → Bool
met_layer asks (Test-F.Eq wanted) values = list_any (one_of (is_equal wanted)) values
met_layer asks (Test-F.Ne wanted) values = not (list_any (one_of (is_equal wanted)) values)
met_layer asks (Test-F.OneOf wanted) values = any_equal wanted values
met_layer asks (Test-F.NotOneOf wanted) values = not (any_equal wanted values)
met_layer asks (Test-F.Not tests) values = not (all_met tests values)
met_layer asks (Test-F.Exists wanted) values = beq wanted (list_any is_found values)
met_layer asks (Test-F.AllOf wanted) values = not (nat_eq (length wanted) 0) && all_equal wanted values
met_layer asks layer values = list_any (asked_in asks layer) values

abbrev below : Test-F Filter Test → Test-F (Doc → Bool) (List Reached → Bool)
below layer = map-Test Filter Test (Doc → Bool) (List Reached → Bool) holds met_by layer

congr_any : {X : Type 0} (p q : X → Bool) (xs : List X) → ((x : X) → p x ≡ q x) → list_any p xs ≡ list_any q xs
congr_any {X} p q xs h = ap (λ (r : X → Bool). list_any r xs) (λ i x. h x i)

congr_all : {X : Type 0} (p q : X → Bool) (xs : List X) → ((x : X) → p x ≡ q x) → list_all p xs ≡ list_all q xs
congr_all {X} p q xs h = ap (λ (r : X → Bool). list_all r xs) (λ i x. h x i)

among_is : (wanted : List Value) (values : List Reached) → some_among wanted values ≡ any_equal wanted values
among_is wanted values = congr_any _ _ wanted (λ one. some_is (is_equal one) values)

has_all_is : (wanted : List Value) (values : List Reached) → some_for_each wanted values ≡ (not (nat_eq (length wanted) 0) && all_equal wanted values)
has_all_is wanted values = ap (λ b. not (nat_eq (length wanted) 0) && b) (congr_all _ _ wanted (λ one. some_is (is_equal one) values))

all_hold_is : (tests : List Test) (values : List Reached) → all_hold (map met_by tests) values ≡ all_met tests values
all_hold_is tests values = list_all-map (λ (test : List Reached → Bool). test values) met_by tests

elements_is : (tests : List Test) (values : List Reached) → some_element (λ it. all_hold (map met_by tests) (Found it ∷ [])) values ≡ list_any (λ it. list_any (meets_all tests) (items_of it)) values
unfolding meets_all
elements_is tests values = congr_any _ _ values (λ it. congr_any _ _ (items_of it) (λ item. all_hold_is tests (Found item ∷ [])))

documents_is : (filter : Filter) (values : List Reached) → some_element (λ it. is_doc (holds filter) (out-Value it)) values ≡ list_any (λ it. list_any (meets filter) (items_of it)) values
unfolding meets
documents_is filter values = refl

layer_is : (layer : Test-F Filter Test) (values : List Reached) → test_in (below layer) values ≡ met_layer (passes_in layer) layer values
layer_is (Test-F.Eq wanted) values = some_is (is_equal wanted) values
layer_is (Test-F.Ne wanted) values = ap not (some_is (is_equal wanted) values)
layer_is (Test-F.OneOf wanted) values = among_is wanted values
layer_is (Test-F.NotOneOf wanted) values = ap not (among_is wanted values)
layer_is (Test-F.Not tests) values = ap not (all_hold_is tests values)
layer_is (Test-F.Gt wanted) values = some_is (passes_in (Test-F.Gt wanted)) values
layer_is (Test-F.Gte wanted) values = some_is (passes_in (Test-F.Gte wanted)) values
layer_is (Test-F.Lt wanted) values = some_is (passes_in (Test-F.Lt wanted)) values
layer_is (Test-F.Lte wanted) values = some_is (passes_in (Test-F.Lte wanted)) values
layer_is (Test-F.Exists wanted) values = refl
layer_is (Test-F.OfType codes) values = some_is (passes_in (Test-F.OfType codes)) values
layer_is (Test-F.Size size) values = refl
layer_is (Test-F.AllOf wanted) values = has_all_is wanted values
layer_is (Test-F.ElemTests tests) values = elements_is tests values
layer_is (Test-F.ElemFilter filter) values = documents_is filter values
layer_is (Test-F.Mod divisor rest) values = some_is (passes_in (Test-F.Mod divisor rest)) values
layer_is (Test-F.BitsAllSet mask) values = some_is (passes_in (Test-F.BitsAllSet mask)) values
layer_is (Test-F.BitsAllClear mask) values = some_is (passes_in (Test-F.BitsAllClear mask)) values
layer_is (Test-F.BitsAnySet mask) values = some_is (passes_in (Test-F.BitsAnySet mask)) values
layer_is (Test-F.BitsAnyClear mask) values = some_is (passes_in (Test-F.BitsAnyClear mask)) values

pub met_is : (test : Test) (values : List Reached) → met_by test values ≡ met_layer (passes test) (out-Test test) values
unfolding passes
met_is test values = ap (λ (m : List Reached → Bool). m values) (fold_out-Test (Doc → Bool) (List Reached → Bool) filter_in test_in test) ∙ layer_is (out-Test test) values

-- ---- filters

abbrev pub holds_layer : Filter-F Filter Test → Doc → Bool
holds_layer (Filter-F.All filters) doc = list_all (λ filter. holds filter doc) filters
holds_layer (Filter-F.AnyOf filters) doc = list_any (λ filter. holds filter doc) filters
holds_layer (Filter-F.NoneOf filters) doc = not (list_any (λ filter. holds filter doc) filters)
holds_layer (Filter-F.On path test) doc = met_by test (reached path (value.Doc doc))

filter_layer_is : (layer : Filter-F Filter Test) (doc : Doc) → filter_in (map-Filter Filter Test (Doc → Bool) (List Reached → Bool) holds met_by layer) doc ≡ holds_layer layer doc
filter_layer_is (Filter-F.All filters) doc = list_all-map (λ (filter : Doc → Bool). filter doc) holds filters
filter_layer_is (Filter-F.AnyOf filters) doc = list_any-map (λ (filter : Doc → Bool). filter doc) holds filters
filter_layer_is (Filter-F.NoneOf filters) doc = ap not (list_any-map (λ (filter : Doc → Bool). filter doc) holds filters)
filter_layer_is (Filter-F.On path test) doc = refl

pub holds_is : (filter : Filter) (doc : Doc) → holds filter doc ≡ holds_layer (out-Filter filter) doc
holds_is filter doc = ap (λ (m : Doc → Bool). m doc) (fold_out-Filter (Doc → Bool) (List Reached → Bool) filter_in test_in filter) ∙ filter_layer_is (out-Filter filter) doc

-- ---- variant by variant

pub holds_all : (filters : List Filter) (doc : Doc) → holds (filter.All filters) doc ≡ list_all (λ one. holds one doc) filters
holds_all filters doc = holds_is (filter.All filters) doc ∙ ap (λ layer. holds_layer layer doc) (filter.outs-All filters)

pub holds_any : (filters : List Filter) (doc : Doc) → holds (filter.AnyOf filters) doc ≡ list_any (λ one. holds one doc) filters
holds_any filters doc = holds_is (filter.AnyOf filters) doc ∙ ap (λ layer. holds_layer layer doc) (filter.outs-AnyOf filters)

pub holds_none : (filters : List Filter) (doc : Doc) → holds (filter.NoneOf filters) doc ≡ not (list_any (λ one. holds one doc) filters)
holds_none filters doc = holds_is (filter.NoneOf filters) doc ∙ ap (λ layer. holds_layer layer doc) (filter.outs-NoneOf filters)

-- an operator, by its layer
by_layer : (it : Test) (layer : Test-F Filter Test) (values : List Reached) → out-Test it ≡ layer → met_by it values ≡ met_layer (passes it) layer values
by_layer it layer values is = met_is it values ∙ ap (λ l. met_layer (passes it) l values) is

pub met_eq : (wanted : Value) (values : List Reached) → met_by (test.Eq wanted) values ≡ list_any (one_of (is_equal wanted)) values
met_eq wanted values = by_layer _ _ values (test.outs-Eq wanted)

pub met_ne : (wanted : Value) (values : List Reached) → met_by (test.Ne wanted) values ≡ not (list_any (one_of (is_equal wanted)) values)
met_ne wanted values = by_layer _ _ values (test.outs-Ne wanted)

pub met_one_of : (wanted : List Value) (values : List Reached) → met_by (test.OneOf wanted) values ≡ any_equal wanted values
met_one_of wanted values = by_layer _ _ values (test.outs-OneOf wanted)

pub met_not_one_of : (wanted : List Value) (values : List Reached) → met_by (test.NotOneOf wanted) values ≡ not (any_equal wanted values)
met_not_one_of wanted values = by_layer _ _ values (test.outs-NotOneOf wanted)

pub met_not : (tests : List Test) (values : List Reached) → met_by (test.Not tests) values ≡ not (all_met tests values)
met_not tests values = by_layer _ _ values (test.outs-Not tests)

pub met_all_of : (wanted : List Value) (values : List Reached) → met_by (test.AllOf wanted) values ≡ (not (nat_eq (length wanted) 0) && all_equal wanted values)
met_all_of wanted values = by_layer _ _ values (test.outs-AllOf wanted)

-- the equations of the operators that hold other operators, or compare with several values, and of all others
pub ruleset by_operator = (met_eq, met_ne, met_one_of, met_not_one_of, met_not, met_all_of, met_is)

pub ruleset by_filter = (holds_all, holds_any, holds_none)

-- ---- what is reached within an array

pub list_any-flat_map : {X Y : Type 0} (p : Y → Bool) (f : X → List Y) (xs : List X) → list_any p (flat_map f xs) ≡ list_any (λ x. list_any p (f x)) xs
list_any-flat_map p f [] = refl
list_any-flat_map p f (x ∷ xs) =
    ap (list_any p) (flat_map-cons f x xs) ∙ list_any-append p (f x) (flat_map f xs) ∙ ap (λ b. list_any p (f x) || b) (list_any-flat_map p f xs)

-- some of one list, or of what the items of another make
pub list_any_joined : {X Y : Type 0} (p : Y → Bool) (ys : List Y) (f : X → List Y) (xs : List X) → list_any p (ys ++ flat_map f xs) ≡ (list_any p ys || list_any (λ x. list_any p (f x)) xs)
list_any_joined p ys f xs = list_any-append p ys (flat_map f xs) ∙ ap (λ b. list_any p ys || b) (list_any-flat_map p f xs)
