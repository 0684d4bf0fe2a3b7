-- The filter that a document reads as, or the kind of its first refusal: a document's fields in order, each before what is in it.
-- 3 is an unknown operator, 4 a value that the operator does not take, 9 a bad path, 29 what is left out.
use Rattle.std.specs.Prelude.{ℕ, if◌then◌else◌, List, [], ◌∷◌, map, length, nat_eq, Result, Ok, Err}
use Rattle.std.specs.List.{list_any}
use Rattle.std_words.specs.Steps.{◌>>=◌}
use Rattle.bson_values.specs.declared.pairs.Pair.{Pair}
use Rattle.bson_values.specs.declared.value.Value.{Value, map-Value}
use Rattle.bson_values.specs.declared.value.Value.TheViews.{roll-Value}
use Rattle.bson_values.specs.declared.value.Value.TheOpen.{Value-F}
use Rattle.bson_values.specs.declared.value.Value.TheFolds.{fold-Value}
use Rattle.doc_paths.specs.Paths as paths
use Rattle.doc_paths.specs.declared.path.PathRefused.{PathRefused}
use Rattle.filter_syntax.specs.declared.filter.Filter.{Filter}
use Rattle.filter_syntax.specs.declared.filter.Filter.TheVariants as filter
use Rattle.filter_syntax.specs.declared.filter.Test.{Test}
use Rattle.filter_syntax.specs.declared.filter.Test.TheVariants as test
use Rattle.filter_syntax.specs.Operands.{found_or, all_of, each, has_dollar, first_name}
use Rattle.filter_syntax.specs.Operators.{Reads, Takes, pair_test, named, is_operator, top_level}

-- ---- a document's fields

-- a path has no part that begins with `$`
abbrev pub parts_allowed : Result (List (List ℕ)) PathRefused → Result (List (List ℕ)) ℕ
parts_allowed (Err why) = Err 9
parts_allowed (Ok parts) = if list_any has_dollar parts then Err 3 else Ok parts

abbrev pub path_of : List ℕ → Result (List (List ℕ)) ℕ
path_of name = parts_allowed (paths.read name)

-- what is asked at a path: a filter for each operator
abbrev pub at_path : List (List ℕ) → Takes (List Filter)
at_path path one = one.operand >>= λ tests. Ok (map (filter.On path) tests)

-- a field of a filter: `$and` and the like, or a path and what is asked there
abbrev pub pair_filters : Pair Reads → Result (List Filter) ℕ
pair_filters pair =
    if has_dollar pair.name then (found_or 3 (named pair.name top_level) >>= λ (make : Takes (List Filter)). make pair.value)
    else path_of pair.name >>= λ path. at_path path pair.value

-- fields as a filter, which is all of them
abbrev pub pairs_filter : List (Pair Reads) → Result Filter ℕ
pairs_filter pairs = all_of pair_filters pairs >>= λ all. Ok (filter.All all)

-- fields as a set of operators
abbrev pub pairs_tests : List (Pair Reads) → Result (List Test) ℕ
pairs_tests pairs = each pair_test pairs

-- ---- a value, by what the values in it read as

abbrev pub filter_of : Value-F Reads → Result Filter ℕ
filter_of (Value-F.Doc pairs) = pairs_filter pairs
filter_of layer = Err 4

-- an array of filters that is not empty
abbrev pub filters_of : Value-F Reads → Result (List Filter) ℕ
filters_of (Value-F.Arr items) = if nat_eq (length items) 0 then Err 4 else each (λ (one : Reads). one.filter) items
filters_of layer = Err 4

-- a set of operators: a document whose first name begins with `$`
abbrev pub tests_of : Value-F Reads → Result (List Test) ℕ
tests_of (Value-F.Doc pairs) = if has_dollar (first_name pairs) then pairs_tests pairs else Err 4
tests_of layer = Err 4

-- operators, where the first name is one; else a filter
abbrev pub element_of : Value-F Reads → Result Test ℕ
element_of (Value-F.Doc pairs) =
    if is_operator (first_name pairs) then (pairs_tests pairs >>= λ tests. Ok (test.ElemTests tests))
    else pairs_filter pairs >>= λ one. Ok (test.ElemFilter one)
element_of layer = Err 4

-- a set of operators, or a value to be the same as
abbrev pub operand_of : Value → Value-F Reads → Result (List Test) ℕ
operand_of it (Value-F.Doc pairs) = if has_dollar (first_name pairs) then pairs_tests pairs else Ok (test.Eq it ∷ [])
operand_of it (Value-F.Regex regex) = Err 29
operand_of it layer = Ok (test.Eq it ∷ [])

abbrev pub reads_in : Value-F Reads → Reads
reads_in layer =
    let it = roll-Value (map-Value Reads Value (λ one. one.it) layer) in
    record {
      it = it;
      filter = filter_of layer;
      filters = filters_of layer;
      tests = tests_of layer;
      element = element_of layer;
      operand = operand_of it layer;
    }

abbrev pub reads : Value → Reads
reads = fold-Value Reads reads_in

abbrev pub read_field : Pair Value → Pair Reads
read_field pair = record { name = pair.name; value = reads pair.value }

-- the filter of a document
abbrev pub read : List (Pair Value) → Result Filter ℕ
read doc = pairs_filter (map read_field doc)
