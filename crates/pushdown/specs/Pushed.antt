-- The condition on rows that a filter pushes down: where the filter holds of a document, the document's row meets it.
use Rattle.std.specs.Prelude.{ℕ, Bool, true, false, ◌&&◌, not, codes, nat_lt, List, [], ◌∷◌, ◌++◌, length, map, if◌then◌else◌}
use Rattle.std.specs.List.{list_all, list_any, flat_map}
use Rattle.std.specs.Str.{all_ascii_digits, bytes_eq}
use Rattle.bson_spelling.specs.Spelling.{key}
use Rattle.bson_values.specs.declared.value.Value.{Value, out-Value}
use Rattle.bson_values.specs.declared.value.Value.TheOpen.{Value-F}
use Rattle.filter_syntax.specs.declared.filter.Filter.{Filter}
use Rattle.filter_syntax.specs.declared.filter.Filter.TheFolds.{fold-Filter, fold-Test}
use Rattle.filter_syntax.specs.declared.filter.Filter.TheOpen.{Filter-F, Test-F}
use Rattle.filter_syntax.specs.declared.filter.Test.{Test}
use Rattle.jsonb_contain.specs.declared.cond.Cond.{Cond}
use Rattle.jsonb_contain.specs.declared.cond.Cond.TheVariants as cond_of
use Rattle.jsonb_contain.specs.declared.value.Json.{Json}
use Rattle.jsonb_contain.specs.declared.value.Json.TheVariants as json
use Rattle.typed_json.specs.Plain.{plain_of}

-- ---- what is pushed

-- a string, binary, ObjectId, bool, date, timestamp, int or long
abbrev pub is_plain_in : Value-F Value → Bool
is_plain_in (Value-F.Doc pairs) = false
is_plain_in (Value-F.Arr items) = false
is_plain_in Value-F.Null = false
is_plain_in (Value-F.Regex regex) = false
is_plain_in layer = true

abbrev pub is_plain : Value → Bool
is_plain it = is_plain_in (out-Value it)

-- an equality with a plain value, or an `$in` of plain values alone
abbrev pub asks_plain : {A B : Type 0} → Test-F A B → Bool
asks_plain (Test-F.Eq wanted) = is_plain wanted
asks_plain (Test-F.OneOf wanted) = list_all is_plain wanted
asks_plain test = false

-- a path of one part, or of two or three parts of which none consists of digits alone, told by its first part and the others
abbrev pub is_pushed_path : List ℕ → List (List ℕ) → Bool
is_pushed_path part [] = true
is_pushed_path part (next ∷ rest) =
    nat_lt (length (next ∷ rest)) 3 && (not (all_ascii_digits part) && not (list_any all_ascii_digits (next ∷ rest)))

-- ---- where a value may stand

-- an object of one field, and an array of one element
abbrev pub field : List ℕ → Json → Json
field name it = json.Object (record { name = name; value = it } ∷ [])

abbrev pub element : Json → Json
element it = json.Array (it ∷ [])

-- shapes, and then each of them as an element of an array
abbrev pub bare_or_in_array : List Json → List Json
bare_or_in_array all = all ++ map element all

-- the shapes in which a value may stand behind the parts of a path
abbrev pub shapes : List (List ℕ) → Json → List Json
shapes [] it = bare_or_in_array (it ∷ [])
shapes (part ∷ rest) it = bare_or_in_array (map (field part) (shapes rest it))

-- ---- conjuncts

-- what an equality of a path with a plain value asks of a row: `_id` is in the key; at one part containment looks into an array by itself
abbrev pub term : List ℕ → List (List ℕ) → Value → Cond
term part [] wanted = if bytes_eq part (codes "_id") then cond_of.KeyIs (key wanted) else cond_of.AtKey part (plain_of wanted)
term part (next ∷ rest) wanted = cond_of.Any (map (cond_of.AtKey part) (shapes (next ∷ rest) (plain_of wanted)))

-- what an operator asks, by what an equality does
abbrev pub conjunct : {A B : Type 0} → (Value → Cond) → Test-F A B → List Cond
conjunct term_of (Test-F.Eq wanted) = term_of wanted ∷ []
conjunct term_of (Test-F.OneOf wanted) = cond_of.Any (map term_of wanted) ∷ []
conjunct term_of test = []

-- what an operator pushes at a path
abbrev pub pushed_by : Test-F (List Cond) (List (List ℕ) → List Cond) → List (List ℕ) → List Cond
pushed_by test [] = []
pushed_by test (part ∷ rest) = if is_pushed_path part rest && asks_plain test then conjunct (term part rest) test else []

-- what a filter pushes: of a conjunction what each of it does, of a disjunction nothing
abbrev pub conjuncts_in : Filter-F (List Cond) (List (List ℕ) → List Cond) → List Cond
conjuncts_in (Filter-F.All filters) = flat_map (λ (conds : List Cond). conds) filters
conjuncts_in (Filter-F.AnyOf filters) = []
conjuncts_in (Filter-F.NoneOf filters) = []
conjuncts_in (Filter-F.On path test) = test path

abbrev pub pushes : Test → List (List ℕ) → List Cond
pushes = fold-Test (List Cond) (List (List ℕ) → List Cond) conjuncts_in pushed_by

abbrev pub conjuncts : Filter → List Cond
conjuncts = fold-Filter (List Cond) (List (List ℕ) → List Cond) conjuncts_in pushed_by

-- the pushed condition
abbrev pub cond : Filter → Cond
cond filter = cond_of.All (conjuncts filter)
