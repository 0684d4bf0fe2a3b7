-- The sort and the projection that a document reads as, or the kind of its first refusal. 4 is a bad operand, 9 a bad path, 11 a bad
-- projection, 29 what is left out.
use Rattle.std.specs.Prelude.{ℕ, ℤ, pos, negsuc, Bool, true, false, ◌&&◌, ◌||◌, not, if◌then◌else◌, List, [], ◌∷◌, ◌-◌, map, length}
use Rattle.std.specs.Prelude.{Result, Ok, Err, nat_eq, codes}
use Rattle.std.specs.Ordering.{int_eq}
use Rattle.std.specs.List.{list_any, filter}
use Rattle.std.specs.Str.{bytes_eq}
use Rattle.std_words.specs.Steps.{◌>>=◌}
use Rattle.bson_values.specs.declared.pairs.Pair.{Pair}
use Rattle.bson_values.specs.declared.value.Value.{Value, out-Value}
use Rattle.bson_values.specs.declared.value.Value.TheOpen.{Value-F}
use Rattle.doc_paths.specs.Paths as paths
use Rattle.doc_paths.specs.declared.path.PathRefused.{PathRefused}
use Rattle.doc_shape.specs.Keys.{Doc, Way}
use Rattle.doc_shape.specs.Sorted.{stably_sorted}
use Rattle.doc_shape.specs.Clashes.{path_below, any_clash}
use Rattle.doc_shape.specs.declared.shape.Shape.{Shape}

-- ---- paths

-- a name whose first character is `$`
abbrev pub has_dollar : List ℕ → Bool
has_dollar [] = false
has_dollar (byte ∷ more) = nat_eq byte 36

abbrev pub parts_allowed : Result (List (List ℕ)) PathRefused → Result (List (List ℕ)) ℕ
parts_allowed (Err why) = Err 9
parts_allowed (Ok parts) = if list_any has_dollar parts then Err 29 else Ok parts

-- the path that a name spells, of which no part begins with `$`
abbrev pub path_of : List ℕ → Result (List (List ℕ)) ℕ
path_of name = parts_allowed (paths.read name)

-- ---- a sort

abbrev pub number_way : ℤ → Result Bool ℕ
number_way number = if int_eq number (pos 1) then Ok true else if int_eq number (negsuc 0) then Ok false else Err 4

-- the name of the first field; empty where there is none
abbrev pub first_name : List (Pair Value) → List ℕ
first_name [] = []
first_name (pair ∷ pairs) = pair.name

-- whether a path ascends: 1, or -1 where it descends
abbrev pub way_of : Value-F Value → Result Bool ℕ
way_of (Value-F.Int number) = number_way number
way_of (Value-F.Long number) = number_way number
way_of (Value-F.Doc pairs) = if bytes_eq (first_name pairs) (codes "$meta") then Err 29 else Err 4
way_of layer = Err 4

-- a path to sort by, where so many more may stand
abbrev pub pair_way : ℕ → Pair Value → Result Way ℕ
pair_way room pair =
    path_of pair.name
    >>= λ path. if nat_eq room 0 then Err 4 else (way_of (out-Value pair.value) >>= λ ascends. Ok (path, ascends))

abbrev pub ways_in : ℕ → Doc → Result (List Way) ℕ
ways_in room [] = Ok []
ways_in room (pair ∷ pairs) = pair_way room pair >>= λ way. ways_in (room - 1) pairs >>= λ ways. Ok (way ∷ ways)

-- the sort of a document, of at most 32 paths
abbrev pub read_order : Doc → Result (List Way) ℕ
read_order doc = ways_in 32 doc

-- ---- a projection

-- whether a path is shown: a bool, or a whole number, of which 0 is false; what would compute a value is left out
abbrev pub shown_of : Value-F Value → Result Bool ℕ
shown_of (Value-F.Bool truth) = Ok truth
shown_of (Value-F.Int number) = Ok (not (int_eq number (pos 0)))
shown_of (Value-F.Long number) = Ok (not (int_eq number (pos 0)))
shown_of (Value-F.Doc pairs) = Err 29
shown_of (Value-F.Str text) = Err 29
shown_of layer = Err 4

abbrev pub pair_shown : Pair Value → Result Way ℕ
pair_shown pair = path_of pair.name >>= λ path. shown_of (out-Value pair.value) >>= λ shown. Ok (path, shown)

-- the paths of a projection, each with whether it is shown
abbrev pub shown_paths : Doc → Result (List Way) ℕ
shown_paths [] = Ok []
shown_paths (pair ∷ pairs) = pair_shown pair >>= λ one. shown_paths pairs >>= λ more. Ok (one ∷ more)

-- the path `_id`
abbrev pub is_id : List (List ℕ) → Bool
is_id [] = false
is_id (part ∷ parts) = bytes_eq part (codes "_id") && nat_eq (length parts) 0

-- a path other than `_id`, and one that is shown, and one that is hidden
abbrev pub is_other : Way → Bool
is_other way = not (is_id way.0)

abbrev pub shows : Way → Bool
shows way = is_other way && way.1

abbrev pub hides : Way → Bool
hides way = is_other way && not way.1

-- the paths but `_id` do not agree, or one is another one or begins it
abbrev pub is_bad : List Way → Bool
is_bad ways = (list_any shows ways && list_any hides ways) || any_clash (map (λ way. way.0) ways)

-- a path but `_id` is shown, or `_id` alone is
abbrev pub includes_by : List Way → Bool
includes_by ways = list_any shows ways || (not (list_any is_other ways) && list_any (λ way. way.1) ways)

-- `_id` is kept unless it is hidden; the other paths stand in the order of their parts
abbrev pub shape_of : List Way → Shape
shape_of ways = record {
  includes = includes_by ways;
  keeps_id = not (list_any (λ way. is_id way.0 && not way.1) ways);
  paths = stably_sorted path_below (map (λ way. way.0) (filter is_other ways));
}

-- the projection of a document; that its paths do not fit together is told after all else
abbrev pub read_shape : Doc → Result Shape ℕ
read_shape doc = shown_paths doc >>= λ ways. if is_bad ways then Err 11 else Ok (shape_of ways)
