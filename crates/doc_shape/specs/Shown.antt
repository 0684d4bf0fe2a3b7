-- A projection: MongoDB Manual, "db.collection.find(), Projection". Paths shrink on the way down, to what is left of them.
use Rattle.std.specs.Prelude.{ℕ, Bool, true, false, ◌&&◌, not, if◌then◌else◌, List, [], ◌∷◌, length, nat_eq, codes, Option, Some, None}
use Rattle.std.specs.List.{list_any, flat_map}
use Rattle.std.specs.Str.{bytes_eq}
use Rattle.bson_values.specs.declared.pairs.Pair.{Pair}
use Rattle.bson_values.specs.declared.value.Value.{Value, map-Value}
use Rattle.bson_values.specs.declared.value.Value.TheViews.{roll-Value}
use Rattle.bson_values.specs.declared.value.Value.TheOpen.{Value-F}
use Rattle.bson_values.specs.declared.value.Value.TheFolds.{fold-Value}
use Rattle.bson_values.specs.declared.value.Value.TheVariants as value
use Rattle.doc_shape.specs.Keys.{Doc}
use Rattle.doc_shape.specs.Clashes.{Parts}
use Rattle.doc_shape.specs.declared.shape.Shape.{Shape}

-- what is left of the paths that begin with a name
abbrev pub behind : List ℕ → List Parts → List Parts
behind name [] = []
behind name ([] ∷ paths) = behind name paths
behind name ((part ∷ rest) ∷ paths) = if bytes_eq part name then rest ∷ behind name paths else behind name paths

-- the path ends here
abbrev pub is_end : Parts → Bool
is_end [] = true
is_end (part ∷ rest) = false

abbrev pub any_ends : List Parts → Bool
any_ends paths = list_any is_end paths

-- a value, where it is there
abbrev pub some_if : {X : Type 0} → Bool → X → Option X
some_if true it = Some it
some_if false it = None

-- a value and what is shown of it by the paths that lead on
pub record Shown : Type 0 where
  pub it : Value
  pub by : List Parts → Option Value

-- what is shown of a value to which these paths lead: a path that ends there names all of it, and where none leads there, it is not named
abbrev pub shown_at : Bool → List Parts → Shown → Option Value
shown_at includes [] one = some_if (not includes) one.it
shown_at includes (path ∷ paths) one = if any_ends (path ∷ paths) then some_if includes one.it else one.by (path ∷ paths)

-- a value under a name, where it is there
abbrev pub named : {V : Type 0} → List ℕ → Option V → List (Pair V)
named name None = []
named name (Some it) = record { name = name; value = it } ∷ []

abbrev pub some_of : Option Value → List Value
some_of None = []
some_of (Some it) = it ∷ []

abbrev pub shown_pair : Bool → List Parts → Pair Shown → Doc
shown_pair includes paths pair = named pair.name (shown_at includes (behind pair.name paths) pair.value)

-- a document by its fields, an array by each of its elements; another value is shown where what is not named is
abbrev pub shown_in : Bool → Value → Value-F Shown → List Parts → Option Value
shown_in includes it (Value-F.Doc pairs) paths = Some (value.Doc (flat_map (shown_pair includes paths) pairs))
shown_in includes it (Value-F.Arr items) paths = Some (value.Arr (flat_map (λ one. some_of (one.by paths)) items))
shown_in includes it layer paths = some_if (not includes) it

abbrev pub show_layer : Bool → Value-F Shown → Shown
show_layer includes layer =
    let it = roll-Value (map-Value Shown Value (λ one. one.it) layer) in
    record { it = it; by = shown_in includes it layer }

abbrev pub shown_value : Bool → Value → Shown
shown_value includes = fold-Value Shown (show_layer includes)

abbrev pub is_id_name : List ℕ → Bool
is_id_name name = bytes_eq name (codes "_id")

abbrev pub field : Bool → Pair Value → Pair Shown
field includes pair = record { name = pair.name; value = shown_value includes pair.value }

-- a field of the document itself: `_id` is left out whole, or kept whole where the projection includes
abbrev pub shown_field : Shape → Pair Value → Doc
shown_field shape pair =
    if is_id_name pair.name && not shape.keeps_id then []
    else if is_id_name pair.name && shape.includes then pair ∷ []
    else shown_pair shape.includes shape.paths (field shape.includes pair)

abbrev pub shown : Shape → Doc → Doc
shown shape doc = flat_map (shown_field shape) doc

-- nothing is named, so that all is shown
abbrev pub nothing_hidden : Shape → Bool
nothing_hidden shape = not shape.includes && shape.keeps_id && nat_eq (length shape.paths) 0
