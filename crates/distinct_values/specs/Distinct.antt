-- The values that stand at a path, each once: MongoDB Manual, "distinct".
use Rattle.std.specs.Prelude.{ℕ, if◌then◌else◌, List, [], ◌∷◌, ◌++◌}
use Rattle.std.specs.List.{flat_map, fold, list_any}
use Rattle.bson_values.specs.declared.pairs.Pair.{Pair}
use Rattle.bson_values.specs.declared.value.Value.{Value, out-Value}
use Rattle.bson_values.specs.declared.value.Value.TheOpen.{Value-F}
use Rattle.bson_values.specs.declared.value.Value.TheVariants as value
use Rattle.bson_order.specs.Order.{is_same}
use Rattle.doc_paths.specs.Reach.{reached}
use Rattle.doc_paths.specs.declared.reached.Reached.{Reached}
use Rattle.doc_paths.specs.declared.reached.Reached.TheVariants.{Missing, Found}

-- the elements of an array, and any other value itself
abbrev pub spread : Value → Value-F Value → List Value
spread it (Value-F.Arr items) = items
spread it layer = it ∷ []

abbrev pub values_of : Reached → List Value
values_of Missing = []
values_of (Found it) = spread it (out-Value it)

-- the values that stand at a path in a document, in order
abbrev pub values_at : List (List ℕ) → List (Pair Value) → List Value
values_at path doc = flat_map values_of (reached path (value.Doc doc))

-- the values, and behind them one that is the same as none
abbrev pub joined : List Value → Value → List Value
joined values it = if list_any (is_same it) values then values else values ++ it ∷ []

-- the values that stand at a path in documents, each where it stands first
abbrev pub distinct : List (List ℕ) → List (List (Pair Value)) → List Value
distinct path docs = fold joined [] (flat_map (values_at path) docs)
