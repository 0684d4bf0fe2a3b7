-- A document with its keys, for a sort.
use Rattle.std.specs.Prelude.{Bool, List, map, if◌then◌else◌}
use Rattle.std.specs.declared.cmp.Ordering.{Ordering}
use Rattle.std.specs.declared.cmp.Ordering.TheVariants.{Less, Greater}
use Rattle.std.specs.Ordering.{is_lt}
use Rattle.std.specs.Option.{option_cmp}
use Rattle.std.specs.Cmp.Lexicographic.{slice_cmp}
use Rattle.bson_order.specs.Order.{compared}
use Rattle.doc_shape.specs.Keys.{Doc, Way, key}
use Rattle.doc_shape.specs.declared.sorting.SortKey.{SortKey}
use Rattle.doc_shape.specs.declared.sorting.SortKey.TheVariants.{Up, Down}
use Rattle.doc_shape.specs.declared.sorting.Row.{Row}

-- keys that ascend and keys that descend are not compared
abbrev pub sort_key_cmp : SortKey → SortKey → Ordering
sort_key_cmp (Up one) (Up other) = option_cmp compared one other
sort_key_cmp (Up one) (Down other) = Less
sort_key_cmp (Down one) (Up other) = Greater
sort_key_cmp (Down one) (Down other) = option_cmp compared other one

abbrev pub sort_key : Doc → Way → SortKey
sort_key doc way = if way.1 then Up (key way doc) else Down (key way doc)

abbrev pub row : List Way → Doc → Row
row ways doc = record { keys = map (sort_key doc) ways; doc = doc }

abbrev pub row_below : Row → Row → Bool
row_below one other = is_lt (slice_cmp sort_key_cmp one.keys other.keys)
