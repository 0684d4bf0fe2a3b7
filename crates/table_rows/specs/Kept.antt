-- Rows as they are kept, and as they are seen.
use Rattle.std.specs.Prelude.{List, map}
use Rattle.keyed_rows.specs.declared.entry.Entry.{Entry}
use Rattle.table_rows.specs.declared.body.Body.{Body}
use Rattle.table_rows.specs.declared.listed.Placed.{Placed}
use Rattle.table_rows.specs.declared.row.Row.{Row}

-- the row of what is kept
abbrev pub row_of : Entry Body → Row
row_of kept = record { key = kept.key; json = kept.value.json; text = kept.value.text }

-- all that is kept, as rows at their places
abbrev pub placed : List (Entry Body) → List Placed
placed = map (λ (kept : Entry Body). record { place = kept.place; row = row_of kept })
