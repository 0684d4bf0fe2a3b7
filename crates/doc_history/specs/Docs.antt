-- The documents in tables.
use Rattle.std.specs.Prelude.{List, [], ◌∷◌, map}
use Rattle.std.specs.Option.{unwrap_or}
use Rattle.filter_syntax.specs.Meaning.{Doc}
use Rattle.typed_json.specs.Reading.{row_read}
use Rattle.table_rows.specs.declared.row.Row.{Row}
use Rattle.table_rows.specs.declared.listed.Placed.{Placed}
use Rattle.table_words.specs.Tables.{Table, Tables}
use Rattle.doc_model.specs.Store.{Store, Collection}

-- a row, read as its document
abbrev pub doc_of : Row → Doc
doc_of row = unwrap_or (row_read row.json) []

-- rows, in order
abbrev pub docs_in_rows : List Row → List Doc
docs_in_rows [] = []
docs_in_rows (row ∷ rows) = doc_of row ∷ docs_in_rows rows

abbrev pub docs_at : List Placed → List Doc
docs_at = map (λ (placed : Placed). doc_of placed.row)

-- a table as a collection
abbrev pub collection : Table → Collection
collection t = record { space = t.space; docs = docs_at t.rows }

abbrev pub collections : List Table → List Collection
collections = map collection

-- the store whose documents are the rows, read back
abbrev pub docs : Tables → Store
docs s = record { collections = collections s.live; next = s.next }
