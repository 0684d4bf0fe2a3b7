-- What the keeper has of the tables.
use Rattle.std.specs.Prelude.{ℕ, ◌≡◌, List, [], ◌∷◌, map, Option, None, Some}
use Rattle.serde_json.specs.Written.{compact_text}
use Rattle.jsonb_contain.specs.Texts.{data_of, read_json}
use Rattle.jsonb_contain.specs.declared.value.Json.{Json}
use Rattle.outside.specs.declared.kept.KeptRow.{KeptRow}
use Rattle.outside.specs.declared.kept.KeptTable.{KeptTable}
use Rattle.outside.specs.declared.kept.Change.{Change}
use Rattle.outside.specs.declared.kept.Change.TheVariants.{Create, Drop, Put, Cut}
use Rattle.table_rows.specs.declared.listed.Placed.{Placed}
use Rattle.table_words.specs.Tables.{Table, Tables}

-- ---- what is kept of a state

abbrev pub kept_row : Placed → KeptRow
kept_row p = record { place = p.place; key = p.row.key; text = p.row.text }

abbrev pub kept_table : Table → KeptTable
kept_table t = record { number = t.number; space = t.space; rows = map kept_row t.rows }

abbrev pub kept_tables : List Table → List KeptTable
kept_tables live = map kept_table live

-- ---- up to how a text is written

-- the JSON of a text, written anew
abbrev pub again : Option Json → List ℕ
again None = []
again (Some json) = compact_text (data_of json)

abbrev pub plain_text : List ℕ → List ℕ
plain_text text = again (read_json text)

abbrev pub plain_row : KeptRow → KeptRow
plain_row row = record row { text = plain_text row.text }

abbrev pub plain_table : KeptTable → KeptTable
plain_table table = record table { rows = map plain_row table.rows }

abbrev pub plain_change : Change → Change
plain_change (Create number space) = Create number space
plain_change (Drop number) = Drop number
plain_change (Put number place key text) = Put number place key (plain_text text)
plain_change (Cut number key) = Cut number key

-- the keeper's tables, where they are told, are those of the state: its numbers, spaces, places and keys, and texts that read as its JSON
abbrev pub Tells : Option (List KeptTable) → Tables → Type 0
Tells None s = Unit {0}
Tells (Some told) s = map plain_table told ≡ kept_tables s.live
