-- Which rows, calls and tables are sound.
use Rattle.std.specs.Prelude.{ℕ, ◌≡◌, ◌<◌, ◌≤◌, true, false, codes, List, [], ◌∷◌, length, Option, None, Some}
use Rattle.bson_values.specs.declared.pairs.Pair.{Pair}
use Rattle.bson_values.specs.declared.value.Value.{Value, out-Value}
use Rattle.bson_values.specs.Names.{first_of, same_space}
use Rattle.bson_spelling.specs.Spelling.{key}
use Rattle.jsonb_contain.specs.Texts.{data_of}
use Rattle.serde_json.specs.Written.{compact_text}
use Rattle.typed_json.specs.Laws.{IsRowOf}
use Rattle.naming.specs.Ids.{can_be_id}
use Rattle.naming.specs.Names.{is_valid}
use Rattle.table_rows.specs.declared.row.Row.{Row}
use Rattle.table_rows.specs.declared.listed.Placed.{Placed}
use Rattle.table_rows.specs.Rows.{has_key}
use Rattle.table_words.specs.declared.call.Edit.{Edit}
use Rattle.table_words.specs.declared.call.Edit.TheVariants.{Replace, Remove}
use Rattle.table_words.specs.declared.call.TableCall.{TableCall}
use Rattle.table_words.specs.declared.call.TableCall.TheVariants as call
use Rattle.table_words.specs.Tables.{Table, Tables, MOST_TABLES}

-- the row of a document that may be stored: its JSON, the text of that, and the key of its `_id`
pub record IsSound (row : Row) : Type 0 where
  pub doc : List (Pair Value)
  pub json : IsRowOf row.json doc
  pub text : row.text ≡ compact_text (data_of row.json)
  pub id : Value
  pub has_id : first_of (codes "_id") doc ≡ Some id
  pub may : can_be_id (out-Value id) ≡ true
  pub key_is : row.key ≡ key id

-- the rows of edits, and one that is added
abbrev pub SoundEdits : List Edit → Type 0
SoundEdits [] = Unit {0}
SoundEdits (Replace row ∷ es) = IsSound row × SoundEdits es
SoundEdits (Remove key ∷ es) = SoundEdits es

abbrev pub SoundAdded : Option Row → Type 0
SoundAdded None = Unit {0}
SoundAdded (Some row) = IsSound row

-- which calls may be made: their rows are sound, and a space that they may create has valid names
abbrev pub accepted : TableCall → Type 0
accepted (call.InsertNamed space row) = (is_valid space ≡ true) × IsSound row
accepted (call.Insert table row) = IsSound row
accepted (call.Commit table stamp edits added) = SoundEdits edits × SoundAdded added
accepted (call.Create space) = is_valid space ≡ true
accepted c = Unit {0}

-- each row is sound and has a key of its own, and its place was given
abbrev pub SoundRows : ℕ → List Placed → Type 0
SoundRows next [] = Unit {0}
SoundRows next (p ∷ ps) = IsSound p.row × (has_key p.row.key ps ≡ false) × (p.place < next) × SoundRows next ps

-- the table has another space, and a smaller number, than each of these
abbrev pub IsApart : Table → List Table → Type 0
IsApart t [] = Unit {0}
IsApart t (u ∷ us) = (same_space t.space u.space ≡ false) × (t.number < u.number) × IsApart t us

-- a table has a valid space and sound rows, and its number and stamp were given
pub record SoundTable (next : ℕ) (t : Table) : Type 0 where
  pub rows : SoundRows next t.rows
  pub number : t.number < next
  pub stamp : t.stamp < next
  pub space : is_valid t.space ≡ true

abbrev pub SoundTables : ℕ → List Table → Type 0
SoundTables next [] = Unit {0}
SoundTables next (t ∷ ts) = SoundTable next t × IsApart t ts × SoundTables next ts

-- numbers rise, spaces and keys are distinct, names are valid and rows sound, all numbers were given, and there are not too many tables
pub record Sound (s : Tables) : Type 0 where
  pub tables : SoundTables s.next s.live
  pub few : length s.live ≤ MOST_TABLES
