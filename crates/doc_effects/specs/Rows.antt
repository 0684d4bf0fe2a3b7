-- Rows that the code makes and reads. Links between contracts; nobody has to read them for the main clause.
use Rattle.std.specs.Prelude.{◌≡◌, ◌<◌, ◌^◌, true, codes, List, [], ◌∷◌, length, Some, Ok}
use Rattle.bson_spelling.specs.Spelling.{key}
use Rattle.bson_values.specs.Names.{first_of}
use Rattle.bson_values.specs.Storable.{storable}
use Rattle.bson_values.specs.declared.value.Value.{Value, out-Value}
use Rattle.doc_history.specs.Docs.{doc_of}
use Rattle.filter_syntax.specs.Meaning.{Doc}
use Rattle.jsonb_contain.specs.Texts.{data_of}
use Rattle.naming.specs.Ids.{can_be_id}
use Rattle.serde_json.specs.Written.{compact_text}
use Rattle.table_rows.specs.declared.row.Row.{Row}
use Rattle.table_words.specs.Sound.{IsSound}
use Rattle.typed_json.specs.Row.{row_of}
use Rattle.typed_json.specs.Typed.{has_types}

-- the row of a document with that `_id`, which may be stored
pub record IsRowFor (id : Value) (doc : Doc) (row : Row) : Type 0 where
  pub typed : has_types doc ≡ true
  pub stored : storable doc ≡ Ok tt
  pub json_is : row.json ≡ row_of doc
  pub text_is : row.text ≡ compact_text (data_of row.json)
  pub has_id : first_of (codes "_id") doc ≡ Some id
  pub may : can_be_id (out-Value id) ≡ true
  pub key_is : row.key ≡ key id
  pub short : length row.key < 2 ^ 63

-- the document of a sound row
abbrev pub IsStored : Doc → Type 0
IsStored doc = (row : Row) × IsSound row × (doc ≡ doc_of row)

-- each of the rows is sound
abbrev pub AreSound : List Row → Type 0
AreSound [] = Unit {0}
AreSound (row ∷ rows) = IsSound row × AreSound rows
