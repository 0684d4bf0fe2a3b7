-- What rows are relied on for.
use Rattle.std.specs.Prelude.{ℕ, ◌≡◌, ◌≤◌, true, List, Some, Ok}
use Rattle.serde_json.specs.Data.{depth}
use Rattle.serde_json.specs.Read.{max_depth}
use Rattle.serde_json.specs.Written.{compact_text}
use Rattle.bson_values.specs.declared.pairs.Pair.{Pair}
use Rattle.bson_values.specs.declared.value.Value.{Value}
use Rattle.bson_values.specs.Names.{first_of}
use Rattle.bson_values.specs.Storable.{storable}
use Rattle.jsonb_contain.specs.declared.value.Json.{Json, out-Json}
use Rattle.jsonb_contain.specs.declared.value.Json.TheOpen.{Json-F}
use Rattle.jsonb_contain.specs.Rising.{value_at}
use Rattle.jsonb_contain.specs.Texts.{data_of, fits, read_json}
use Rattle.typed_json.specs.Plain.{plain_of}
use Rattle.typed_json.specs.Reading.{row_read}
use Rattle.typed_json.specs.Row.{row_of}
use Rattle.typed_json.specs.Typed.{has_types}

-- a document that may be stored, whose parts are of their types, and of which this is the row
pub record IsRowOf (row : Json) (doc : List (Pair Value)) : Type 0 where
  pub typed : has_types doc ≡ true
  pub stored : storable doc ≡ Ok tt
  pub row_is : row_of doc ≡ row

-- no two documents have one row
abbrev pub OneDocument : Type 0
OneDocument = (row : Json) (doc other : List (Pair Value)) → IsRowOf row doc → IsRowOf row other → doc ≡ other

-- an object that has the plain JSON of each field of a document under its name, for the first field of that name
pub record HasFields (row : Json) (doc : List (Pair Value)) : Type 0 where
  pub fields : List (Pair Json)
  pub is : out-Json row ≡ Json-F.Object fields
  pub at : (name : List ℕ) (it : Value) → first_of name doc ≡ Some it → value_at name fields ≡ Some (plain_of it)

-- a JSON whose compact text is read again as it: its numbers fit, and it has no more levels than are read
pub record IsReadAgain (it : Json) : Type 0 where
  pub fitting : fits it ≡ true
  pub shallow : depth (data_of it) ≤ max_depth
  pub again : read_json (compact_text (data_of it)) ≡ Some it

-- the row of a document that may be stored, and whose parts are of their types, is so
abbrev pub RowsAreReadAgain : Type 0
RowsAreReadAgain = (doc : List (Pair Value)) → storable doc ≡ Ok tt → has_types doc ≡ true → IsReadAgain (row_of doc)

-- and that row, read strictly, is the document
abbrev pub RowsAreTheirDocuments : Type 0
RowsAreTheirDocuments = (doc : List (Pair Value)) → storable doc ≡ Ok tt → has_types doc ≡ true → row_read (row_of doc) ≡ Some doc
