-- What the pushed condition is relied on for.
use Rattle.std.specs.Prelude.{ℕ, ◌≡◌, Bool, false, codes, List, map, Some, Ok}
use Rattle.std.specs.List.{filter}
use Rattle.bson_spelling.specs.Spelling.{key}
use Rattle.bson_values.specs.Names.{first_of}
use Rattle.bson_values.specs.Storable.{storable}
use Rattle.bson_values.specs.declared.value.Value.{Value, out-Value}
use Rattle.filter_syntax.specs.Candidates.{is_array}
use Rattle.filter_syntax.specs.Meaning.{Doc, holds}
use Rattle.filter_syntax.specs.declared.filter.Filter.{Filter}
use Rattle.jsonb_contain.specs.Containment.{met}
use Rattle.jsonb_contain.specs.declared.value.Json.{Json}
use Rattle.typed_json.specs.Row.{row_of}
use Rattle.pushdown.specs.Pushed.{cond}

-- a document beside a key and a row
pub record Kept : Type 0 where
  pub doc : Doc
  pub key : List ℕ
  pub row : Json

-- a document that may be stored, the key of its `_id`, which is no array, and its row
pub record IsSound (kept : Kept) : Type 0 where
  pub stored : storable kept.doc ≡ Ok tt
  pub id : Value
  pub has_id : first_of (codes "_id") kept.doc ≡ Some id
  pub no_array : is_array (out-Value id) ≡ false
  pub key_is : kept.key ≡ key id
  pub row_is : kept.row ≡ row_of kept.doc

-- the row, with its key, meets the pushed condition of a filter
abbrev pub is_selected : Filter → Kept → Bool
is_selected it kept = met (cond it) kept.key kept.row

-- the documents of which a filter holds, in order
abbrev pub matching : Filter → List Doc → List Doc
matching it docs = filter (holds it) docs

-- the rows that meet its pushed condition, in order
abbrev pub selected : Filter → List Kept → List Kept
selected it all = filter (is_selected it) all

-- the documents of rows
abbrev pub docs_of : List Kept → List Doc
docs_of all = map (λ (kept : Kept). kept.doc) all
