-- The document that an insert stores, and which documents are not stored.
use Rattle.std.specs.Prelude.{ℕ, ◌%◌, ◌/◌, ◌^◌, if◌then◌else◌, codes, List, [], ◌∷◌, ◌++◌, Option, None, Some, Result, Ok, Err}
use Rattle.std.specs.Option.{unwrap_or}
use Rattle.std.specs.Str.{bytes_eq}
use Rattle.byteorder.specs.Endian.{big_bytes}
use Rattle.history_lock.specs.declared.entry.Who.{Who}
use Rattle.bson_values.specs.declared.storing.Unstorable.{Unstorable}
use Rattle.bson_values.specs.declared.storing.Unstorable.TheVariants.{TooLarge}
use Rattle.bson_values.specs.declared.value.Value.{Value, out-Value}
use Rattle.bson_values.specs.declared.value.Value.TheVariants.{Id}
use Rattle.bson_values.specs.Names.{first_of}
use Rattle.bson_values.specs.Storable.{storable}
use Rattle.filter_syntax.specs.Meaning.{Doc}
use Rattle.naming.specs.Ids.{can_be_id}

-- an ObjectId: the seconds of the moment, the number of the seat, of the connection and of the operation
abbrev pub generated : Who → ℕ → List ℕ
generated who now =
    big_bytes 4 (now / 1000 % 2 ^ 32) ++ big_bytes 2 (who.seat % 2 ^ 16) ++ big_bytes 3 (who.link % 2 ^ 24) ++ big_bytes 3 (who.op % 2 ^ 24)

-- the document's `_id`, and a generated one where it has none
abbrev pub id_of : Who → ℕ → Doc → Value
id_of who now doc = unwrap_or (first_of (codes "_id") doc) (Id (generated who now))

-- the document without its first field of that name
abbrev pub without : List ℕ → Doc → Doc
without name [] = []
without name (field ∷ fields) = if bytes_eq field.name name then fields else field ∷ without name fields

-- what an insert stores: the `_id` first, and then the other fields
abbrev pub completed : Who → ℕ → Doc → Doc
completed who now doc = record { name = codes "_id"; value = id_of who now doc } ∷ without (codes "_id") doc

-- a document that cannot be stored: too large is kind 30
abbrev pub unstored : Result (Unit {0}) Unstorable → Option ℕ
unstored (Ok fine) = None
unstored (Err TooLarge) = Some 30
unstored (Err wrong) = Some 6

-- why a document with that `_id` is not stored
abbrev pub not_stored : Value → Doc → Option ℕ
not_stored id doc = if can_be_id (out-Value id) then unstored (storable doc) else Some 5
