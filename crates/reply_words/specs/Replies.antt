-- The documents of replies: the manual's "Database Commands", with a line for each reply.
use Prim.Native.String.{String}
use Rattle.std.specs.Prelude.{ℕ, pos, ◌+◌, ◌-◌, ◌^◌, ◌&&◌, ◌==◌, min, Bool, nat_lt, nat_le, if◌then◌else◌, List, [], ◌∷◌, ◌++◌, length}
use Rattle.std.specs.Prelude.{map, codes, Option}
use Rattle.std.specs.Prelude.{None, Some, true, false}
use Rattle.bson_values.specs.declared.pairs.Pair.{Pair}
use Rattle.bson_values.specs.declared.space.Space.{Space}
use Rattle.bson_values.specs.declared.value.Value.{Value}
use Rattle.bson_values.specs.declared.value.Value.TheVariants.{Str, Doc, Arr, Int, Long, Null}
use Rattle.bson_values.specs.declared.value.Value.TheVariants as value
use Rattle.bson_values.specs.Measures.{size}
use Rattle.case_tables.specs.Refusals.{code_of, code_name_of, text_of}
use Rattle.case_tables.specs.Types.{type_name_of}
use Rattle.reply_words.specs.declared.ends.ItemEnd.{ItemEnd}
use Rattle.reply_words.specs.declared.ends.ItemEnd.TheVariants as ended
use Rattle.reply_words.specs.declared.replies.Reply.{Reply}
use Rattle.reply_words.specs.declared.replies.Reply.TheVariants.{Done, Error, Counted, Values, Batch}

-- a field
abbrev pub field : String → Value → Pair Value
field name it = record { name = codes name; value = it }

-- a count: an int where it is one, else a long, and the last long for all that is past it
abbrev pub number : ℕ → Value
number n = if nat_lt n (2 ^ 31) then Int (pos n) else Long (pos (min n (2 ^ 63 - 1)))

-- a blank and the name of a type, where the type byte is one's
abbrev pub named : List ℕ → List ℕ
named [] = []
named name = codes " " ++ name

-- the sentence of a kind; that of an unsupported type, kind 2, names the type
abbrev pub sentence : ℕ → Option ℕ → List ℕ
sentence kind None = text_of kind
sentence kind (Some code) = if kind == 2 then text_of kind ++ named (type_name_of code) else text_of kind

-- db.coll
abbrev pub namespace : Space → List ℕ
namespace space = space.db ++ codes "." ++ space.coll

-- a cursor that has no more than its first batch
abbrev pub cursor : Space → List (List (Pair Value)) → List (Pair Value)
cursor space docs = field "firstBatch" (Arr (map Doc docs)) ∷ field "id" (Long (pos 0)) ∷ field "ns" (Str (namespace space)) ∷ []

-- the document of each reply
abbrev pub document_of : Reply → List (Pair Value)
document_of Done = field "ok" (Int (pos 1)) ∷ []
document_of (Error kind code) =
    field "ok" (Int (pos 0)) ∷ field "errmsg" (Str (sentence kind code)) ∷ field "code" (Int (pos (code_of kind)))
    ∷ field "codeName" (Str (code_name_of kind)) ∷ []
document_of (Counted n) = field "n" (number n) ∷ field "ok" (Int (pos 1)) ∷ []
document_of (Values values) = field "values" (Arr values) ∷ field "ok" (Int (pos 1)) ∷ []
document_of (Batch space docs) = field "cursor" (Doc (cursor space docs)) ∷ field "ok" (Int (pos 1)) ∷ []

-- ---- the items of a write

-- to how many documents an item was done, and how many are no longer what they were
abbrev pub done : ItemEnd → ℕ
done (ended.Done n m id) = n
done (ended.Refused kind) = 0

abbrev pub changed : ItemEnd → ℕ
changed (ended.Done n m id) = m
changed (ended.Refused kind) = 0

abbrev pub total : (ItemEnd → ℕ) → List ItemEnd → ℕ
total count [] = 0
total count (end ∷ ends) = count end + total count ends

-- what tells of the item `index`: of one that was refused, and of one that inserted a document
unfoldable pub item_error : ℕ → ℕ → List (Pair Value)
item_error index kind =
    field "index" (Int (pos index)) ∷ field "code" (Int (pos (code_of kind))) ∷ field "errmsg" (Str (text_of kind)) ∷ []

unfoldable pub item_upserted : ℕ → Value → List (Pair Value)
item_upserted index id = field "index" (Int (pos index)) ∷ field "_id" id ∷ []

abbrev pub error_of : ℕ → ItemEnd → List (List (Pair Value))
error_of index (ended.Done n m id) = []
error_of index (ended.Refused kind) = item_error index kind ∷ []

abbrev pub upserted_of : ℕ → ItemEnd → List (List (Pair Value))
upserted_of index (ended.Done n m None) = []
upserted_of index (ended.Done n m (Some id)) = item_upserted index id ∷ []
upserted_of index (ended.Refused kind) = []

-- what tells of the items, each with its place among them, of which the first here has the place `index`
abbrev pub told_from : (ℕ → ItemEnd → List (List (Pair Value))) → ℕ → List ItemEnd → List (List (Pair Value))
told_from told index [] = []
told_from told index (end ∷ ends) = told index end ++ told_from told (index + 1) ends

-- a field of that name with them, where there are any
abbrev pub listed : String → List (List (Pair Value)) → List (Pair Value)
listed name [] = []
listed name docs = field name (Arr (map Doc docs)) ∷ []

-- what an update tells besides
abbrev pub changes : Bool → List ItemEnd → List (Pair Value)
changes false ends = []
changes true ends = field "nModified" (number (total changed ends)) ∷ listed "upserted" (told_from upserted_of 0 ends)

-- the document that tells how the items of an update, or of another write, ended
unfoldable pub items_document : Bool → List ItemEnd → List (Pair Value)
items_document update ends =
    field "n" (number (total done ends)) ∷ changes update ends ++ listed "writeErrors" (told_from error_of 0 ends)
    ++ field "ok" (Int (pos 1)) ∷ []

-- ---- findAndModify

-- one, where a document existed or was inserted
abbrev pub count_of : Bool → Option Value → ℕ
count_of false None = 0
count_of existed upserted = 1

abbrev pub upserted_field : Option Value → List (Pair Value)
upserted_field None = []
upserted_field (Some id) = field "upserted" id ∷ []

-- what a removal does not tell
abbrev pub update_told : Bool → Bool → Option Value → List (Pair Value)
update_told true existed upserted = []
update_told false existed upserted = field "updatedExisting" (value.Bool existed) ∷ upserted_field upserted

abbrev pub shown : Option (List (Pair Value)) → Value
shown None = Null
shown (Some doc) = Doc doc

-- the document that tells how it ended: whether it was to remove, whether a document existed, the `_id` of one that was inserted, and
-- the document that is shown
unfoldable pub last_error : Bool → Bool → Option Value → List (Pair Value)
last_error removed existed upserted = field "n" (Int (pos (count_of existed upserted))) ∷ update_told removed existed upserted

unfoldable pub modified_document : Bool → Bool → Option Value → Option (List (Pair Value)) → List (Pair Value)
modified_document removed existed upserted it =
    field "lastErrorObject" (Doc (last_error removed existed upserted)) ∷ field "value" (shown it) ∷ field "ok" (Int (pos 1)) ∷ []

-- ---- batches

-- the bytes that all the documents take
abbrev pub total_size : List (List (Pair Value)) → ℕ
total_size [] = 0
total_size (doc ∷ docs) = size doc + total_size docs

-- the documents go into one batch of at most so many of them, of at most 16,777,216 bytes
abbrev pub fit_a_batch : ℕ → List (List (Pair Value)) → Bool
fit_a_batch most docs = nat_le (length docs) most && nat_le (total_size docs) 16777216
