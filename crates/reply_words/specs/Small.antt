-- Which replies are so small that they can be sent, and how large one is that tells of changes. Links between contracts.
use Rattle.std.specs.Prelude.{ℕ, ◌≤◌, ◌+◌, ◌*◌, Bool, true, false, List, All, Option, IfSome, length}
use Rattle.bson_values.specs.declared.pairs.Pair.{Pair}
use Rattle.bson_values.specs.declared.value.Value.{Value}
use Rattle.bson_values.specs.declared.value.Value.TheVariants.{Arr}
use Rattle.bson_values.specs.Measures.{size, value_size}
use Rattle.bson_spelling.specs.declared.form.Form.TheVariants.{Bson}
use Rattle.bson_spelling.specs.Spelling.{held}
use Rattle.reply_words.specs.declared.ends.ItemEnd.{ItemEnd}
use Rattle.reply_words.specs.declared.ends.ItemEnd.TheVariants as ended
use Rattle.reply_words.specs.declared.replies.Reply.{Reply}
use Rattle.reply_words.specs.declared.replies.Reply.TheVariants.{Batch, Values}
use Rattle.reply_words.specs.Replies.{namespace, total_size}

-- the documents of a batch have at most 16,777,216 bytes, and the full name of its collection has at most 255; values are an array of at
-- most 16,777,216 bytes; every other reply is small
abbrev pub IsSmall : Reply → Type 0
IsSmall (Batch space docs) = (total_size docs ≤ 16777216) × (length (namespace space) ≤ 255)
IsSmall (Values values) = value_size (Arr values) ≤ 16777216
IsSmall reply = Unit {0}

-- an `_id` of at most 16,383 bytes, where there is one
abbrev pub IsShortId : Option Value → Type 0
IsShortId upserted = IfSome upserted (λ id. length (held Bson id).1 ≤ 16383)

abbrev pub HasShortId : ItemEnd → Type 0
HasShortId (ended.Done n m id) = IsShortId id
HasShortId (ended.Refused kind) = Unit {0}

abbrev pub AreShort : List ItemEnd → Type 0
AreShort ends = All HasShortId ends

-- a document of at most 16,777,216 bytes, where there is one
abbrev pub IsShortDocument : Option (List (Pair Value)) → Type 0
IsShortDocument it = IfSome it (λ doc. size doc ≤ 16777216)

-- the most items of a write
abbrev pub MOST_ITEMS : ℕ
MOST_ITEMS = 1000

-- the most bytes of the document that tells of so many items. For one that was refused: 94, since its sentence has at most 50 bytes and
-- its place at most three digits. For one that inserted a document: 26 and the bytes of its `_id`
abbrev pub most_items_size : Bool → ℕ → ℕ
most_items_size false items = 42 + 94 * items
most_items_size true items = 76 + 16409 * items
