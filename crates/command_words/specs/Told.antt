-- The tables of the code, as the definitions have them, and what the functions of the code tell one another.
use Rattle.std.specs.Prelude.{ℕ, ◌≡◌, ⊤, true, ◌&&◌, ◌||◌, List, map, None, Some, Result, Ok, Err}
use Rattle.naming.specs.Names.{is_database_name, is_collection_name}
use Rattle.bson_values.specs.declared.pairs.Pair.{Pair}
use Rattle.bson_values.specs.declared.value.Value.{Value}
use Rattle.bson_values.specs.declared.value.Value.TheViews.{out-Value}
use Rattle.op_msg.specs.declared.message.Message.{Message}
use Rattle.command_words.specs.declared.items.Items.{Items}
use Rattle.command_words.specs.declared.items.Items.TheVariants.{Array, Documents}
use Rattle.command_words.specs.declared.refused.CommandRefused.{CommandRefused}
use Rattle.command_words.specs.declared.refused.CommandRefused.TheVariants.{Refused, NoMemory}
use Rattle.command_words.specs.declared.tables.Row.{Row}
use Rattle.command_words.specs.declared.tables.Table.{Table}
use Rattle.command_words.specs.declared.word.Word.{Word}
use Rattle.command_words.specs.Tables.{Field, Shape, shape_of}
use Rattle.command_words.specs.Body.{pairs_of, word_in, db_of, coll_of}
use Rattle.command_words.specs.Refusal.{MayWant, form_refusal}

-- a row, and a table
abbrev pub told : Row → Field
told row = record { name = row.name.now; takes = row.takes; required = row.required }

abbrev pub shape_told : Table → Shape
shape_told table = record { own = table.own; fields = map told table.fields.now; free = table.free }

-- items, wherever they lie
abbrev pub items_told : Items → List (List (Pair Value))
items_told (Array values) = map (λ item. pairs_of (out-Value item)) values.now
items_told (Documents docs) = docs.now

-- the message's form is in order, this is its command, and the names of its space are such as may be; or why not
abbrev pub Asks : Message → Result Word CommandRefused → Type 0
Asks m (Ok word) = (form_refusal m ≡ None) × (word_in m.body ≡ Some word)
    × (is_database_name (db_of m) && ((shape_of word).free || is_collection_name (db_of m) (coll_of m)) ≡ true)
Asks m (Err (Refused kind)) = form_refusal m ≡ Some kind
Asks m (Err NoMemory) = MayWant m

-- it is refused so; want of memory tells nothing of it
abbrev pub Fails : {Y : Type 0} → CommandRefused → Result Y ℕ → Type 0
Fails (Refused kind) found = found ≡ Err kind
Fails NoMemory found = ⊤

-- it is read, or refused, so
abbrev pub Gives : {Y : Type 0} → Result Y CommandRefused → Result Y ℕ → Type 0
Gives (Ok it) found = found ≡ Ok it
Gives (Err why) found = Fails why found
