-- Why a message is refused: the first kind, in the order in which the reasons are looked at.
use Rattle.std.specs.Prelude.{ℕ, pos, int_le, ◌≡◌, ◌<◌, ◌⊎◌, Bool, true, false, not, ◌||◌, ◌&&◌, if◌then◌else◌, nat_le}
use Rattle.std.specs.Prelude.{List, [], ◌∷◌, length, drop}
use Rattle.std.specs.Prelude.{Option, None, Some, is_some, is_none, find, option_map, codes}
use Rattle.std.specs.List.{list_any}
use Rattle.std.specs.Option.{IsSome, option_or, unwrap_or}
use Rattle.std.specs.Str.{bytes_eq}
use Rattle.std_words.specs.Steps.{fault_of}
use Rattle.std_words.specs.Reasons.{when, first, first_of_all}
use Rattle.bson_values.specs.declared.pairs.Pair.{Pair}
use Rattle.bson_values.specs.declared.value.Value.{Value}
use Rattle.bson_values.specs.declared.value.Value.TheViews.{out-Value}
use Rattle.bson_values.specs.declared.value.Value.TheOpen.{Value-F}
use Rattle.bson_values.specs.Names.{first_of}
use Rattle.naming.specs.Names.{is_database_name, is_collection_name}
use Rattle.op_msg.specs.declared.message.Message.{Message}
use Rattle.op_msg.specs.declared.message.Sequence.{Sequence}
use Rattle.command_words.specs.declared.refused.CommandRefused.{CommandRefused}
use Rattle.command_words.specs.declared.refused.CommandRefused.TheVariants.{Refused, NoMemory}
use Rattle.command_words.specs.declared.word.Word.{Word}
use Rattle.command_words.specs.declared.word.Word.TheVariants.{FindAndModify}
use Rattle.command_words.specs.declared.takes.Takes.{Takes}
use Rattle.command_words.specs.declared.takes.Takes.TheVariants.{Text, Document, DocumentOrArray, Truth, Whole, Natural, ZeroOrOne}
use Rattle.command_words.specs.declared.takes.Takes.TheVariants.{Documents, Items, Unknown}
use Rattle.command_words.specs.declared.takes.Item.{Item}
use Rattle.command_words.specs.Tables.{Field, shape_of, item_fields, may}
use Rattle.command_words.specs.Body.{is_document, are_documents, is_whole, whole_of, values_in, documents_in}
use Rattle.command_words.specs.Body.{own_in, made_or, field_or, truth_or, sequence_of, documents_of}
use Rattle.command_words.specs.Body.{word_in, db_of, coll_of, names_of, has_twice}
use Rattle.command_words.specs.Meaning.{meaning_of}

-- ---- a field

-- the value has the type that is taken
abbrev pub has_type : Takes → Value-F Value → Bool
has_type Text (Value-F.Str text) = true
has_type Text _ = false
has_type Document value = is_document value
has_type DocumentOrArray (Value-F.Arr items) = true
has_type DocumentOrArray value = is_document value
has_type Truth (Value-F.Bool truth) = true
has_type Truth value = is_whole value
has_type Whole value = is_whole value
has_type Natural value = is_whole value
has_type ZeroOrOne value = is_whole value
has_type Documents value = are_documents value
has_type (Items item) value = are_documents value
has_type _ value = true

-- so many items may come at once
abbrev pub may_be_items : ℕ → Bool
may_be_items count = nat_le 1 count && nat_le count 1000

-- a value of that type is in the range that is taken
abbrev pub in_range : Takes → Value-F Value → Bool
in_range Natural value = int_le (pos 0) (whole_of value)
in_range ZeroOrOne value = int_le (pos 0) (whole_of value) && int_le (whole_of value) (pos 1)
in_range Documents value = may_be_items (length (values_in value))
in_range (Items item) value = may_be_items (length (values_in value))
in_range _ value = true

-- there is no field that takes this
abbrev pub is_unknown : Takes → Bool
is_unknown Unknown = true
is_unknown _ = false

-- what the first of the fields of that name takes
abbrev pub takes_among : List Field → List ℕ → Takes
takes_among fields name = unwrap_or (option_map (λ (it : Field). it.takes) (find (λ (it : Field). bytes_eq it.name name) fields)) Unknown

-- what the field of a command takes
abbrev pub takes_of : Word → List ℕ → Takes
takes_of word name = takes_among (may Text "$db" ∷ (shape_of word).fields) name

-- what the field of an item takes
abbrev pub item_takes : Item → List ℕ → Takes
item_takes item name = takes_among (item_fields item) name

-- a value of the wrong type, or out of range
abbrev pub value_refusal : Takes → Value-F Value → Option ℕ
value_refusal takes value = first (when (not (has_type takes value)) 17 ∷ when (not (in_range takes value)) 8 ∷ [])

-- ---- items, none of what takes none

-- the fields of an item, one by one
abbrev pub item_refusal : Item → List (Pair Value) → Option ℕ
item_refusal item doc = first_of_all (λ (it : Pair Value). value_refusal (item_takes item it.name) (out-Value it.value)) doc

-- the items, one by one
abbrev pub items_refusal : Takes → List (List (Pair Value)) → Option ℕ
items_refusal (Items item) docs = first_of_all (item_refusal item) docs
items_refusal _ docs = None

-- an item lacks that field, which it has to have; it lacks one of all; one of the items does
abbrev pub is_absent_in : List (Pair Value) → Field → Bool
is_absent_in doc it = it.required && is_none (first_of it.name doc)

abbrev pub item_lacks : Item → List (Pair Value) → Bool
item_lacks item doc = list_any (is_absent_in doc) (item_fields item)

abbrev pub items_lack : Takes → List (List (Pair Value)) → Bool
items_lack (Items item) docs = list_any (item_lacks item) docs
items_lack _ docs = false

-- a field of an item is none of an item's
abbrev pub item_has_unknown : Item → List (Pair Value) → Bool
item_has_unknown item doc = list_any (λ (it : Pair Value). is_unknown (item_takes item it.name)) doc

-- there is no field that takes this, or one of the items has a field that is none of theirs
abbrev pub are_unknown : Takes → List (List (Pair Value)) → Bool
are_unknown (Items item) docs = list_any (item_has_unknown item) docs
are_unknown takes docs = is_unknown takes

-- a field, and then what is in it
abbrev pub field_refusal : Takes → Value-F Value → Option ℕ
field_refusal takes value = option_or (value_refusal takes value) (items_refusal takes (documents_in value))

-- a sequence: too few or too many documents, what is in them, or a field that takes none
abbrev pub sequence_refusal : Takes → List (List (Pair Value)) → Option ℕ
sequence_refusal Documents docs = when (not (may_be_items (length docs))) 8
sequence_refusal (Items item) docs = if may_be_items (length docs) then items_refusal (Items item) docs else Some 8
sequence_refusal Unknown docs = None
sequence_refusal _ docs = Some 17

-- ---- a message

-- fields, one by one
abbrev pub fields_in : Word → List (Pair Value) → Option ℕ
fields_in word fields = first_of_all (λ (it : Pair Value). field_refusal (takes_of word it.name) (out-Value it.value)) fields

-- sequences, one by one
abbrev pub sequences_in : Word → List Sequence → Option ℕ
sequences_in word sequences = first_of_all (λ (it : Sequence). sequence_refusal (takes_of word it.name) it.docs) sequences

-- the message lacks that field, which it has to have
abbrev pub is_absent : Message → Field → Bool
is_absent m it = it.required && is_none (first_of it.name m.body) && is_none (sequence_of m.sequences it.name)

-- it does, or one of the items in that field lacks one of theirs
abbrev pub is_lacking : Message → Field → Bool
is_lacking m it = is_absent m it || items_lack it.takes (documents_of m it.name)

-- a field behind the command's name, or a sequence, is none of the command's, or has an item of which that is so
abbrev pub has_unknown : Word → Message → Bool
has_unknown word m =
    list_any (λ (it : Pair Value). are_unknown (takes_of word it.name) (documents_in (out-Value it.value))) (drop 1 m.body)
    || list_any (λ (it : Sequence). are_unknown (takes_of word it.name) it.docs) m.sequences

-- findAndModify: exactly one of `remove` and `update`, and neither `new` nor `upsert` beside `remove`
abbrev pub is_bad_modify : List (Pair Value) → Bool
is_bad_modify body =
    if truth_or false body (codes "remove")
    then (is_some (first_of (codes "update") body) || truth_or false body (codes "new") || truth_or false body (codes "upsert"))
    else is_none (first_of (codes "update") body)

-- the fields do not go together
abbrev pub breaks_rule : Word → List (Pair Value) → Bool
breaks_rule FindAndModify body = is_bad_modify body
breaks_rule _ body = false

-- the command's own value, the fields behind it, the sequences; then what is missing, the collection's name, what is unknown, and what
-- does not go together
abbrev pub field_reasons : Word → Message → List (Option ℕ)
field_reasons word m =
    made_or None (value_refusal (shape_of word).own) (own_in m.body) ∷ fields_in word (drop 1 m.body) ∷ sequences_in word m.sequences
    ∷ when (list_any (is_lacking m) (shape_of word).fields) 14 ∷ when (not (is_collection_name (db_of m) (coll_of m))) 27
    ∷ when (has_unknown word m) 29 ∷ when (breaks_rule word m.body) 15 ∷ []

-- a name given twice; the database; and then, where it is looked at, the rest
abbrev pub word_reasons : Word → Message → List (Option ℕ)
word_reasons word m =
    when (has_twice (names_of m)) 13 ∷ when (is_none (first_of (codes "$db") m.body)) 14
    ∷ when (not (field_or false (has_type Text) m.body (codes "$db"))) 17 ∷ when (not (is_database_name (db_of m))) 27
    ∷ (if (shape_of word).free then None else first (field_reasons word m)) ∷ []

-- all but the operands: for a foreign element, wherever in the body or in a sequence it stood; for no command; for its words
abbrev pub form_refusal : Message → Option ℕ
form_refusal m = first (
    when (is_some m.foreign) 2 ∷ unwrap_or (option_map (λ word. first (word_reasons word m)) (word_in m.body)) (Some 25) ∷ [])

-- why a message is refused: for its form, and then for the first of its operands that is refused
abbrev pub refusal : Message → Option ℕ
refusal m = option_or (form_refusal m) (fault_of (meaning_of m))

-- the names of several sequences are compared, which takes memory: of a known command, with no foreign element
abbrev pub MayWant : Message → Type 0
MayWant m = (1 < length m.sequences) × (m.foreign ≡ None) × IsSome (word_in m.body)

-- a refusal tells that; want of memory tells that the form is in order, since operands are read while the command is built,
-- or that it came while names were compared
abbrev pub Tells : CommandRefused → Message → Type 0
Tells (Refused kind) m = refusal m ≡ Some kind
Tells NoMemory m = (form_refusal m ≡ None) ⊎ MayWant m
