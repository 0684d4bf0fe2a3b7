-- What stands in a message: its first field has the command's name, the others and the sequences say what it works on.
use Rattle.std.specs.Prelude.{ℕ, ℤ, pos, Bool, true, false, not, ◌||◌, List, [], ◌∷◌, ◌++◌, map, find, codes}
use Rattle.std.specs.Prelude.{Option, None, Some, option_map}
use Rattle.std.specs.List.{list_all}
use Rattle.std.specs.Option.{option_or, unwrap_or}
use Rattle.std.specs.Ordering.{int_eq}
use Rattle.std.specs.Str.{bytes_eq}
use Rattle.bson_values.specs.declared.pairs.Pair.{Pair}
use Rattle.bson_values.specs.declared.value.Value.{Value}
use Rattle.bson_values.specs.declared.value.Value.TheViews.{out-Value}
use Rattle.bson_values.specs.declared.value.Value.TheOpen.{Value-F}
use Rattle.bson_values.specs.Names.{first_of, names}
use Rattle.bson_values.specs.Storable.{stands}
use Rattle.op_msg.specs.declared.message.Message.{Message}
use Rattle.op_msg.specs.declared.message.Sequence.{Sequence}
use Rattle.command_words.specs.declared.word.Word.{Word}
use Rattle.command_words.specs.Tables.{commands}

-- ---- values

-- a document
abbrev pub is_document : Value-F Value → Bool
is_document (Value-F.Doc pairs) = true
is_document _ = false

-- an int or a long
abbrev pub is_whole : Value-F Value → Bool
is_whole (Value-F.Int number) = true
is_whole (Value-F.Long number) = true
is_whole _ = false

-- an array of documents
abbrev pub are_documents : Value-F Value → Bool
are_documents (Value-F.Arr items) = list_all (λ item. is_document (out-Value item)) items
are_documents _ = false

-- the string that the value is
abbrev pub text_of : Value-F Value → List ℕ
text_of (Value-F.Str text) = text
text_of _ = []

-- the document that the value is
abbrev pub pairs_of : Value-F Value → List (Pair Value)
pairs_of (Value-F.Doc pairs) = pairs
pairs_of _ = []

-- the whole number that the value is
abbrev pub whole_of : Value-F Value → ℤ
whole_of (Value-F.Int number) = number
whole_of (Value-F.Long number) = number
whole_of _ = pos 0

-- the bool that the value is, or the whole number's, of which 0 is false
abbrev pub truth_of : Value-F Value → Bool
truth_of (Value-F.Bool truth) = truth
truth_of value = not (int_eq (whole_of value) (pos 0))

-- the values of the array that the value is
abbrev pub values_in : Value-F Value → List Value
values_in (Value-F.Arr items) = items
values_in _ = []

-- the documents of the array that the value is
abbrev pub documents_in : Value-F Value → List (List (Pair Value))
documents_in value = map (λ item. pairs_of (out-Value item)) (values_in value)

-- ---- fields and sequences

-- the value that stands beside the command's name
abbrev pub own_in : List (Pair Value) → Option Value
own_in [] = None
own_in (field ∷ fields) = Some field.value

-- what one makes of the value, or what stands for none
abbrev pub made_or : {A : Type 0} → A → (Value-F Value → A) → Option Value → A
made_or none make value = unwrap_or (option_map (λ it. make (out-Value it)) value) none

-- what one makes of the field of that name, or what stands for none
abbrev pub field_or : {A : Type 0} → A → (Value-F Value → A) → List (Pair Value) → List ℕ → A
field_or none make fields name = made_or none make (first_of name fields)

-- the truth of the field of that name, or what stands for none
abbrev pub truth_or : Bool → List (Pair Value) → List ℕ → Bool
truth_or none fields name = field_or none truth_of fields name

-- the documents of the sequence of that name
abbrev pub sequence_of : List Sequence → List ℕ → Option (List (List (Pair Value)))
sequence_of sequences name = option_map (λ (it : Sequence). it.docs) (find (λ (it : Sequence). bytes_eq it.name name) sequences)

-- documents: those of the field of that name, where it is given, else those of the sequence
abbrev pub documents_of : Message → List ℕ → List (List (Pair Value))
documents_of m name =
    unwrap_or (option_or (option_map (λ it. documents_in (out-Value it)) (first_of name m.body)) (sequence_of m.sequences name)) []

-- ---- names

-- the command that the first field names
abbrev pub word_in : List (Pair Value) → Option Word
word_in [] = None
word_in (field ∷ fields) = option_map (λ (it : List ℕ × Word). it.1) (find (λ (it : List ℕ × Word). bytes_eq it.0 field.name) commands)

-- the database, and the collection that stands beside the command's name
abbrev pub db_of : Message → List ℕ
db_of m = field_or [] text_of m.body (codes "$db")

abbrev pub coll_of : Message → List ℕ
coll_of m = made_or [] text_of (own_in m.body)

-- the names of the body's fields, then those of the sequences
abbrev pub names_of : Message → List (List ℕ)
names_of m = names m.body ++ map (λ (it : Sequence). it.name) m.sequences

-- two of the names are one
abbrev pub has_twice : List (List ℕ) → Bool
has_twice [] = false
has_twice (name ∷ more) = stands more name || has_twice more
