-- What a document is after an update, or the kind of the first refusal: MongoDB manual, "Update Operators". 4 and 21 are places that cannot
-- be made, 7 a number out of range, 10 and 18 values to which an operator does not apply, 26 another `_id`.
use Rattle.std.specs.Prelude.{ℕ, ℤ, pos, negsuc, ◌+◌, ◌-◌, ◌*◌, ◌/◌, ◌%◌, ◌^◌, ◌+ℤ◌, ◌*ℤ◌, min, nat_lt}
use Rattle.std.specs.Prelude.{Bool, true, false, not, ◌||◌, if◌then◌else◌, List, [], ◌∷◌, ◌++◌, length, take, drop, codes}
use Rattle.std.specs.Prelude.{Option, Some, None, unwrap_or, Result, Ok, Err}
use Rattle.std.specs.Int.{Width, w32, w64, int_bit_and, int_bit_or, int_bit_xor}
use Rattle.std.specs.List.{list_any, list_all, filter}
use Rattle.std.specs.Option.{option_or}
use Rattle.std.specs.Ordering.{is_lt, is_gt}
use Rattle.std_words.specs.Reasons.{first, when}
use Rattle.std_words.specs.Steps.{◌>>=◌}
use Rattle.bson_order.specs.Order.{compared, is_same}
use Rattle.bson_spelling.specs.Spelling.{key}
use Rattle.bson_values.specs.Names.{first_of}
use Rattle.bson_values.specs.Storable.{storable}
use Rattle.bson_values.specs.declared.pairs.Pair.{Pair}
use Rattle.bson_values.specs.declared.storing.Unstorable.{Unstorable}
use Rattle.bson_values.specs.declared.storing.Unstorable.TheVariants.{TooLarge}
use Rattle.bson_values.specs.declared.value.Value.{Value, out-Value}
use Rattle.bson_values.specs.declared.value.Value.TheOpen.{Value-F}
use Rattle.bson_values.specs.declared.value.Value.TheVariants as value
use Rattle.doc_paths.specs.Changes.{peeked, put_doc, taken}
use Rattle.doc_paths.specs.declared.refused.PutRefused.{PutRefused}
use Rattle.doc_paths.specs.declared.refused.PutRefused.TheVariants.{NotViable, TooFar, NoMemory}
use Rattle.filter_syntax.specs.Meaning.{Doc}
use Rattle.naming.specs.Ids.{can_be_id}
use Rattle.update_syntax.specs.Conflicts.{Parts}
use Rattle.update_syntax.specs.declared.update.BitKind.{BitKind}
use Rattle.update_syntax.specs.declared.update.BitKind.TheVariants as bit
use Rattle.update_syntax.specs.declared.update.Number.{Number}
use Rattle.update_syntax.specs.declared.update.Number.TheVariants.{Int, Long}
use Rattle.update_syntax.specs.declared.update.Step.{Step}
use Rattle.update_syntax.specs.declared.update.Step.TheVariants as step
use Rattle.update_syntax.specs.declared.update.Update.{Update}
use Rattle.update_syntax.specs.declared.update.Update.TheVariants.{Replace, Steps}

-- a document, or the kind of a refusal
abbrev pub Outcome : Type 0
Outcome = Result Doc ℕ

-- what stands at a path
abbrev pub at : Parts → Doc → Option Value
at path doc = peeked path (value.Doc doc)

abbrev pub put_kind : PutRefused → ℕ
put_kind NotViable = 21
put_kind TooFar = 4
put_kind NoMemory = 0

abbrev pub with_kind : Result Doc PutRefused → Outcome
with_kind (Ok doc) = Ok doc
with_kind (Err why) = Err (put_kind why)

-- `$set`, by which every other operator puts what it made
unfoldable pub set : Parts → Value → Doc → Outcome
set path it doc = with_kind (put_doc path it doc)

-- ---- numbers

abbrev pub as_value : Number → Value
as_value (Int number) = value.Int number
as_value (Long number) = value.Long number

-- a zero of its type
abbrev pub zero_of : Number → Value
zero_of (Int number) = value.Int (pos 0)
zero_of (Long number) = value.Long (pos 0)

-- a number of so many bits beside its sign
abbrev pub fits : ℕ → ℤ → Bool
fits bits (pos number) = nat_lt number (2 ^ bits)
fits bits (negsuc number) = nat_lt number (2 ^ bits)

abbrev pub as_long : ℤ → Result Value ℕ
as_long number = if fits 63 number then Ok (value.Long number) else Err 7

-- an int, where it fits
abbrev pub as_int : ℤ → Result Value ℕ
as_int number = if fits 31 number then Ok (value.Int number) else as_long number

-- of two ints an int, else a long
abbrev pub reckoned : (ℤ → ℤ → ℤ) → Number → Value-F Value → Result Value ℕ
reckoned by (Int number) (Value-F.Int it) = as_int (by it number)
reckoned by (Int number) (Value-F.Long it) = as_long (by it number)
reckoned by (Long number) (Value-F.Int it) = as_long (by it number)
reckoned by (Long number) (Value-F.Long it) = as_long (by it number)
reckoned by number layer = Err 18

-- what is made of what stands there, or of nothing
abbrev pub made_of : Value → (Value-F Value → Result Value ℕ) → Option Value → Result Value ℕ
made_of absent make None = Ok absent
made_of absent make (Some it) = make (out-Value it)

unfoldable pub inc : Parts → Number → Doc → Outcome
inc path number doc = made_of (as_value number) (reckoned (λ one other. one +ℤ other) number) (at path doc) >>= λ it. set path it doc

unfoldable pub mul : Parts → Number → Doc → Outcome
mul path number doc = made_of (zero_of number) (reckoned (λ one other. one *ℤ other) number) (at path doc) >>= λ it. set path it doc

abbrev pub combined : BitKind → Width → ℤ → ℤ → ℤ
combined bit.And width one other = int_bit_and width one other
combined bit.Or width one other = int_bit_or width one other
combined bit.Xor width one other = int_bit_xor width one other

-- of two ints an int, else a long
abbrev pub bits_of : BitKind → Number → Value-F Value → Result Value ℕ
bits_of kind (Int number) (Value-F.Int it) = Ok (value.Int (combined kind w32 it number))
bits_of kind (Int number) (Value-F.Long it) = Ok (value.Long (combined kind w64 it number))
bits_of kind (Long number) (Value-F.Int it) = Ok (value.Long (combined kind w64 it number))
bits_of kind (Long number) (Value-F.Long it) = Ok (value.Long (combined kind w64 it number))
bits_of kind number layer = Err 10

-- what is absent counts as a zero
unfoldable pub bits : Parts → BitKind → Number → Doc → Outcome
bits path kind number doc = bits_of kind number (out-Value (unwrap_or (at path doc) (zero_of number))) >>= λ it. set path it doc

-- ---- order

-- nothing stands there, or what comes behind it, or before it
abbrev pub is_lower : Value → Option Value → Bool
is_lower it None = true
is_lower it (Some there) = is_lt (compared it there)

abbrev pub is_higher : Value → Option Value → Bool
is_higher it None = true
is_higher it (Some there) = is_gt (compared it there)

unfoldable pub least : Parts → Value → Doc → Outcome
least path it doc = if is_lower it (at path doc) then set path it doc else Ok doc

unfoldable pub greatest : Parts → Value → Doc → Outcome
greatest path it doc = if is_higher it (at path doc) then set path it doc else Ok doc

-- ---- arrays

-- an array with what is made of its items
abbrev pub array_in : (List Value → List Value) → Value-F Value → Result Value ℕ
array_in change (Value-F.Arr items) = Ok (value.Arr (change items))
array_in change layer = Err 10

-- where nothing stands, an array is made
abbrev pub grown : (List Value → List Value) → Parts → Doc → Outcome
grown change path doc = made_of (value.Arr (change [])) (array_in change) (at path doc) >>= λ it. set path it doc

-- where nothing stands, nothing is done
abbrev pub shrunk_at : (List Value → List Value) → Parts → Doc → Option Value → Outcome
shrunk_at change path doc None = Ok doc
shrunk_at change path doc (Some it) = array_in change (out-Value it) >>= λ it. set path it doc

abbrev pub shrunk : (List Value → List Value) → Parts → Doc → Outcome
shrunk change path doc = shrunk_at change path doc (at path doc)

-- one of the values is the same
abbrev pub stands_in : List Value → Value → Bool
stands_in values it = list_any (λ one. is_same one it) values

-- each that is the same as no item so far goes last
abbrev pub with_each : List Value → List Value → List Value
with_each items [] = items
with_each items (it ∷ more) = with_each (if stands_in items it then items else items ++ it ∷ []) more

unfoldable pub push : Parts → List Value → Doc → Outcome
push path more doc = grown (λ items. items ++ more) path doc

unfoldable pub add_to_set : Parts → List Value → Doc → Outcome
add_to_set path more doc = grown (λ items. with_each items more) path doc

abbrev pub without_end : Bool → List Value → List Value
without_end last items = if last then take (length items - 1) items else drop 1 items

unfoldable pub pop : Parts → Bool → Doc → Outcome
pop path last doc = shrunk (without_end last) path doc

-- the field is there, with the same value
abbrev pub is_the_same : Value → Option Value → Bool
is_the_same it None = false
is_the_same it (Some there) = is_same there it

abbrev pub has_field : Doc → Pair Value → Bool
has_field doc pair = is_the_same pair.value (first_of pair.name doc)

-- a document that has each of the fields
abbrev pub has_fields : Doc → Value-F Value → Bool
has_fields fields (Value-F.Doc doc) = list_all (has_field doc) fields
has_fields fields layer = false

-- an item that `$pull` takes out: the same, or for a document one with its fields
abbrev pub is_pulled : Value → Value-F Value → Value → Bool
is_pulled it (Value-F.Doc fields) item = is_same item it || has_fields fields (out-Value item)
is_pulled it layer item = is_same item it

unfoldable pub without : Value → List Value → List Value
without it items = filter (λ item. not (is_pulled it (out-Value it) item)) items

unfoldable pub without_any : List Value → List Value → List Value
without_any values items = filter (λ item. not (stands_in values item)) items

unfoldable pub pull : Parts → Value → Doc → Outcome
pull path it doc = shrunk (without it) path doc

unfoldable pub pull_all : Parts → List Value → Doc → Outcome
pull_all path values doc = shrunk (without_any values) path doc

-- ---- fields

-- an array stands at a beginning of a path, which is not all of it
abbrev pub crossed_in : List ℕ → (Option Value → Bool) → Value-F Value → Bool
crossed_in part go (Value-F.Doc pairs) = go (first_of part pairs)
crossed_in part go (Value-F.Arr items) = true
crossed_in part go layer = false

abbrev pub crossed : Parts → Option Value → Bool
crossed [] it = false
crossed (part ∷ rest) None = false
crossed (part ∷ rest) (Some it) = crossed_in part (crossed rest) (out-Value it)

abbrev pub crosses : Parts → Doc → Bool
crosses path doc = crossed path (Some (value.Doc doc))

abbrev pub renamed : Parts → Parts → Doc → Option Value → Outcome
renamed from to doc None = Ok doc
renamed from to doc (Some it) = if crosses from doc || crosses to doc then Err 10 else set to it (taken from doc)

unfoldable pub rename : Parts → Parts → Doc → Outcome
rename from to doc = renamed from to doc (at from doc)

-- the date of a moment, or its timestamp: seconds in the high four bytes, and 1
abbrev pub moment_value : Bool → ℕ → Value
moment_value date now =
    if date then value.Date (pos (min now (2 ^ 63 - 1))) else value.Stamp (now / 1000 % 2 ^ 32 * 2 ^ 32 + 1)

-- ---- steps

abbrev pub stepped : ℕ → Bool → Step → Doc → Outcome
stepped now inserting (step.Set path it) doc = set path it doc
stepped now inserting (step.SetOnInsert path it) doc = if inserting then set path it doc else Ok doc
stepped now inserting (step.Unset path) doc = Ok (taken path doc)
stepped now inserting (step.Inc path number) doc = inc path number doc
stepped now inserting (step.Mul path number) doc = mul path number doc
stepped now inserting (step.Min path it) doc = least path it doc
stepped now inserting (step.Max path it) doc = greatest path it doc
stepped now inserting (step.Rename from to) doc = rename from to doc
stepped now inserting (step.Push path items) doc = push path items doc
stepped now inserting (step.AddToSet path items) doc = add_to_set path items doc
stepped now inserting (step.Pop path last) doc = pop path last doc
stepped now inserting (step.Pull path it) doc = pull path it doc
stepped now inserting (step.PullAll path items) doc = pull_all path items doc
stepped now inserting (step.CurrentDate path date) doc = set path (moment_value date now) doc
stepped now inserting (step.Bit path kind number) doc = bits path kind number doc

-- one after another
abbrev pub all_stepped : ℕ → Bool → List Step → Doc → Outcome
all_stepped now inserting [] doc = Ok doc
all_stepped now inserting (one ∷ steps) doc = stepped now inserting one doc >>= all_stepped now inserting steps

-- ---- `_id`

abbrev pub id_of : Doc → Option Value
id_of doc = first_of (codes "_id") doc

-- where there was one, there is one that is the same
abbrev pub keeps_id : Option Value → Option Value → Bool
keeps_id None id = true
keeps_id (Some old) None = false
keeps_id (Some old) (Some id) = is_same id old

-- where none is named, the old one stays
abbrev pub may_name : Option Value → Option Value → Bool
may_name old None = true
may_name old (Some id) = keeps_id old (Some id)

-- the `_id` first, and no longer where it stood
abbrev pub with_id : Option Value → Doc → Doc
with_id None doc = doc
with_id (Some id) doc = record { name = codes "_id"; value = id } ∷ taken (codes "_id" ∷ []) doc

-- the old `_id` stays; where there is none, the one that is named goes first
unfoldable pub replaced : Doc → Doc → Outcome
replaced new doc = if may_name (id_of doc) (id_of new) then Ok (with_id (option_or (id_of doc) (id_of new)) new) else Err 26

abbrev pub made : Update → ℕ → Bool → Doc → Outcome
made (Replace new) now inserting doc = replaced new doc
made (Steps steps) now inserting doc = all_stepped now inserting steps doc

-- ---- results that are refused

-- the most bytes of the key of an `_id` that an update puts
abbrev pub MOST_KEY : ℕ
MOST_KEY = 16384

-- 5 is a value that no `_id` has, 30 one too long
abbrev pub bad_id : Option Value → Option ℕ
bad_id None = None
bad_id (Some id) = first (when (not (can_be_id (out-Value id))) 5 ∷ when (nat_lt MOST_KEY (length (key id))) 30 ∷ [])

abbrev pub changed_id : Doc → Doc → Option ℕ
changed_id old new = when (not (keeps_id (id_of old) (id_of new))) 26

-- 30 is too large, 6 what cannot be stored else
abbrev pub storing_kind : Unstorable → ℕ
storing_kind TooLarge = 30
storing_kind why = 6

abbrev pub not_stored : Result (Unit {0}) Unstorable → Option ℕ
not_stored (Ok done) = None
not_stored (Err why) = Some (storing_kind why)

-- what is inserted gets an `_id` first, and is stored then
unfoldable pub refused : Bool → Doc → Doc → Option ℕ
refused inserting old new =
    if inserting then option_or (bad_id (id_of new)) (changed_id old new)
    else option_or (changed_id old new) (not_stored (storable new))

abbrev pub unless : Option ℕ → Doc → Outcome
unless None doc = Ok doc
unless (Some kind) doc = Err kind

-- the document after the update at a moment; `inserting` one that the update makes, from no other or from a filter's equalities
abbrev pub after : Update → Doc → ℕ → Bool → Outcome
after update doc now inserting = made update now inserting doc >>= λ new. unless (refused inserting doc new) new
