-- What stands at a path, and documents with another value there, or with none: MongoDB Manual, "Dot Notation" and "Update Operators".
-- A walk goes through fields of documents, and through items of arrays by their places.
use Rattle.std.specs.Prelude.{ℕ, ◌-◌, ◌&&◌, ◌||◌, not, nat_lt, if◌then◌else◌, List, [], ◌∷◌, ◌++◌, length, replicate, slice_get, slice_set}
use Rattle.std.specs.Prelude.{Option, Some, None, unwrap_or, Result, Ok, Err}
use Rattle.std.specs.Str.{bytes_eq}
use Rattle.std.specs.Str.Parse.{digits_value}
use Rattle.std_words.specs.Steps.{◌>>=◌}
use Rattle.bson_values.specs.Names.{first_of}
use Rattle.bson_values.specs.declared.pairs.Pair.{Pair}
use Rattle.bson_values.specs.declared.value.Value.{Value, out-Value}
use Rattle.bson_values.specs.declared.value.Value.TheOpen.{Value-F}
use Rattle.bson_values.specs.declared.value.Value.TheVariants as value
use Rattle.doc_paths.specs.Reach.{is_index, item_at}
use Rattle.doc_paths.specs.declared.refused.PutRefused.{PutRefused}
use Rattle.doc_paths.specs.declared.refused.PutRefused.TheVariants.{NotViable, TooFar}

-- ---- what stands there

-- what stands behind a value, where there is one
abbrev pub behind : (Value → Option Value) → Option Value → Option Value
behind go None = None
behind go (Some it) = go it

abbrev pub peeked_in : List ℕ → (Value → Option Value) → Value-F Value → Option Value
peeked_in part go (Value-F.Doc pairs) = behind go (first_of part pairs)
peeked_in part go (Value-F.Arr items) = behind go (item_at part items)
peeked_in part go layer = None

abbrev pub peeked : List (List ℕ) → Value → Option Value
peeked [] it = Some it
peeked (part ∷ rest) it = peeked_in part (peeked rest) (out-Value it)

-- ---- another value there

-- the first pair of a name with another value, or a pair behind all others
abbrev pub with_field : List ℕ → Value → List (Pair Value) → List (Pair Value)
with_field name it [] = record { name = name; value = it } ∷ []
with_field name it (pair ∷ pairs) =
    if bytes_eq pair.name name then record { name = pair.name; value = it } ∷ pairs
    else pair ∷ with_field name it pairs

-- another item at a place, behind nulls where the place is absent
abbrev pub with_item : ℕ → Value → List Value → List Value
with_item place it items =
    if nat_lt place (length items) then slice_set items place it
    else items ++ (replicate (place - length items) value.Null ++ it ∷ [])

-- the most items of an array to which a path adds items
abbrev pub MOST_ITEMS : ℕ
MOST_ITEMS = 65536

-- the place of an item that is there, or that may be made
abbrev pub place_in : List ℕ → List Value → Result ℕ PutRefused
place_in part items =
    if not (is_index part) then Err NotViable
    else if nat_lt (digits_value 10 part) (length items) || nat_lt (digits_value 10 part) MOST_ITEMS then Ok (digits_value 10 part)
    else Err TooFar

-- a document with what `go` makes of the value at a part
abbrev pub put_field : List ℕ → (Option Value → Result Value PutRefused) → List (Pair Value) → Result (List (Pair Value)) PutRefused
put_field part go pairs = go (first_of part pairs) >>= λ it. Ok (with_field part it pairs)

-- an array with what `go` makes of the item at a part
abbrev pub put_item : List ℕ → (Option Value → Result Value PutRefused) → List Value → Result (List Value) PutRefused
put_item part go items = place_in part items >>= λ place. go (slice_get items place) >>= λ it. Ok (with_item place it items)

-- a value with what `go` makes of the value at a part
abbrev pub put_in : List ℕ → (Option Value → Result Value PutRefused) → Value-F Value → Result Value PutRefused
put_in part go (Value-F.Doc pairs) = put_field part go pairs >>= λ pairs. Ok (value.Doc pairs)
put_in part go (Value-F.Arr items) = put_item part go items >>= λ items. Ok (value.Arr items)
put_in part go layer = Err NotViable

-- what stands at a place once a value is put at a path below it; what is absent becomes documents
abbrev pub put_below : List (List ℕ) → Value → Option Value → Result Value PutRefused
put_below [] new it = Ok new
put_below (part ∷ rest) new None = put_in part (put_below rest new) (Value-F.Doc [])
put_below (part ∷ rest) new (Some it) = put_in part (put_below rest new) (out-Value it)

-- a document with a value at a path
abbrev pub put_doc : List (List ℕ) → Value → List (Pair Value) → Result (List (Pair Value)) PutRefused
put_doc [] new pairs = Ok pairs
put_doc (part ∷ rest) new pairs = put_field part (put_below rest new) pairs

-- ---- none there

-- what is left of a pair of that name once there is left this of its value
abbrev pub left_field : List ℕ → Option Value → List (Pair Value) → List (Pair Value)
left_field name None pairs = pairs
left_field name (Some it) pairs = record { name = name; value = it } ∷ pairs

-- the pairs once `go` says what is left of the first one of a name
abbrev pub left_fields : List ℕ → (Value → Option Value) → List (Pair Value) → List (Pair Value)
left_fields name go [] = []
left_fields name go (pair ∷ pairs) =
    if bytes_eq pair.name name then left_field pair.name (go pair.value) pairs
    else pair ∷ left_fields name go pairs

-- the place of an item that is there
abbrev pub place_there : List ℕ → List Value → Option ℕ
place_there part items =
    if is_index part && nat_lt (digits_value 10 part) (length items) then Some (digits_value 10 part) else None

-- the items once `go` says what is left of the one at a place; null stands for none
abbrev pub left_at : (Value → Option Value) → Option Value → ℕ → List Value → List Value
left_at go None place items = items
left_at go (Some it) place items = slice_set items place (unwrap_or (go it) value.Null)

abbrev pub left_items : (Value → Option Value) → Option ℕ → List Value → List Value
left_items go None items = items
left_items go (Some place) items = left_at go (slice_get items place) place items

-- what is left of a value, by its layer
abbrev pub left_in : List ℕ → (Value → Option Value) → Value → Value-F Value → Value
left_in part go it (Value-F.Doc pairs) = value.Doc (left_fields part go pairs)
left_in part go it (Value-F.Arr items) = value.Arr (left_items go (place_there part items) items)
left_in part go it layer = it

-- what is left of a value once what stands at a path below it is taken: none where it is that value itself
abbrev pub left : List (List ℕ) → Value → Option Value
left [] it = None
left (part ∷ rest) it = Some (left_in part (left rest) it (out-Value it))

-- a document without what stands at a path
abbrev pub taken : List (List ℕ) → List (Pair Value) → List (Pair Value)
taken [] pairs = pairs
taken (part ∷ rest) pairs = left_fields part (left rest) pairs
