-- What stands at the front of some bytes, read from the left, or the place of the first fault there.
-- `place` is the place that a fault of what is read has; `end` is the place where the bytes end.
-- proofs/Documents.antt ties it to the grammar.
use Rattle.std.specs.Prelude.{ℕ, zero, suc, ◌≡◌, ◌<◌, ◌+◌, ◌-◌, ◌==◌, ◌||◌, nat_lt, true, false, if◌then◌else◌, List, [], ◌∷◌, length, take}
use Rattle.std.specs.Prelude.{drop, slice_index, Bool, Option, None, Some, Result, Ok, Err}
use Rattle.std.specs.Int.{w32, w64, cast_signed}
use Rattle.std.specs.List.{position}
use Rattle.std.specs.Str.{is_utf8}
use Rattle.std_words.specs.Steps.{◌>>=◌, fault_of}
use Rattle.byteorder.specs.Endian.{little_number}
use Rattle.bson_values.specs.declared.pairs.Pair.{Pair}
use Rattle.bson_values.specs.declared.value.Value.{Value}
use Rattle.bson_values.specs.declared.value.Value.TheVariants as value
use Rattle.bson_wire.specs.declared.foreign.Foreign.{Foreign}
use Rattle.bson_wire.specs.declared.refused.ReadRefused.{ReadRefused}
use Rattle.bson_wire.specs.declared.refused.ReadRefused.TheVariants.{Malformed, NoMemory}
use Rattle.bson_wire.specs.Grammar.{MOST_NESTED, Element, kept, foreigns, values}

-- the fault is at that place, unless memory ran out
abbrev pub Fails : {Y : Type 0} → ReadRefused → Result Y ℕ → Type 0
Fails NoMemory found = Unit {0}
Fails (Malformed place) found = found ≡ Err place

-- what was read, seen by `view`, is what stands there
abbrev pub Gives : {X Y : Type 0} → (X → Y) → Result X ReadRefused → Result Y ℕ → Type 0
Gives view (Ok value) found = found ≡ Ok (view value)
Gives view (Err refused) found = Fails refused found

-- four bytes as a number, and the bytes after them
unfoldable pub number_at : ℕ → List ℕ → Result (ℕ × List ℕ) ℕ
number_at place bytes = if nat_lt (length bytes) 4 then Err place else Ok (little_number 4 bytes, drop 4 bytes)

-- eight bytes as a number, and the bytes after them
unfoldable pub long_at : ℕ → List ℕ → Result (ℕ × List ℕ) ℕ
long_at place bytes = if nat_lt (length bytes) 8 then Err place else Ok (little_number 8 bytes, drop 8 bytes)

-- an int32 that is no less than `least`, and the bytes after it
unfoldable pub length_at : ℕ → ℕ → List ℕ → Result (ℕ × List ℕ) ℕ
length_at place least bytes = number_at place bytes >>= λ n. if nat_lt n.0 least || nat_lt 2147483647 n.0 then Err place else Ok n

-- the first `len` bytes, and the bytes after them
unfoldable pub part_at : ℕ → ℕ → List ℕ → Result (List ℕ × List ℕ) ℕ
part_at place len bytes = if nat_lt (length bytes) len then Err place else Ok (take len bytes, drop len bytes)

-- bytes that end with a 00 byte, without it
unfoldable pub ended_at : ℕ → List ℕ → Result (List ℕ) ℕ
ended_at place bytes = if slice_index bytes (length bytes - 1) == 0 then Ok (take (length bytes - 1) bytes) else Err place

-- bytes that are UTF-8
unfoldable pub text_of : ℕ → List ℕ → Result (List ℕ) ℕ
text_of place bytes = if is_utf8 bytes then Ok bytes else Err place

-- how many bytes stand before the first 00 byte
unfoldable pub nul_at : ℕ → Option ℕ → Result ℕ ℕ
nul_at place None = Err place
nul_at place (Some len) = Ok len

-- UTF-8 before the first 00 byte, and the bytes after that
unfoldable pub name_at : ℕ → List ℕ → Result (List ℕ × List ℕ) ℕ
name_at place bytes =
    nul_at place (position (λ byte. byte == 0) bytes) >>= λ len.
    text_of place (take len bytes) >>= λ name. Ok (name, drop (len + 1) bytes)

-- a length, as many bytes that end with 00, and UTF-8 in them
unfoldable pub text_at : ℕ → List ℕ → Result (List ℕ × List ℕ) ℕ
text_at place bytes =
    length_at place 1 bytes >>= λ n.
    part_at place n.0 n.1 >>= λ part.
    ended_at place part.0 >>= λ content.
    text_of place content >>= λ text. Ok (text, part.1)

-- the same as a value
unfoldable pub string_at : ℕ → List ℕ → Result (Value × List ℕ) ℕ
string_at place bytes = text_at place bytes >>= λ text. Ok (value.Str text.0, text.1)

-- a length, a byte, and as many bytes
unfoldable pub binary_at : ℕ → List ℕ → Result (Value × List ℕ) ℕ
binary_at place bytes =
    length_at place 0 bytes >>= λ n.
    part_at place (n.0 + 1) n.1 >>= λ part.
    Ok (value.Bin (record { subtype = slice_index part.0 0; bytes = drop 1 part.0 }), part.1)

-- twelve bytes
unfoldable pub id_at : ℕ → List ℕ → Result (Value × List ℕ) ℕ
id_at place bytes = part_at place 12 bytes >>= λ part. Ok (value.Id part.0, part.1)

-- one byte, 00 or 01
unfoldable pub bool_at : ℕ → List ℕ → Result (Value × List ℕ) ℕ
bool_at place bytes =
    part_at place 1 bytes >>= λ part.
    if slice_index part.0 0 == 0 then Ok (value.Bool false, part.1)
    else if slice_index part.0 0 == 1 then Ok (value.Bool true, part.1)
    else Err place

-- two names
unfoldable pub regex_at : ℕ → List ℕ → Result (Value × List ℕ) ℕ
regex_at place bytes =
    name_at place bytes >>= λ pattern.
    name_at place pattern.1 >>= λ options.
    Ok (value.Regex (record { pattern = pattern.0; options = options.0 }), options.1)

-- an int32
abbrev pub int_at : ℕ → List ℕ → Result (Value × List ℕ) ℕ
int_at place bytes = number_at place bytes >>= λ n. Ok (value.Int (cast_signed w32 n.0), n.1)

-- an int64, as a moment
abbrev pub date_at : ℕ → List ℕ → Result (Value × List ℕ) ℕ
date_at place bytes = long_at place bytes >>= λ n. Ok (value.Date (cast_signed w64 n.0), n.1)

-- a uint64
abbrev pub stamp_at : ℕ → List ℕ → Result (Value × List ℕ) ℕ
stamp_at place bytes = long_at place bytes >>= λ n. Ok (value.Stamp n.0, n.1)

-- an int64
abbrev pub int64_at : ℕ → List ℕ → Result (Value × List ℕ) ℕ
int64_at place bytes = long_at place bytes >>= λ n. Ok (value.Long (cast_signed w64 n.0), n.1)

-- the value of a type that holds no values
unfoldable pub scalar_at : ℕ → ℕ → List ℕ → Result (Value × List ℕ) ℕ
scalar_at place code bytes =
    if code == 2 then string_at place bytes
    else if code == 5 then binary_at place bytes
    else if code == 7 then id_at place bytes
    else if code == 8 then bool_at place bytes
    else if code == 9 then date_at place bytes
    else if code == 10 then Ok (value.Null, bytes)
    else if code == 11 then regex_at place bytes
    else if code == 16 then int_at place bytes
    else if code == 17 then stamp_at place bytes
    else if code == 18 then int64_at place bytes
    else Err place

-- the type bytes of the foreign types
unfoldable pub is_foreign : ℕ → Bool
is_foreign code = code == 1 || code == 6 || code == 12 || code == 13 || code == 14 || code == 15 || code == 19 || code == 127 || code == 255

-- the bytes after the first `len`
unfoldable pub past_at : ℕ → ℕ → List ℕ → Result (List ℕ) ℕ
past_at place len bytes = part_at place len bytes >>= λ part. Ok part.1

-- the bytes after a string
unfoldable pub past_text_at : ℕ → List ℕ → Result (List ℕ) ℕ
past_text_at place bytes = text_at place bytes >>= λ text. Ok text.1

-- the bytes after a length that counts itself, at least 14, and as many bytes
unfoldable pub past_scoped_at : ℕ → List ℕ → Result (List ℕ) ℕ
past_scoped_at place bytes = length_at place 14 bytes >>= λ n. past_at place (n.0 - 4) n.1

-- the bytes after a value of a foreign type
unfoldable pub foreign_at : ℕ → ℕ → List ℕ → Result (List ℕ) ℕ
foreign_at place code bytes =
    if code == 1 then past_at place 8 bytes
    else if code == 6 then Ok bytes
    else if code == 12 then past_text_at place bytes >>= (λ rest. past_at place 12 rest)
    else if code == 13 then past_text_at place bytes
    else if code == 14 then past_text_at place bytes
    else if code == 15 then past_scoped_at place bytes
    else if code == 19 then past_at place 16 bytes
    else if code == 127 then Ok bytes
    else if code == 255 then Ok bytes
    else Err place

module _ (document : ℕ → List ℕ → Result (List (Pair Value) × List Foreign × List ℕ) ℕ) (array : ℕ → List ℕ
    → Result (List Value × List Foreign × List ℕ) ℕ) where
  -- by the type byte a document, an array, a foreign value, which is passed over, or a value that holds none
  unfoldable pub value_at : ℕ → ℕ → ℕ → List ℕ → Result (Option Value × List Foreign × List ℕ) ℕ
  value_at end place code bytes =
      if code == 3 then document end bytes >>= (λ doc. Ok (Some (value.Doc doc.0), doc.1, doc.2))
      else if code == 4 then array end bytes >>= (λ items. Ok (Some (value.Arr items.0), items.1, items.2))
      else if is_foreign code then foreign_at place code bytes >>= (λ rest. Ok (None, record { code = code; place = place } ∷ [], rest))
      else scalar_at place code bytes >>= λ it. Ok (Some it.0, [], it.1)

  -- the name and the value behind a type byte, where a fault is at the type byte
  unfoldable pub element_at : ℕ → ℕ → List ℕ → Result (Element × List ℕ) ℕ
  element_at end code bytes =
      name_at (end - (length bytes + 1)) bytes >>= λ name.
      value_at end (end - (length bytes + 1)) code name.1 >>= λ v. Ok (record { name = name.0; value = v.0; foreign = v.1 }, v.2)

  -- the elements that fill the bytes; `most` bounds how many
  unfoldable pub elements_at : ℕ → ℕ → List ℕ → Result (List Element) ℕ
  elements_at zero end bytes = Err end
  elements_at (suc most) end [] = Ok []
  elements_at (suc most) end (code ∷ bytes) =
      element_at end code bytes >>= λ first.
      elements_at most end first.1 >>= λ others. Ok (first.0 ∷ others)

  -- all of them
  abbrev pub all_at : ℕ → List ℕ → Result (List Element) ℕ
  all_at end bytes = elements_at (length bytes + 1) end bytes

  -- a length, elements within it, and a 00 byte; a fault of the length or of that byte is at the length
  unfoldable pub enclosed_at : ℕ → List ℕ → Result (List Element × List ℕ) ℕ
  enclosed_at end bytes =
      length_at (end - length bytes) 5 bytes >>= λ n.
      part_at (end - length bytes) (n.0 - 4) n.1 >>= λ part.
      all_at (end - (length part.1 + 1)) (take (length part.0 - 1) part.0) >>= λ found.
      ended_at (end - length bytes) part.0 >>= λ inside. Ok (found, part.1)

-- a document, and an array, with at most so many levels of containers, and the foreign elements in it
unfoldable mutual
  pub document_at : ℕ → ℕ → List ℕ → Result (List (Pair Value) × List Foreign × List ℕ) ℕ
  document_at zero end bytes = Err (end - length bytes)
  document_at (suc levels) end bytes =
      enclosed_at (document_at levels) (array_at levels) end bytes >>= λ found.
      Ok (kept found.0, foreigns found.0, found.1)

  pub array_at : ℕ → ℕ → List ℕ → Result (List Value × List Foreign × List ℕ) ℕ
  array_at zero end bytes = Err (end - length bytes)
  array_at (suc levels) end bytes =
      enclosed_at (document_at levels) (array_at levels) end bytes >>= λ found.
      Ok (values (kept found.0), foreigns found.0, found.1)

-- the first of some foreign elements
abbrev pub first : List Foreign → Option Foreign
first [] = None
first (it ∷ more) = Some it

-- if there is one, it stands before that place
abbrev pub Before : ℕ → Option Foreign → Type 0
Before end None = Unit {0}
Before end (Some it) = it.place < end

-- what was read, with the first of its foreign elements alone
abbrev pub with_first : {A : Type 0} → Result (A × List Foreign × List ℕ) ℕ → Result (A × Option Foreign × List ℕ) ℕ
with_first found = found >>= λ it. Ok (it.0, first it.1, it.2)

-- the same of an element
abbrev pub element_told : Result (Element × List ℕ) ℕ → Result (List ℕ × Option Value × Option Foreign × List ℕ) ℕ
element_told found = found >>= λ it. Ok (it.0.name, it.0.value, first it.0.foreign, it.1)

-- the same of the elements of a document
abbrev pub pairs_told : Result (List Element) ℕ → Result (List (Pair Value) × Option Foreign) ℕ
pairs_told found = found >>= λ it. Ok (kept it, first (foreigns it))

-- the same of the elements of an array
abbrev pub items_told : Result (List Element) ℕ → Result (List Value × Option Foreign) ℕ
items_told found = found >>= λ it. Ok (values (kept it), first (foreigns it))

-- the place of the first fault of what should be a document at the front; none where one is there
abbrev pub fault : List ℕ → Option ℕ
fault bytes = fault_of (document_at MOST_NESTED (length bytes) bytes)

-- malformed bytes are told by that place
abbrev pub Tells : ReadRefused → List ℕ → Type 0
Tells NoMemory bytes = Unit {0}
Tells (Malformed place) bytes = fault bytes ≡ Some place
