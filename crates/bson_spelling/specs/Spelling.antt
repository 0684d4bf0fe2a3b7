-- The bytes of values in two forms: as BSON 1.1 (bsonspec.org) has them, in its twelve supported types, and as a key has them.
use Rattle.std.specs.Prelude.{ℕ, ℤ, ◌+◌, ◌-◌, ◌^◌, min, Bool, if◌then◌else◌, List, [], ◌∷◌, ◌++◌, length}
use Rattle.std.specs.Fmt.{decimal}
use Rattle.std.specs.Int.{w32, w64, cast_unsigned}
use Rattle.std.specs.List.{flat_map}
use Rattle.byteorder.specs.Endian.{little_bytes}
use Rattle.bson_values.specs.declared.pairs.Pair.{Pair}
use Rattle.bson_values.specs.declared.value.Value.{Value}
use Rattle.bson_values.specs.declared.value.Value.TheOpen.{Value-F}
use Rattle.bson_values.specs.declared.value.Value.TheFolds.{fold-Value}
use Rattle.bson_spelling.specs.declared.form.Form.{Form}
use Rattle.bson_spelling.specs.declared.form.Form.TheVariants.{Bson, Key}

-- four bytes, the lowest first
abbrev pub int32 : ℕ → List ℕ
int32 number = little_bytes 4 number

-- eight bytes, the lowest first
abbrev pub int64 : ℕ → List ℕ
int64 number = little_bytes 8 number

-- the type byte and the bytes of a long
abbrev pub long : ℤ → ℕ × List ℕ
long number = (18, int64 (cast_unsigned w64 number))

-- of an int, which a key has as a long
abbrev pub int : Form → ℤ → ℕ × List ℕ
int Bson number = (16, int32 (cast_unsigned w32 number))
int Key number = long number

-- how many bytes a length takes
abbrev pub width : Form → ℕ
width Bson = 4
width Key = 8

-- a length, in a key at most the highest int64
abbrev pub counted : Form → ℕ → List ℕ
counted Bson len = int32 len
counted Key len = int64 (min len (2 ^ 63 - 1))

-- a text that a 00 byte ends
abbrev pub cstring : List ℕ → List ℕ
cstring text = text ++ 0 ∷ []

-- the length of the text with its 00 byte, then the two
abbrev pub string : Form → List ℕ → List ℕ
string form text = counted form (length text + 1) ++ cstring text

-- a length that counts all, itself too, what is inside, and a 00 byte
abbrev pub enclosed : Form → List ℕ → List ℕ
enclosed form inside = counted form (length inside + (width form + 1)) ++ inside ++ 0 ∷ []

-- a length, a byte that says what kind of data it is, and as many bytes
abbrev pub binary : Form → ℕ → List ℕ → List ℕ
binary form subtype bytes = counted form (length bytes) ++ subtype ∷ bytes

-- one byte, 01 or 00
abbrev pub bool : Bool → List ℕ
bool truth = (if truth then 1 else 0) ∷ []

-- an element of that name: the type byte, the name, and what is behind them
abbrev pub element_of : List ℕ → ℕ × List ℕ → List ℕ
element_of name held = held.0 ∷ cstring name ++ held.1

-- elements whose names are the decimal numbers from `place` on
abbrev pub items_from : ℕ → List (ℕ × List ℕ) → List ℕ
items_from place [] = []
items_from place (held ∷ more) = element_of (decimal place) held ++ items_from (place + 1) more

-- the type byte of a value and the bytes behind its name, made of those of the values in it
abbrev pub held_in : Form → Value-F (ℕ × List ℕ) → ℕ × List ℕ
held_in form (Value-F.Str text) = (2, string form text)
held_in form (Value-F.Doc pairs) =
    (3, enclosed form (flat_map (λ (pair : Pair (ℕ × List ℕ)). element_of pair.name pair.value) pairs))
held_in form (Value-F.Arr items) = (4, enclosed form (items_from 0 items))
held_in form (Value-F.Bin it) = (5, binary form it.subtype it.bytes)
held_in form (Value-F.Id id) = (7, id)
held_in form (Value-F.Bool truth) = (8, bool truth)
held_in form (Value-F.Date moment) = (9, int64 (cast_unsigned w64 moment))
held_in form Value-F.Null = (10, [])
held_in form (Value-F.Regex regex) = (11, cstring regex.pattern ++ cstring regex.options)
held_in form (Value-F.Int number) = int form number
held_in form (Value-F.Stamp stamp) = (17, int64 stamp)
held_in form (Value-F.Long number) = long number

-- the type byte of a value, and the bytes behind its name
abbrev pub held : Form → Value → ℕ × List ℕ
held form = fold-Value (ℕ × List ℕ) (held_in form)

-- one element of a document
abbrev pub element : Form → Pair Value → List ℕ
element form pair = element_of pair.name (held form pair.value)

-- the one spelling of a document in BSON
abbrev pub spell : List (Pair Value) → List ℕ
spell pairs = enclosed Bson (flat_map (element Bson) pairs)

-- the bytes by which a value is told apart
abbrev pub key : Value → List ℕ
key it = (held Key it).0 ∷ (held Key it).1
