-- Which bytes spell which document, and which elements in them are foreign: BSON 1.1, whose other types are known and left out.
use Rattle.std.specs.Prelude.{ℕ, ℤ, zero, suc, ◌≡◌, ◌≢◌, ◌+◌, ◌<◌, ◌≤◌, ◌^◌, ◌⊎◌, Option, None, Some, List, [], ◌∷◌, ◌++◌, length, map, All}
use Rattle.std.specs.Prelude.{FitsSigned}
use Rattle.std.specs.Int.{w32, w64, cast_unsigned}
use Rattle.std.specs.List.{flat_map}
use Rattle.std.specs.Str.{IsUtf8}
use Rattle.bson_values.specs.declared.pairs.Pair.{Pair}
use Rattle.bson_values.specs.declared.value.Binary.{Binary}
use Rattle.bson_values.specs.declared.value.Regex.{Regex}
use Rattle.bson_values.specs.declared.value.Value.{Value, out-Value}
use Rattle.bson_values.specs.declared.value.Value.TheOpen.{Value-F}
use Rattle.bson_wire.specs.declared.foreign.Foreign.{Foreign}
use Rattle.bson_spelling.specs.declared.form.Form.TheVariants.{Bson}
use Rattle.bson_spelling.specs.Spelling.{int32, int64, cstring, string, bool, binary}

-- documents and arrays may stand in one another so deep
abbrev pub MOST_NESTED : ℕ
MOST_NESTED = 128

-- an int32 says lengths below it
abbrev pub LENGTH_LIMIT : ℕ
LENGTH_LIMIT = 2 ^ 31

-- UTF-8 with no U+0000
pub record IsName (name : List ℕ) : Type 0 where
  pub utf8 : IsUtf8 name
  pub no_nul : All (λ byte. byte ≢ 0) name

-- UTF-8 behind a positive int32, which counts its 00 byte too
pub record IsString (bytes text : List ℕ) : Type 0 where
  pub utf8 : IsUtf8 text
  pub small : length text + 1 < LENGTH_LIMIT
  pub whole : bytes ≡ string Bson text

-- an int32 that is not negative, a byte, and as many bytes as the int32 says
pub record IsBinary (bytes : List ℕ) (it : Binary) : Type 0 where
  pub small : length it.bytes < LENGTH_LIMIT
  pub whole : bytes ≡ binary Bson it.subtype it.bytes

-- two names, each ended by a 00 byte
pub record IsRegex (bytes : List ℕ) (regex : Regex) : Type 0 where
  pub pattern : IsName regex.pattern
  pub options : IsName regex.options
  pub whole : bytes ≡ cstring regex.pattern ++ cstring regex.options

-- the bytes of an int32
pub record IsInt (bytes : List ℕ) (number : ℤ) : Type 0 where
  pub fits : FitsSigned w32 number
  pub whole : bytes ≡ int32 (cast_unsigned w32 number)

-- the bytes of an int64
pub record IsLong (bytes : List ℕ) (number : ℤ) : Type 0 where
  pub fits : FitsSigned w64 number
  pub whole : bytes ≡ int64 (cast_unsigned w64 number)

-- the bytes of a uint64
pub record IsStamp (bytes : List ℕ) (stamp : ℕ) : Type 0 where
  pub fits : stamp < 2 ^ 64
  pub whole : bytes ≡ int64 stamp

-- a string, then the twelve bytes of an id
pub record IsPointer (bytes : List ℕ) : Type 0 where
  pub text : List ℕ
  pub id : List ℕ
  pub utf8 : IsUtf8 text
  pub small : length text + 1 < LENGTH_LIMIT
  pub twelve : length id ≡ 12
  pub whole : bytes ≡ string Bson text ++ id

-- an int32 that equals the length of all the bytes, which are at least 14
pub record IsScoped (bytes : List ℕ) : Type 0 where
  pub inside : List ℕ
  pub least : 14 ≤ length bytes
  pub small : length bytes < LENGTH_LIMIT
  pub whole : bytes ≡ int32 (length bytes) ++ inside

-- behind this type byte, these bytes spell a value of a foreign type: double, undefined, DBPointer, JavaScript code, symbol,
-- JavaScript code with scope, decimal128, maxKey, minKey
abbrev pub IsForeign : ℕ → List ℕ → Type 0
IsForeign code bytes =
    ((code ≡ 1) × (length bytes ≡ 8))
    ⊎ (((code ≡ 6) × (length bytes ≡ 0))
    ⊎ (((code ≡ 12) × IsPointer bytes)
    ⊎ (((code ≡ 13) × (text : List ℕ) × IsString bytes text)
    ⊎ (((code ≡ 14) × (text : List ℕ) × IsString bytes text)
    ⊎ (((code ≡ 15) × IsScoped bytes)
    ⊎ (((code ≡ 19) × (length bytes ≡ 16))
    ⊎ (((code ≡ 127) × (length bytes ≡ 0))
    ⊎ ((code ≡ 255) × (length bytes ≡ 0)))))))))

-- only a document and an array have foreign elements in them
abbrev pub MayHold : ℕ → List Foreign → Type 0
MayHold code foreign = (code ≡ 3) ⊎ ((code ≡ 4) ⊎ (foreign ≡ []))

-- an element as it is read: its name, its value unless it is foreign, and the foreign elements that it is or holds, in order
pub record Element : Type 0 where
  pub name : List ℕ
  pub value : Option Value
  pub foreign : List Foreign

-- the pair of a name and a value that is kept
abbrev pub pair_of : List ℕ → Option Value → List (Pair Value)
pair_of name None = []
pair_of name (Some value) = record { name = name; value = value } ∷ []

-- the pairs that are kept
abbrev pub kept : List Element → List (Pair Value)
kept elements = flat_map (λ (it : Element). pair_of it.name it.value) elements

-- the foreign elements
abbrev pub foreigns : List Element → List Foreign
foreigns elements = flat_map (λ (it : Element). it.foreign) elements

-- the values of a document, whatever their names
abbrev pub values : List (Pair Value) → List Value
values pairs = map (λ (pair : Pair Value). pair.value) pairs

module _ (IsDocument : List ℕ → List (Pair Value) → Type 0) where
  -- an array is a document whose names say nothing
  abbrev pub IsArray : List ℕ → List Value → Type 0
  IsArray bytes items = (pairs : List (Pair Value)) × IsDocument bytes pairs × (values pairs ≡ items)

  -- behind this type byte, these bytes spell the value
  abbrev pub IsValue : ℕ → List ℕ → Value-F Value → Type 0
  IsValue code bytes (Value-F.Str text) = (code ≡ 2) × IsString bytes text
  IsValue code bytes (Value-F.Doc pairs) = (code ≡ 3) × IsDocument bytes pairs
  IsValue code bytes (Value-F.Arr items) = (code ≡ 4) × IsArray bytes items
  IsValue code bytes (Value-F.Bin it) = (code ≡ 5) × IsBinary bytes it
  IsValue code bytes (Value-F.Id id) = (code ≡ 7) × (length bytes ≡ 12) × (bytes ≡ id)
  IsValue code bytes (Value-F.Bool truth) = (code ≡ 8) × (bytes ≡ bool truth)
  IsValue code bytes (Value-F.Date moment) = (code ≡ 9) × IsLong bytes moment
  IsValue code bytes Value-F.Null = (code ≡ 10) × (bytes ≡ [])
  IsValue code bytes (Value-F.Regex regex) = (code ≡ 11) × IsRegex bytes regex
  IsValue code bytes (Value-F.Int number) = (code ≡ 16) × IsInt bytes number
  IsValue code bytes (Value-F.Stamp stamp) = (code ≡ 17) × IsStamp bytes stamp
  IsValue code bytes (Value-F.Long number) = (code ≡ 18) × IsLong bytes number

-- Places are counted from the front of all bytes: what follows is said of bytes whose first stands at `place`.
module _ (IsDocument : ℕ → List ℕ → List (Pair Value) → List Foreign → Type 0) where
  -- of an element at `place`, whose value stands at `inner`: it is foreign, or its value is kept, with what is foreign in it
  abbrev pub Yields : ℕ → ℕ → ℕ → List ℕ → Option Value → List Foreign → Type 0
  Yields place inner code content None foreign = IsForeign code content × (foreign ≡ record { code = code; place = place } ∷ [])
  Yields place inner code content (Some value) foreign =
      IsValue (λ bytes pairs. IsDocument inner bytes pairs foreign) code content (out-Value value) × MayHold code foreign

  -- type byte, name, value
  pub record IsElement (place : ℕ) (bytes : List ℕ) (it : Element) : Type 0 where
    pub code : ℕ
    pub content : List ℕ
    pub whole : bytes ≡ code ∷ cstring it.name ++ content
    pub name : IsName it.name
    pub value : Yields place (place + (length it.name + 2)) code content it.value it.foreign

  -- one element after another
  abbrev pub AreElements : ℕ → List ℕ → List Element → Type 0
  AreElements place bytes [] = bytes ≡ []
  AreElements place bytes (it ∷ more) =
      (first : List ℕ) × (rest : List ℕ) × (bytes ≡ first ++ rest)
      × IsElement place first it × AreElements (place + length first) rest more

  -- an int32 that equals the length of all the bytes, elements, and a 00 byte
  pub record Encloses (place : ℕ) (bytes : List ℕ) (elements : List Element) : Type 0 where
    pub inside : List ℕ
    pub small : length bytes < LENGTH_LIMIT
    pub whole : bytes ≡ int32 (length bytes) ++ inside ++ 0 ∷ []
    pub are : AreElements (place + 4) inside elements

-- spelled with at most so many levels of documents and arrays: the elements are the pairs that are kept and those that are foreign
unfoldable pub spells_within : ℕ → ℕ → List ℕ → List (Pair Value) → List Foreign → Type 0
spells_within zero place bytes pairs foreign = ⊥
spells_within (suc levels) place bytes pairs foreign =
    (elements : List Element) × Encloses (spells_within levels) place bytes elements
    × (kept elements ≡ pairs) × (foreigns elements ≡ foreign)

-- the bytes spell the document, in at most so many levels, and the foreign elements, which are not in it;
-- places are counted from the first byte
abbrev pub spells : List ℕ → List (Pair Value) → List Foreign → Type 0
spells bytes doc foreign = spells_within MOST_NESTED 0 bytes doc foreign
