-- Which values are told apart by their keys.
use Rattle.std.specs.Prelude.{ℕ, ◌≡◌, ◌≢◌, ◌<◌, ◌^◌, List, length, All, FitsSigned}
use Rattle.std.specs.Int.{w32, w64}
use Rattle.bson_values.specs.declared.pairs.Pair.{Pair}
use Rattle.bson_values.specs.declared.value.Value.{Value}
use Rattle.bson_values.specs.declared.value.Value.TheOpen.{Value-F}
use Rattle.bson_values.specs.declared.value.Value.TheFolds.{every-Value}

-- a text with no U+0000
abbrev pub HasNoNul : List ℕ → Type 0
HasNoNul text = All (λ byte. byte ≢ 0) text

-- the names and texts of a layer that a 00 byte ends have none in them; its numbers and ObjectId are of their types
abbrev pub IsPlainLayer : Value-F Value → Type 0
IsPlainLayer (Value-F.Doc pairs) = All (λ (pair : Pair Value). HasNoNul pair.name) pairs
IsPlainLayer (Value-F.Id id) = length id ≡ 12
IsPlainLayer (Value-F.Date moment) = FitsSigned w64 moment
IsPlainLayer (Value-F.Regex regex) = HasNoNul regex.pattern × HasNoNul regex.options
IsPlainLayer (Value-F.Int number) = FitsSigned w32 number
IsPlainLayer (Value-F.Stamp stamp) = stamp < 2 ^ 64
IsPlainLayer (Value-F.Long number) = FitsSigned w64 number
IsPlainLayer layer = Unit {0}

-- the same at every depth
abbrev pub IsPlain : Value → Type 0
IsPlain = every-Value IsPlainLayer

-- a name with no U+0000, and a plain value
abbrev pub IsPlainPair : Pair Value → Type 0
IsPlainPair pair = HasNoNul pair.name × IsPlain pair.value
