-- Which documents have a spelling.
use Rattle.std.specs.Prelude.{ℕ, zero, suc, ◌≡◌, ◌<◌, ◌^◌, List, length, All, FitsSigned}
use Rattle.std.specs.Int.{w32, w64}
use Rattle.std.specs.Str.{IsUtf8}
use Rattle.bson_values.specs.declared.pairs.Pair.{Pair}
use Rattle.bson_values.specs.declared.value.Value.{Value, out-Value}
use Rattle.bson_values.specs.declared.value.Value.TheOpen.{Value-F}
use Rattle.bson_spelling.specs.Spelling.{spell}
use Rattle.bson_wire.specs.Grammar.{MOST_NESTED, LENGTH_LIMIT, IsName}

-- texts that are UTF-8, names and regex texts without U+0000, numbers that fit, at most so many levels of containers
abbrev pub HasSpelling : Value-F Value → ℕ → Type 0
HasSpelling (Value-F.Str text) levels = IsUtf8 text
HasSpelling (Value-F.Doc pairs) zero = ⊥
HasSpelling (Value-F.Doc pairs) (suc levels) =
    All (λ (pair : Pair Value). IsName pair.name × HasSpelling (out-Value pair.value) levels) pairs
HasSpelling (Value-F.Arr items) zero = ⊥
HasSpelling (Value-F.Arr items) (suc levels) = All (λ (item : Value). HasSpelling (out-Value item) levels) items
HasSpelling (Value-F.Bin it) levels = Unit {0}
HasSpelling (Value-F.Id id) levels = length id ≡ 12
HasSpelling (Value-F.Bool truth) levels = Unit {0}
HasSpelling (Value-F.Date moment) levels = FitsSigned w64 moment
HasSpelling Value-F.Null levels = Unit {0}
HasSpelling (Value-F.Regex regex) levels = IsName regex.pattern × IsName regex.options
HasSpelling (Value-F.Int number) levels = FitsSigned w32 number
HasSpelling (Value-F.Stamp stamp) levels = stamp < 2 ^ 64
HasSpelling (Value-F.Long number) levels = FitsSigned w64 number

-- a document of so many levels at most, in so few bytes that an int32 says how many
pub record IsSpellable (doc : List (Pair Value)) : Type 0 where
  pub fits : HasSpelling (Value-F.Doc doc) MOST_NESTED
  pub small : length (spell doc) < LENGTH_LIMIT
