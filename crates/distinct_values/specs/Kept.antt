-- How values are kept, each under a key that no other one has.
use Rattle.std.specs.Prelude.{◌≡◌, ℕ, true, List, [], ◌∷◌, ◌++◌, length, map}
use Rattle.std.specs.List.{All}
use Rattle.keyed_rows.specs.declared.entry.Entry.{Entry}
use Rattle.keyed_rows.specs.Entries.{above}
use Rattle.bson_values.specs.declared.value.Value.{Value}
use Rattle.bson_spelling.specs.Spelling.{key}
use Rattle.bson_order.specs.Plain.{IsPlain}

abbrev pub kept_values : List (Entry Value) → List Value
kept_values entries = map (λ (entry : Entry Value). entry.value) entries

-- a value that its key tells apart from others
pub record IsTold (entry : Entry Value) : Type 0 where
  pub key_is : entry.key ≡ key entry.value
  pub plain : IsPlain entry.value

-- the next place is the number of entries
pub record AreKept (entries : List (Entry Value)) : Type 0 where
  pub told : All IsTold entries
  pub room : above (length entries) entries ≡ true

-- a value behind them
abbrev pub one_more : List (Entry Value) → List ℕ → Value → List (Entry Value)
one_more entries bytes it = entries ++ (record { place = length entries; key = bytes; value = it }) ∷ []
