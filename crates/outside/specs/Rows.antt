-- The rows of a table in memory, and what an index knows of them. Links between contracts; nobody has to read them for what a keeper does.
use Rattle.std.specs.Prelude.{ℕ, ◌≡◌, ◌<◌, Bool, true, false, List, map, length, get_or, Option, None, Some}
use Rattle.std.specs.List.{list_any}
use Rattle.std.specs.Option.{ForSome}
use Rattle.keyed_rows.specs.declared.entry.Entry.{Entry}
use Rattle.outside.specs.declared.kept.KeptRow.{KeptRow}

-- the key and the place of a row
abbrev pub entry_of : KeptRow → Entry (Unit {0})
entry_of row = record { place = row.place; key = row.key; value = tt }

abbrev pub entries_of : List KeptRow → List (Entry (Unit {0}))
entries_of rows = map entry_of rows

-- the index, where there is one, is that of these rows
abbrev pub IsIndexOf : Option (List (Entry (Unit {0}))) → List KeptRow → Type 0
IsIndexOf index rows = ForSome index (λ entries. entries ≡ entries_of rows)

-- the first that passes the test stands there
pub record IsFirst {A : Type 0} (test : A → Bool) (xs : List A) (place : ℕ) : Type 0 where
  pub within : place < length xs
  pub passes : (d : A) → test (get_or xs place d) ≡ true
  pub before : (k : ℕ) (d : A) → k < place → test (get_or xs k d) ≡ false

-- where the first that passes the test stands, or that none passes
abbrev pub FirstAt : {A : Type 0} → (A → Bool) → List A → Option ℕ → Type 0
FirstAt test xs None = list_any test xs ≡ false
FirstAt test xs (Some place) = IsFirst test xs place
