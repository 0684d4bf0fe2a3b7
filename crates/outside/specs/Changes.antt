-- What changes make of kept tables. The first table of a number counts, and in it the first row of a key.
use Rattle.std.specs.Prelude.{ℕ, ◌≡◌, ◌==◌, ◌++◌, Bool, if◌then◌else◌, List, [], ◌∷◌, Option, None, Some, Result, Ok, Err}
use Rattle.std.specs.List.{list_any}
use Rattle.std.specs.Str.{bytes_eq}
use Rattle.outside.specs.declared.kept.KeptRow.{KeptRow}
use Rattle.outside.specs.declared.kept.KeptTable.{KeptTable}
use Rattle.outside.specs.declared.kept.Change.{Change}
use Rattle.outside.specs.declared.kept.Change.TheVariants.{Create, Drop, Put, Cut}
use Rattle.outside.specs.declared.keeper.KeepError.{KeepError}

-- the first that passes the test is changed
abbrev pub with_first : {A : Type 0} → (A → Bool) → (A → A) → List A → List A
with_first test change [] = []
with_first test change (x ∷ xs) = if test x then change x ∷ xs else x ∷ with_first test change xs

-- the first that passes the test is taken out
abbrev pub without_first : {A : Type 0} → (A → Bool) → List A → List A
without_first test [] = []
without_first test (x ∷ xs) = if test x then xs else x ∷ without_first test xs

abbrev pub has_key : List ℕ → KeptRow → Bool
has_key key row = bytes_eq key row.key

abbrev pub has_number : ℕ → KeptTable → Bool
has_number number table = table.number == number

-- the text under a key that is there is replaced; a row of another key stands last
abbrev pub put_row : KeptRow → List KeptRow → List KeptRow
put_row row rows =
    if list_any (has_key row.key) rows then with_first (has_key row.key) (λ old. record old { text = row.text }) rows
    else rows ++ row ∷ []

abbrev pub cut_row : List ℕ → List KeptRow → List KeptRow
cut_row key rows = without_first (has_key key) rows

-- the rows of the table of that number are changed
abbrev pub with_rows : ℕ → (List KeptRow → List KeptRow) → List KeptTable → List KeptTable
with_rows number change tables = with_first (has_number number) (λ table. record table { rows = change table.rows }) tables

abbrev pub changed : Change → List KeptTable → List KeptTable
changed (Create number space) tables = tables ++ record { number = number; space = space; rows = [] } ∷ []
changed (Drop number) tables = without_first (has_number number) tables
changed (Put number place key text) tables = with_rows number (put_row record { place = place; key = key; text = text }) tables
changed (Cut number key) tables = with_rows number (cut_row key) tables

abbrev pub all_changed : List Change → List KeptTable → List KeptTable
all_changed [] tables = tables
all_changed (change ∷ changes) tables = all_changed changes (changed change tables)

-- what is told may stop being told, and is never told again; all changes were made, or none
abbrev pub Goes : Option (List KeptTable) → Option (List KeptTable) → List Change → Result (Unit {0}) KeepError → Type 0
Goes None new changes result = new ≡ None
Goes (Some old) None changes result = Unit {0}
Goes (Some old) (Some new) changes (Ok made) = new ≡ all_changed changes old
Goes (Some old) (Some new) changes (Err refused) = new ≡ old
