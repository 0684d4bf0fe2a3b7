-- Rows of a number and a name: what is found in them, and when no row hides another.
use Rattle.std.specs.Prelude.{ℕ, ◌==◌, ◌||◌, ◌&&◌, Bool, true, not, List, [], ◌∷◌, Option, find, map}
use Rattle.std.specs.List.{list_any}
use Rattle.std.specs.Str.{bytes_eq}
use Rattle.case_tables.specs.declared.case_table.Case.{Case}

-- the first row of that code
abbrev pub row_of_code : ℕ → List Case → Option Case
row_of_code code rows = find (λ (row : Case). row.code == code) rows

-- the first row of that name
abbrev pub row_of_name : List ℕ → List Case → Option Case
row_of_name name rows = find (λ (row : Case). bytes_eq row.name.now name) rows

-- the two rows have one code or one name
abbrev pub clash : Case → Case → Bool
clash one other = one.code == other.code || bytes_eq one.name.now other.name.now

-- no row clashes with a later one
abbrev pub is_distinct : List Case → Bool
is_distinct [] = true
is_distinct (row ∷ rows) = not (list_any (clash row) rows) && is_distinct rows

-- the two columns of each row
abbrev pub columns : List Case → List (ℕ × List ℕ)
columns rows = map (λ (row : Case). (row.code, row.name.now)) rows
