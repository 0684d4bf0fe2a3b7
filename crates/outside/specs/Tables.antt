-- Tables in memory, and changes that have their memory. Links between contracts; nobody has to read them for what a keeper does.
use Rattle.std.specs.Prelude.{ℕ, ◌≡◌, ◌≤◌, ◌+◌, ◌==◌, Bool, true, false, List, [], map, count_by, vec_len, All}
use Rattle.std.specs.Global.{Vec}
use Rattle.std.specs.Vec.{vec_capacity}
use Rattle.outside.specs.declared.kept.KeptTable.{KeptTable}
use Rattle.outside.specs.declared.kept.Change.{Change}
use Rattle.outside.specs.declared.kept.Change.TheVariants as change
use Rattle.outside.specs.declared.tables.Table.{Table}
use Rattle.outside.specs.declared.tables.Step.{Step}
use Rattle.outside.specs.declared.tables.Step.TheVariants as step

abbrev pub kept_table : Table → KeptTable
kept_table table = record { number = table.number; space = table.space; rows = table.rows.items }

abbrev pub kept_tables : List Table → List KeptTable
kept_tables tables = map kept_table tables

abbrev pub change_of : Step → Change
change_of (step.Create table) = change.Create table.number table.space
change_of (step.Drop number) = change.Drop number
change_of (step.Put number row) = change.Put number row.place row.key row.text
change_of (step.Cut number key) = change.Cut number key

abbrev pub is_create : Change → Bool
is_create (change.Create number space) = true
is_create (change.Drop number) = false
is_create (change.Put number place key text) = false
is_create (change.Cut number key) = false

abbrev pub is_put_to : ℕ → Change → Bool
is_put_to table (change.Create number space) = false
is_put_to table (change.Drop number) = false
is_put_to table (change.Put number place key text) = table == number
is_put_to table (change.Cut number key) = false

-- how many of the changes create a table
abbrev pub creates : List Change → ℕ
creates changes = count_by is_create changes

-- how many of the changes put a row into the table of that number
abbrev pub puts_to : ℕ → List Change → ℕ
puts_to number changes = count_by (is_put_to number) changes

-- the table has room for the rows that the changes put into it
abbrev pub FitsIn : List Change → Table → Type 0
FitsIn changes table = puts_to table.number changes ≤ table.rows.spare

-- a table that is created is empty, and has that room
abbrev pub IsReady : List Change → Step → Type 0
IsReady changes (step.Create table) = (table.rows.items ≡ []) × FitsIn changes table
IsReady changes (step.Drop number) = Unit {0}
IsReady changes (step.Put number row) = Unit {0}
IsReady changes (step.Cut number key) = Unit {0}

-- there is room for the tables that the changes create, and for the rows that they put into tables
pub record HasRoom (tables : Vec Table) (changes : List Change) : Type 0 where
  pub creates : vec_len tables + creates changes ≤ vec_capacity tables
  pub puts : All (FitsIn changes) tables.items
