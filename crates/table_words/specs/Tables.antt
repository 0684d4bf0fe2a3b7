-- The tables of a store.
use Rattle.std.specs.Prelude.{ℕ, suc, ◌-◌, ◌^◌, ◌==◌, Bool, true, false, not, ◌||◌, if◌then◌else◌, List, [], ◌∷◌, ◌++◌, Option, None, Some, map, filter}
use Rattle.std.specs.Str.{bytes_eq}
use Rattle.bson_values.specs.declared.space.Space.{Space}
use Rattle.bson_values.specs.Names.{same_space}
use Rattle.table_words.specs.declared.state.TableState.{TableState}
use Rattle.table_words.specs.declared.state.TablesState.{TablesState}

-- how many tables there may be
abbrev pub MOST_TABLES : ℕ
MOST_TABLES = 10000

-- the last number that can be given
abbrev pub LAST_NUMBER : ℕ
LAST_NUMBER = 2 ^ 63 - 1

-- a live table: its rows stand in the order of their places
abbrev pub Table : Type 0
Table = TableState

-- the live tables in order of creation, and the next number
abbrev pub Tables : Type 0
Tables = TablesState

-- the table of that space
abbrev pub named : Space → List Table → Option Table
named space [] = None
named space (t ∷ ts) = if same_space space t.space then Some t else named space ts

-- the table of that number
abbrev pub numbered : ℕ → List Table → Option Table
numbered n [] = None
numbered n (t ∷ ts) = if n == t.number then Some t else numbered n ts

-- the table of its number is this one
abbrev pub put : Table → List Table → List Table
put t [] = []
put t (u ∷ us) = if t.number == u.number then t ∷ us else u ∷ put t us

-- the table of that number is out
abbrev pub without : ℕ → List Table → List Table
without n [] = []
without n (u ∷ us) = if n == u.number then us else u ∷ without n us

-- those of other databases
abbrev pub outside_of : List ℕ → List Table → List Table
outside_of db [] = []
outside_of db (u ∷ us) = if bytes_eq db u.space.db then outside_of db us else u ∷ outside_of db us

-- how many are in the database
abbrev pub count_in : List ℕ → List Table → ℕ
count_in db [] = 0
count_in db (u ∷ us) = if bytes_eq db u.space.db then suc (count_in db us) else count_in db us

-- the names of those in the database
abbrev pub names_in : List ℕ → List Table → List (List ℕ)
names_in db [] = []
names_in db (u ∷ us) = if bytes_eq db u.space.db then u.space.coll ∷ names_in db us else names_in db us

-- one of the texts is this
abbrev pub has_text : List ℕ → List (List ℕ) → Bool
has_text text [] = false
has_text text (t ∷ ts) = bytes_eq text t || has_text text ts

-- each database at its first table, but for these
abbrev pub databases : List (List ℕ) → List Table → List (List ℕ)
databases known [] = []
databases known (u ∷ us) =
    if has_text u.space.db known then databases known us else u.space.db ∷ databases (known ++ u.space.db ∷ []) us
