-- Rows at their places. Of a key the first counts.
use Rattle.std.specs.Prelude.{ℕ, nat_lt, not, ◌&&◌, ◌||◌, if◌then◌else◌, Bool, true, false, List, [], ◌∷◌}
use Rattle.std.specs.Str.{bytes_eq}
use Rattle.jsonb_contain.specs.Containment.{met}
use Rattle.jsonb_contain.specs.declared.cond.Cond.{Cond}
use Rattle.table_rows.specs.declared.listed.Placed.{Placed}
use Rattle.table_rows.specs.declared.row.Row.{Row}

-- ---- by key

-- a row has this key
abbrev pub has_key : List ℕ → List Placed → Bool
has_key key [] = false
has_key key (placed ∷ rows) = bytes_eq key placed.row.key || has_key key rows

-- the rows, with this one in the place of that with its key, if there is one
abbrev pub replaced : Row → List Placed → List Placed
replaced row [] = []
replaced row (placed ∷ rows) = if bytes_eq row.key placed.row.key then record placed { row = row } ∷ rows else placed ∷ replaced row rows

-- the rows without that of the key
abbrev pub removed : List ℕ → List Placed → List Placed
removed key [] = []
removed key (placed ∷ rows) = if bytes_eq key placed.row.key then rows else placed ∷ removed key rows

-- ---- by condition

-- the rows that meet a condition
abbrev pub selected : Cond → List Placed → List Row
selected cond [] = []
selected cond (placed ∷ rows) =
    if met cond placed.row.key placed.row.json then placed.row ∷ selected cond rows else selected cond rows

-- ---- all of them

-- a place above each of theirs
abbrev pub above : ℕ → List Placed → Bool
above place [] = true
above place (placed ∷ rows) = nat_lt placed.place place && above place rows

-- a place below each of theirs
abbrev pub below : ℕ → List Placed → Bool
below place [] = true
below place (placed ∷ rows) = nat_lt place placed.place && below place rows

-- each place is below those that follow
abbrev pub places_rise : List Placed → Bool
places_rise [] = true
places_rise (placed ∷ rows) = below placed.place rows && places_rise rows

-- no key stands twice
abbrev pub keys_differ : List Placed → Bool
keys_differ [] = true
keys_differ (placed ∷ rows) = not (has_key placed.row.key rows) && keys_differ rows
