-- Entries: values, each with its key and its place. Of a key the first counts.
use Rattle.std.specs.Prelude.{ℕ, nat_lt, not, ◌&&◌, ◌||◌, if◌then◌else◌, Bool, true, false, List, [], ◌∷◌, Option, None, Some}
use Rattle.std.specs.Str.{bytes_eq}
use Rattle.keyed_rows.specs.declared.entry.Entry.{Entry}

-- ---- by key

-- an entry has this key
abbrev pub has_key : {V : Type 0} → List ℕ → List (Entry V) → Bool
has_key key [] = false
has_key key (entry ∷ entries) = bytes_eq key entry.key || has_key key entries

-- the entry of a key
abbrev pub found : {V : Type 0} → List ℕ → List (Entry V) → Option (Entry V)
found key [] = None
found key (entry ∷ entries) = if bytes_eq key entry.key then Some entry else found key entries

-- the entries, with this value at the key, if it is there
abbrev pub replaced : {V : Type 0} → List ℕ → V → List (Entry V) → List (Entry V)
replaced key value [] = []
replaced key value (entry ∷ entries) =
    if bytes_eq key entry.key then record entry { value = value } ∷ entries else entry ∷ replaced key value entries

-- the entries without that of the key
abbrev pub removed : {V : Type 0} → List ℕ → List (Entry V) → List (Entry V)
removed key [] = []
removed key (entry ∷ entries) = if bytes_eq key entry.key then entries else entry ∷ removed key entries

-- ---- all of them

-- a place above each of theirs
abbrev pub above : {V : Type 0} → ℕ → List (Entry V) → Bool
above place [] = true
above place (entry ∷ entries) = nat_lt entry.place place && above place entries

-- a place below each of theirs
abbrev pub below : {V : Type 0} → ℕ → List (Entry V) → Bool
below place [] = true
below place (entry ∷ entries) = nat_lt place entry.place && below place entries

-- each place is below those that follow
abbrev pub places_rise : {V : Type 0} → List (Entry V) → Bool
places_rise [] = true
places_rise (entry ∷ entries) = below entry.place entries && places_rise entries

-- no key stands twice
abbrev pub keys_differ : {V : Type 0} → List (Entry V) → Bool
keys_differ [] = true
keys_differ (entry ∷ entries) = not (has_key entry.key entries) && keys_differ entries
