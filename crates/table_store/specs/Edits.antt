-- Edits, and what the keeper is asked for them.
use Rattle.std.specs.Prelude.{ℕ, ◌||◌, Bool, if◌then◌else◌, List, [], ◌∷◌, ◌++◌, Option, None, Some}
use Rattle.std.specs.Str.{bytes_eq}
use Rattle.outside.specs.declared.kept.Change.{Change}
use Rattle.outside.specs.declared.kept.Change.TheVariants.{Put, Cut}
use Rattle.table_rows.specs.declared.row.Row.{Row}
use Rattle.table_rows.specs.declared.listed.Placed.{Placed}
use Rattle.table_rows.specs.Rows.{has_key}
use Rattle.table_words.specs.declared.call.Edit.{Edit}
use Rattle.table_words.specs.declared.call.Edit.TheVariants.{Replace, Remove}

-- the change that puts a row into a table
abbrev pub put_of : ℕ → ℕ → Row → Change
put_of number place row = Put number place row.key row.text

-- the rows that are there and are replaced
abbrev pub puts : ℕ → List Placed → List Edit → List Change
puts number rows [] = []
puts number rows (Replace row ∷ es) = if has_key row.key rows then put_of number 0 row ∷ puts number rows es else puts number rows es
puts number rows (Remove key ∷ es) = puts number rows es

-- the keys that are removed
abbrev pub cuts : ℕ → List Edit → List Change
cuts number [] = []
cuts number (Replace row ∷ es) = cuts number es
cuts number (Remove key ∷ es) = Cut number key ∷ cuts number es

-- the key of an edit
abbrev pub key_of : Edit → List ℕ
key_of (Replace row) = row.key
key_of (Remove key) = key

-- the edits of other keys than this
abbrev pub others : List ℕ → List Edit → List Edit
others key [] = []
others key (e ∷ es) = if bytes_eq key (key_of e) then others key es else e ∷ others key es

-- what the keeper is asked for a commit: the rows that are replaced, then those that are removed, then the one that is added
abbrev pub changes_for : ℕ → ℕ → List Placed → List Edit → Option Row → List Change
changes_for number place rows edits None = puts number rows edits ++ cuts number edits
changes_for number place rows edits (Some row) = (puts number rows edits ++ cuts number edits) ++ put_of number place row ∷ []
