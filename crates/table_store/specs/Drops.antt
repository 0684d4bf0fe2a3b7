-- What the keeper is asked where a database goes.
use Rattle.std.specs.Prelude.{ℕ, if◌then◌else◌, List, [], ◌∷◌}
use Rattle.std.specs.Str.{bytes_eq}
use Rattle.outside.specs.declared.kept.Change.{Change}
use Rattle.outside.specs.declared.kept.Change.TheVariants as change
use Rattle.table_words.specs.Tables.{Table}

-- the tables of the database go, one by one
abbrev pub drops_of : List ℕ → List Table → List Change
drops_of db [] = []
drops_of db (t ∷ ts) = if bytes_eq db t.space.db then change.Drop t.number ∷ drops_of db ts else drops_of db ts
