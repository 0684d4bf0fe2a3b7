-- The tables in memory, and where one of them stands.
use Rattle.std.specs.Prelude.{ℕ, ◌≡◌, ◌<◌, List, [], ◌∷◌, length, Option, None, Some, slice_set, slice_index_or}
use Rattle.std.specs.List.{remove}
use Rattle.bson_values.specs.declared.space.Space.{Space}
use Rattle.table_words.specs.Tables.{Table, Tables, named, numbered, put, without}
use Rattle.table_store.specs.declared.live.Live.{Live}
use Rattle.table_store.specs.declared.live.LiveTables.{LiveTables}

abbrev pub shown : Live → Table
shown kept = record { number = kept.table.number; stamp = kept.table.stamp; space = kept.space; rows = kept.table.rows }

abbrev pub all_shown : List Live → List Table
all_shown [] = []
all_shown (t ∷ ts) = shown t ∷ all_shown ts

-- the tables as their calls mean them
abbrev pub state_of : {K : Type 0} → LiveTables K → Tables
state_of tables = record { live = all_shown tables.live.items; next = tables.next }

-- where a number stands, and what writing and removing there come to
pub record Stands (n : ℕ) (live : List Live) (i : ℕ) : Type 0 where
  pub within : i < length live
  pub there : (d : Live) → numbered n (all_shown live) ≡ Some (shown (slice_index_or live i d))
  pub over : (u : Live) → u.table.number ≡ n → all_shown (slice_set live i u) ≡ put (shown u) (all_shown live)
  pub out : all_shown (remove live i) ≡ without n (all_shown live)

abbrev pub FoundNumber : ℕ → List Live → Option ℕ → Type 0
FoundNumber n live None = numbered n (all_shown live) ≡ None
FoundNumber n live (Some i) = Stands n live i

abbrev pub FoundName : Space → List Live → Option ℕ → Type 0
FoundName space live None = named space (all_shown live) ≡ None
FoundName space live (Some n) = (t : Table) × (named space (all_shown live) ≡ Some t) × (t.number ≡ n)
