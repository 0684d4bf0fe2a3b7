-- One row more, and one table more, as they are loaded.
use Rattle.std.specs.Prelude.{ℕ, ◌≡◌, ◌+◌, max, Bool, true, false, ◌&&◌, MatchBool, List, [], ◌∷◌, ◌++◌, length, map, Option, None, Some}
use Rattle.std.specs.List.{AllZip}
use Rattle.std.specs.Str.{bytes_eq}
use Rattle.bson_spelling.specs.Spelling.{key}
use Rattle.bson_values.specs.declared.space.Space.{Space}
use Rattle.bson_values.specs.declared.value.Value.{Value, out-Value}
use Rattle.naming.specs.Ids.{can_be_id}
use Rattle.outside.specs.declared.kept.KeptRow.{KeptRow}
use Rattle.outside.specs.declared.kept.KeptTable.{KeptTable}
use Rattle.table_rows.specs.declared.listed.Listed.{Listed}
use Rattle.table_rows.specs.declared.listed.Placed.{Placed}
use Rattle.table_rows.specs.declared.row.Row.{Row}
use Rattle.table_store.specs.Loading.{past, EachGood, places, may_stand, IsRead, GoodRow, FaultyRow, may_follow, IsPlaced, stamp_of}
use Rattle.table_store.specs.declared.live.Live.{Live}
use Rattle.table_store.specs.declared.load_refused.LoadRefused.{LoadRefused}
use Rattle.table_store.specs.declared.load_refused.LoadRefused.TheVariants.{KeeperFault, BadKept, NoMemory}
use Rattle.table_store.specs.declared.loading.Loading.{Loading}

-- ---- rows

-- these bytes are the key of an `_id`
abbrev pub is_key_of : Option Value → List ℕ → Bool
is_key_of None bytes = false
is_key_of (Some id) bytes = can_be_id (out-Value id) && bytes_eq (key id) bytes

abbrev pub keys_in : List Placed → List (List ℕ)
keys_in rows = map (λ (p : Placed). p.row.key) rows

-- a kept row went last
pub record AddsRow (least : ℕ) (kept : KeptRow) (old new : Listed) : Type 0 where
  pub may : may_stand least (keys_in old.rows) kept ≡ true
  pub row : Row
  pub is : IsRead kept.key kept.text row
  pub after : new ≡ record { number = old.number; stamp = kept.place; rows = old.rows ++ record { place = kept.place; row = row } ∷ [] }

-- a table has these rows, which are good, and no higher place than below this
pub record HasRows (n : ℕ) (kept : List KeptRow) (t : Listed) (least : ℕ) : Type 0 where
  pub good : EachGood GoodRow [] kept
  pub rows : AllZip IsPlaced kept t.rows
  pub number : t.number ≡ n
  pub stamp : t.stamp ≡ stamp_of n kept
  pub low : least ≡ past 0 (places kept)

-- a refusal for rows tells the first that is not good
abbrev pub RefusesRows : ℕ → List KeptRow → LoadRefused → Type 0
RefusesRows n rows KeeperFault = ⊥
RefusesRows n rows (BadKept number place) = (number ≡ n) × FaultyRow rows place
RefusesRows n rows NoMemory = Unit {0}

-- ---- tables

abbrev pub spaces_of : List Live → List Space
spaces_of live = map (λ (t : Live). t.space) live

-- the kept table may be the next to be loaded
abbrev pub may_be_next : Loading → KeptTable → Bool
may_be_next so_far kept = may_follow (length so_far.live.items) so_far.least (spaces_of so_far.live.items) kept

-- it went last
pub record AddsTable (kept : KeptTable) (old new : Loading) : Type 0 where
  pub may : may_be_next old kept ≡ true
  pub table : Listed
  pub above : ℕ
  pub has : HasRows kept.number kept.rows table above
  pub live : new.live.items ≡ old.live.items ++ record { space = kept.space; table = table } ∷ []
  pub least : new.least ≡ kept.number + 1
  pub next : new.next ≡ max (max old.next (kept.number + 1)) above

-- a refusal of it tells the table itself, or the first row that is not good
abbrev pub RefusesTable : Loading → KeptTable → LoadRefused → Type 0
RefusesTable so_far kept refused =
    MatchBool (may_be_next so_far kept) (RefusesRows kept.number kept.rows refused) (refused ≡ BadKept kept.number 0)
