-- What tables a keeper's tables are, and the first fault of them where they are none.
use Rattle.std.specs.Prelude.{ℕ, ◌≡◌, ◌+◌, max, nat_lt, nat_le, Bool, true, not, ◌&&◌, MatchBool, List, [], ◌∷◌, ◌++◌, length, map, Option, Some, Result, Ok, Err}
use Rattle.std.specs.List.{AllZip, list_any}
use Rattle.bson_values.specs.declared.space.Space.{Space}
use Rattle.bson_values.specs.Names.{same_space}
use Rattle.jsonb_contain.specs.Texts.{read_json}
use Rattle.naming.specs.Names.{is_valid}
use Rattle.outside.specs.declared.kept.KeptRow.{KeptRow}
use Rattle.outside.specs.declared.kept.KeptTable.{KeptTable}
use Rattle.table_rows.specs.declared.listed.Placed.{Placed}
use Rattle.table_rows.specs.declared.row.Row.{Row}
use Rattle.table_words.specs.Tables.{Table, Tables, MOST_TABLES, LAST_NUMBER, has_text}
use Rattle.table_words.specs.Sound.{IsSound}
use Rattle.table_store.specs.declared.load_refused.LoadRefused.{LoadRefused}
use Rattle.table_store.specs.declared.load_refused.LoadRefused.TheVariants.{KeeperFault, BadKept, NoMemory}
use Rattle.table_store.specs.declared.tables.Held.{Held}

-- ---- one after another

-- the least number above all of these, but at least this
abbrev pub past : ℕ → List ℕ → ℕ
past least [] = least
past least (n ∷ ns) = max (n + 1) (past least ns)

-- each is good behind those before it
abbrev pub EachGood : {A : Type 0} → (List A → A → Type 0) → List A → List A → Type 0
EachGood Good before [] = Unit {0}
EachGood Good before (x ∷ xs) = Good before x × EachGood Good (before ++ x ∷ []) xs

-- the first that is not good, behind these
pub record FirstBad {A : Type 0} (Good : List A → A → Type 0) (all before : List A) (x : A) : Type 0 where
  pub rest : List A
  pub is : all ≡ before ++ x ∷ rest
  pub good : EachGood Good [] before
  pub bad : Good before x → ⊥

-- ---- rows

abbrev pub places : List KeptRow → List ℕ
places rows = map (λ (row : KeptRow). row.place) rows

abbrev pub keys : List KeptRow → List (List ℕ)
keys rows = map (λ (row : KeptRow). row.key) rows

-- a sound row under the key, whose JSON is that of the text, however the text is written
pub record IsRead (key text : List ℕ) (row : Row) : Type 0 where
  pub under : row.key ≡ key
  pub reads : read_json text ≡ Some row.json
  pub sound : IsSound row

-- the row has a place from this to the last number, and none of these keys
abbrev pub may_stand : ℕ → List (List ℕ) → KeptRow → Bool
may_stand least taken row = nat_le least row.place && nat_le row.place LAST_NUMBER && not (has_text row.key taken)

-- behind these rows it has a higher place and a key of its own, and it is the row of a document that may be stored
pub record GoodRow (before : List KeptRow) (kept : KeptRow) : Type 0 where
  pub may : may_stand (past 0 (places before)) (keys before) kept ≡ true
  pub row : Row
  pub is : IsRead kept.key kept.text row

-- at this place is the first row that is not good
abbrev pub FaultyRow : List KeptRow → ℕ → Type 0
FaultyRow rows place = (before : List KeptRow) × (row : KeptRow) × FirstBad GoodRow rows before row × (row.place ≡ place)

-- ---- tables

abbrev pub numbers : List KeptTable → List ℕ
numbers tables = map (λ (table : KeptTable). table.number) tables

abbrev pub spaces : List KeptTable → List Space
spaces tables = map (λ (table : KeptTable). table.space) tables

-- the space is one of these
abbrev pub has_space : Space → List Space → Bool
has_space space taken = list_any (λ (other : Space). same_space space other) taken

-- so many tables are not too many already, and the number is one from this to the last
abbrev pub may_number : ℕ → ℕ → ℕ → Bool
may_number count least number = nat_lt count MOST_TABLES && nat_le least number && nat_le number LAST_NUMBER

-- the space has valid names, and is none of these
abbrev pub may_name : List Space → Space → Bool
may_name taken space = is_valid space && not (has_space space taken)

abbrev pub may_follow : ℕ → ℕ → List Space → KeptTable → Bool
may_follow count least taken table = may_number count least table.number && may_name taken table.space

-- it has a higher number than those before it, from 1 on, and a space of its own
abbrev pub follows : List KeptTable → KeptTable → Bool
follows before table = may_follow (length before) (past 1 (numbers before)) (spaces before) table

-- and all its rows are good
pub record GoodTable (before : List KeptTable) (table : KeptTable) : Type 0 where
  pub may : follows before table ≡ true
  pub rows : EachGood GoodRow [] table.rows

-- the first table that is not good has this number; this is the place of its first row that is not, or 0 where the table may not follow
pub record FirstFault (kept : List KeptTable) (number place : ℕ) : Type 0 where
  pub before : List KeptTable
  pub table : KeptTable
  pub first : FirstBad GoodTable kept before table
  pub of : table.number ≡ number
  pub at : MatchBool (follows before table) (FaultyRow table.rows place) (place ≡ 0)

-- ---- as tables

pub record IsPlaced (kept : KeptRow) (p : Placed) : Type 0 where
  pub place : p.place ≡ kept.place
  pub is : IsRead kept.key kept.text p.row

-- the last place, and without rows the number
abbrev pub stamp_of : ℕ → List KeptRow → ℕ
stamp_of number [] = number
stamp_of number (row ∷ rows) = stamp_of row.place rows

pub record IsTableOf (kept : KeptTable) (t : Table) : Type 0 where
  pub number : t.number ≡ kept.number
  pub space : t.space ≡ kept.space
  pub rows : AllZip IsPlaced kept.rows t.rows
  pub stamp : t.stamp ≡ stamp_of kept.number kept.rows

-- all numbers and places
abbrev pub given : List KeptTable → List ℕ
given [] = []
given (t ∷ ts) = t.number ∷ places t.rows ++ given ts

-- all are good, the tables are these in their order, and the next number is above all numbers and places
pub record IsLoaded (kept : List KeptTable) (s : Tables) : Type 0 where
  pub good : EachGood GoodTable [] kept
  pub tables : AllZip IsTableOf kept s.live
  pub next : s.next ≡ past 1 (given kept)

-- a refusal for what is kept, which was loaded, tells its first fault
abbrev pub Refuses : List KeptTable → LoadRefused → Type 0
Refuses kept KeeperFault = ⊥
Refuses kept (BadKept number place) = FirstFault kept number place
Refuses kept NoMemory = Unit {0}

-- the same, where what is kept is told; a keeper may also fail
abbrev pub RefusesTold : Option (List KeptTable) → LoadRefused → Type 0
RefusesTold (Some kept) (BadKept number place) = FirstFault kept number place
RefusesTold told refused = Unit {0}

-- ---- the call

-- the keeper, which goes into the tables or comes back
abbrev pub keeper_of : {K : Type 0} → Result (Held K) (LoadRefused × K) → K
keeper_of (Ok tables) = tables.keeper
keeper_of (Err it) = it.1

-- only the keeper fails
abbrev pub failure_in : LoadRefused → Result (Unit {0}) (Unit {0})
failure_in KeeperFault = Err tt
failure_in refused = Ok tt

abbrev pub failure_of : {K : Type 0} → Result (Held K) (LoadRefused × K) → Result (Unit {0}) (Unit {0})
failure_of (Ok tables) = Ok tt
failure_of (Err it) = failure_in it.0
