-- What a call did.
use Rattle.std.specs.Prelude.{ℕ, ◌≡◌, List, Option}
use Rattle.outside.specs.declared.kept.KeptTable.{KeptTable}
use Rattle.outside.specs.declared.keeper.KeepError.{KeepError}
use Rattle.outside.specs.declared.keeper.KeepError.TheVariants.{Failed, NoMemory}
use Rattle.table_words.specs.declared.call.TableCall.{TableCall}
use Rattle.table_words.specs.declared.call.TableReply.{TableReply}
use Rattle.table_words.specs.declared.call.TableReply.TheVariants as reply
use Rattle.table_words.specs.Tables.{Tables}
use Rattle.table_words.specs.Sound.{Sound}
use Rattle.table_words.specs.Step.{replies, tables_after}
use Rattle.table_store.specs.declared.live.LiveTables.{LiveTables}
use Rattle.table_store.specs.Found.{state_of}
use Rattle.table_store.specs.Kept.{Tells}

-- tables that may be called
pub record IsReady (told : Option (List KeptTable)) (s : Tables) : Type 0 where
  pub sound : Sound s
  pub tells : Tells told s

-- the reply may be given, and the tables are those after it
pub record Ran (before now : ℕ) (s t : Tables) (c : TableCall) (r : TableReply) : Type 0 where
  pub replied : replies s c r before now
  pub after : t ≡ tables_after s c r

-- a call that asks no keeper and changes nothing
abbrev pub OnlyReads : Tables → TableCall → TableReply → Type 0
OnlyReads s c r = (faults : ℕ) → Ran faults faults s s c r

-- ---- of the tables in memory with their keeper

abbrev pub AreReady : {K : Type 0} → (K → Option (List KeptTable)) → LiveTables K → Type 0
AreReady told tables = IsReady (told tables.keeper) (state_of tables)

abbrev pub RanOn : {K : Type 0} → (K → ℕ) → LiveTables K → LiveTables K → TableCall → TableReply → Type 0
RanOn faults old new c r = Ran (faults old.keeper) (faults new.keeper) (state_of old) (state_of new) c r

abbrev pub StillTells : {K : Type 0} → (K → Option (List KeptTable)) → LiveTables K → Type 0
StillTells told tables = Tells (told tables.keeper) (state_of tables)

-- what is replied where the keeper refuses
abbrev pub refusal_of : KeepError → TableReply
refusal_of Failed = reply.Fault
refusal_of NoMemory = reply.NoMemory
