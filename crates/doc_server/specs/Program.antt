-- What the program says and how it ends.
use Rattle.std.specs.Prelude.{ℕ, ◌≡◌, ◌≢◌, ◌⊎◌, Bool, false, List, [], ◌∷◌, ◌++◌, codes, Option, None, Some, IfSome}
use Rattle.std.specs.Str.{bytes_eq}
use Rattle.doc_server.specs.declared.why.Why.{Why}
use Rattle.doc_server.specs.declared.why.Why.TheVariants.{Closed, Truncated, BadFrame, ReadFault, WriteFault, Long, NoMemory}
use Rattle.op_msg.specs.declared.message.Message.{Message}
use Rattle.op_msg.specs.Stream.{frames}
use Rattle.outside.specs.Causes.{Rose}
use Rattle.outside.specs.declared.kept.KeptTable.{KeptTable}
use Rattle.history_lock.specs.Places.{Each}
use Rattle.history_lock.specs.Legal.{count_after, legal, replay}
use Rattle.table_words.specs.Tables.{Tables}
use Rattle.table_words.specs.Step.{tstep, tables_after}
use Rattle.table_store.specs.Loading.{FirstFault}
use Rattle.doc_model.specs.declared.op.OpReply.TheVariants.{Fault}
use Rattle.doc_model.specs.Run.{Done}
use Rattle.doc_history.specs.Told.{Tcall, told}
use Rattle.doc_history.specs.Laws.{Story}
use Rattle.dispatcher.specs.Script.{Executed, messages, ops_from}
use Rattle.doc_server.specs.Talk.{Scene, Talk}

-- the one word `pipe`
abbrev pub is_pipe : List (List ℕ) → Bool
is_pipe (word ∷ []) = bytes_eq word (codes "pipe")
is_pipe _ = false

-- the status that tells how the console's connection ended
abbrev pub status_of : Why → ℕ
status_of Closed = 0
status_of WriteFault = 4
status_of (Truncated size) = 6
status_of (BadFrame kind place) = 7
status_of ReadFault = 8
status_of NoMemory = 9
status_of Long = 10

-- Why tables were not loaded from a keeper, by the status, and the table and place of what is bad. 2: the keeper failed, which was told no
-- failure before; 3: what is kept is bad, and this is its first fault; 9: want of memory.
abbrev pub Unloaded : {K : Type 0} → (K → ℕ) → Option (List KeptTable) → K → Option (ℕ × ℕ) → ℕ → Type 0
Unloaded faults kept keeper None status = ((status ≡ 2) × Rose 0 (faults keeper)) ⊎ ((status ≡ 9) × (faults keeper ≡ 0))
Unloaded faults kept keeper (Some bad) status =
    (status ≡ 3) × (faults keeper ≡ 0) × IfSome kept (λ tables. FirstFault tables bad.0 bad.1)

-- The status where no connection was served. With a keeper it is as above. Else, 1: bad words; 2: `keep` failed, whose count of faults was
-- one and is now the other; 9: want of memory.
abbrev pub Unserved : {K : Type 0} → (K → ℕ) → Option (List KeptTable) → ℕ → ℕ → Option K → Option (ℕ × ℕ) → ℕ → Type 0
Unserved faults kept before now (Some keeper) bad status = (now ≡ before) × Unloaded faults kept keeper bad status
Unserved faults kept before now None None status =
    ((status ≡ 2) × Rose before now) ⊎ (((status ≡ 1) ⊎ (status ≡ 9)) × (now ≡ before))
Unserved faults kept before now None (Some bad) status = ⊥

-- before the first call of a link with that input
abbrev pub fresh : Option (List ℕ) → Scene
fresh input = record { took = Some []; left = input; wrote = Some []; moments = Some [] }

-- Of an input that is told, with what is left of it, the messages are all that it has. Nothing, where the connection was cut off: a call
-- failed, memory ran out, or more came than is read of one connection.
abbrev pub IsWhole : Why → Option (List ℕ) → Option (List ℕ) → List Message → List ℕ → Type 0
IsWhole Closed (Some input) (Some left) ms rest = frames input ms (rest ++ left)
IsWhole (Truncated size) (Some input) (Some left) ms rest = frames input ms (rest ++ left)
IsWhole (BadFrame kind place) (Some input) (Some left) ms rest = frames input ms (rest ++ left)
IsWhole why input left ms rest = Unit {0}

-- The whole history of tables that began as s, with that count of faults: each entry is a step of the tables; it tells these operations with
-- their replies and no others; its story is a run of the one-thread store; and these are the tables and the count that it leaves.
pub record IsHistory (s : Tables) (faults : ℕ) (h : List Tcall) (left : Tables) (faults' : ℕ) (ds : List Done) : Type 0 where
  pub lawful : legal tstep tables_after s faults h
  pub tells : told s h ds
  pub tale : Story s h ds
  pub leaves : left ≡ replay tables_after s h
  pub counts : faults' ≡ count_after faults h

-- The connection 0 of worker 0 has a script: what came of the input is its messages and a rest; unless the connection was cut off, they are
-- all the messages of the whole input; their answers were written; and the whole history tells the operations of the script.
abbrev pub Headline : Tables → ℕ → List Tcall → Tables → ℕ → Option (List ℕ) → Scene → Why → ℕ → Type 0
Headline s faults h left faults' input new why commands =
    (all : List ℕ) × (script : List Executed) × (rest : List ℕ) × Talk (fresh input) new why commands all script rest
    × IsWhole why input new.left (messages script) rest × IsHistory s faults h left faults' (ops_from 0 0 0 script)

-- the statuses of a connection no call of whose console can fail: its input is answered, cut, bad or too long, or memory ran out
abbrev pub IsSureStatus : ℕ → Type 0
IsSureStatus status = (status ≡ 0) ⊎ (status ≡ 6) ⊎ (status ≡ 7) ⊎ (status ≡ 9) ⊎ (status ≡ 10)

-- over a keeper whose count of faults stays 0 no operation is replied a fault
abbrev pub NoFault : Type 0
NoFault = (s left : Tables) (h : List Tcall) (ds : List Done) → IsHistory s 0 h left 0 ds → Each (λ (d : Done). d.reply ≢ Fault) ds
