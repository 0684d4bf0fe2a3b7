-- One connection: what came, its script, what was written, and what its operations did at the tables.
use Rattle.std.specs.Prelude.{ℕ, ◌≡◌, List, length, take, Option}
use Rattle.outside.specs.Told.{Grows, Shrinks}
use Rattle.outside.specs.Causes.{Rose}
use Rattle.history_lock.specs.Places.{Each}
use Rattle.op_msg.specs.declared.message.Message.{Message}
use Rattle.op_msg.specs.Stream.{in_order, frames}
use Rattle.table_words.specs.Tables.{Tables}
use Rattle.doc_history.specs.Part.{Views, Served}
use Rattle.dispatcher.specs.Script.{Executed, messages, moments, ops_from, IsSound, bytes_of}
use Rattle.doc_server.specs.declared.why.Why.{Why}
use Rattle.doc_server.specs.declared.why.Why.TheVariants.{ReadFault, WriteFault, NoMemory}

-- all of it was written, or a front of it where a write failed
abbrev pub Wrote : Why → Option (List ℕ) → Option (List ℕ) → List ℕ → Type 0
Wrote WriteFault old new all = (sent : ℕ) × Grows old new (take sent all)
Wrote why old new all = Grows old new all

-- what came is these messages in order, then a rest, which no message begins unless a write failed or memory ran out
abbrev pub Framed : Why → List ℕ → List Message → List ℕ → Type 0
Framed WriteFault all ms rest = in_order all ms rest
Framed NoMemory all ms rest = in_order all ms rest
Framed why all ms rest = frames all ms rest

-- a fault is told exactly where a call of its kind failed, and no call of the other kind did
abbrev pub Faults : Why → ℕ → ℕ → ℕ → ℕ → Type 0
Faults ReadFault reads reads' writes writes' = Rose reads reads' × (writes' ≡ writes)
Faults WriteFault reads reads' writes writes' = (reads' ≡ reads) × Rose writes writes'
Faults why reads reads' writes writes' = (reads' ≡ reads) × (writes' ≡ writes)

-- what a link tells at one moment: its bytes, and the moments of its clock
pub record Scene : Type 0 where
  pub took : Option (List ℕ)
  pub left : Option (List ℕ)
  pub wrote : Option (List ℕ)
  pub moments : Option (List ℕ)

abbrev pub scene : Option (List ℕ) → Option (List ℕ) → Option (List ℕ) → Option (List ℕ) → Scene
scene took left wrote moments = record { took = took; left = left; wrote = wrote; moments = moments }

-- A connection from where it began to where it stands: these bytes came, of what was left; they are the messages of the script and a rest;
-- their answers were written, and their moments given.
pub record Talk (old new : Scene) (why : Why) (commands : ℕ) (all : List ℕ) (script : List Executed) (rest : List ℕ) : Type 0 where
  pub taken : Grows old.took new.took all
  pub came : Shrinks old.left new.left all
  pub order : Framed why all (messages script) rest
  pub written : Wrote why old.wrote new.wrote (bytes_of script)
  pub timed : Grows old.moments new.moments (moments script)
  pub count : commands ≡ length script
  pub sound : Each IsSound script

-- The connection of that seat and number, over tables that began as s: some script, whose operations made the seat's places in the history.
abbrev pub Talks : Tables → ℕ → ℕ → Scene → Scene → Views → Views → Why → ℕ → Type 0
Talks s seat number old new before after why commands =
    (all : List ℕ) × (script : List Executed) × (rest : List ℕ)
    × Talk old new why commands all script rest × Served s before after (ops_from seat number 0 script)
