-- What answering one message does. Links between contracts; nobody has to read them for the main clause.
use Rattle.std.specs.Prelude.{ℕ, ℤ, ◌≡◌, ◌≤◌, ◌+◌, max, Bool, true, false, ◌&&◌, List, [], ◌∷◌, ◌++◌, length, map, Option, None, Some}
use Rattle.history_lock.specs.declared.entry.Who.{Who}
use Rattle.history_lock.specs.Places.{Each}
use Rattle.bson_values.specs.declared.space.Space.{Space}
use Rattle.op_msg.specs.declared.message.Message.{Message}
use Rattle.op_msg.specs.Reply.{reply}
use Rattle.command_words.specs.declared.command.Command.{Command}
use Rattle.command_words.specs.declared.refused.CommandRefused.{CommandRefused}
use Rattle.command_words.specs.declared.refused.CommandRefused.TheVariants as refused
use Rattle.reply_words.specs.declared.ends.ItemEnd.{ItemEnd}
use Rattle.reply_words.specs.declared.replies.Reply.{Reply}
use Rattle.reply_words.specs.declared.replies.Reply.TheVariants as it
use Rattle.reply_words.specs.Replies.{document_of, items_document, modified_document}
use Rattle.doc_model.specs.declared.op.Op.{Op}
use Rattle.doc_model.specs.declared.op.OpReply.{OpReply}
use Rattle.doc_model.specs.declared.op.OpReply.TheVariants as replied
use Rattle.table_words.specs.Tables.{Tables}
use Rattle.doc_history.specs.Part.{Views, Served}
use Rattle.dispatcher.specs.declared.answers.Answered.{Answered}
use Rattle.dispatcher.specs.declared.answers.Answered.TheVariants.{Whole, NoMemory}
use Rattle.dispatcher.specs.Answers.{ops_in, Stops, Completes, IsOne, end_of, fails, told, one_document, command_document, normal}
use Rattle.doc_model.specs.Step.{Keeps}
use Rattle.dispatcher.specs.Script.{Executed, IsSound, numbered, numbers, ops_from}

-- a message was executed at that moment, and its operations did this at the tables
pub record Dealt (s : Tables) (old new : Views) (who who' : Who) (now : ℕ) (m : Message) (t : Executed) : Type 0 where
  pub message : t.message ≡ m
  pub moment : t.now ≡ now
  pub sound : IsSound t
  pub few : numbers t ≤ 1000
  pub next : who' ≡ record who { op = who.op + numbers t }
  pub served : Served s old new (ops_from who.seat who.link who.op (t ∷ []))

-- the answer to it, where it comes after k replies; or memory was wanting, and the caller tells that
abbrev pub Gave : ℕ → Executed → Answered → Type 0
Gave k t (Whole bytes) = (t.starved ≡ false) × (bytes ≡ normal k t.message t.replies)
Gave k t NoMemory = t.starved ≡ true

-- ---- the steps of it

-- operations, the first of which is `who`, were done with these replies, and so many numbers were taken
pub record Did (s : Tables) (old new : Views) (who who' : Who) (now : ℕ) (ops : List Op) (replies : List OpReply) (count : ℕ) : Type 0 where
  pub next : who' ≡ record who { op = who.op + count }
  pub served : Served s old new (numbered who.seat who.link who.op now ops replies)

-- the bytes that answer a command whose operations are replied so; or memory was wanting, and they left the documents
abbrev pub Told : Command → ℤ → ℤ → List OpReply → Answered → Type 0
Told command number request replies (Whole bytes) =
    Completes command replies × (bytes ≡ reply number request (command_document command replies))
Told command number request replies NoMemory = (length replies ≤ length (ops_in command)) × Each Keeps replies

-- a command was done
pub record DoneBy (s : Tables) (old new : Views) (who who' : Who) (now : ℕ) (number request : ℤ) (command : Command)
    (replies : List OpReply) (answered : Answered) : Type 0 where
  pub did : Did s old new who who' now (ops_in command) replies (max 1 (length replies))
  pub few : length replies ≤ 1000
  pub told : Told command number request replies answered

-- the same of one operation, of whose documents so many go into the first batch
abbrev pub ToldOne : ℕ → Op → ℤ → ℤ → List OpReply → Answered → Type 0
ToldOne most op number request replies (Whole bytes) =
    IsOne replies × (bytes ≡ reply number request (one_document most (op ∷ []) replies))
ToldOne most op number request replies NoMemory = (length replies ≤ 1) × Each Keeps replies

pub record DoneOne (s : Tables) (old new : Views) (who who' : Who) (now : ℕ) (number request : ℤ) (most : ℕ) (op : Op)
    (replies : List OpReply) (answered : Answered) : Type 0 where
  pub did : Did s old new who who' now (op ∷ []) replies (max 1 (length replies))
  pub few : length replies ≤ 1000
  pub told : ToldOne most op number request replies answered

-- the answer to a message that asks for nothing that is done
abbrev pub Refuses : ℤ → ℤ → Option ℕ → CommandRefused → Answered → Type 0
Refuses number request foreign (refused.Refused kind) (Whole bytes) = bytes ≡ reply number request (document_of (it.Error kind foreign))
Refuses number request foreign refused.NoMemory (Whole bytes) = ⊥
Refuses number request foreign why NoMemory = Unit {0}

-- what tells the reply of an operation in that collection, unless memory was wanting
abbrev pub Tellable : ℕ → Space → OpReply → Option Reply → Type 0
Tellable most space replied.NoMemory None = Unit {0}
Tellable most space replied.NoMemory (Some reply) = ⊥
Tellable most space answer (Some reply) = reply ≡ told most space answer
Tellable most space answer None = ⊥

-- the answer to an operation in that collection that reads and was replied so
abbrev pub Reads : ℕ → ℤ → ℤ → Space → OpReply → Answered → Type 0
Reads most number request space replied.NoMemory (Whole bytes) = ⊥
Reads most number request space answer (Whole bytes) = bytes ≡ reply number request (document_of (told most space answer))
Reads most number request space answer NoMemory = Unit {0}

-- the same of an operation that removes the document that it finds, or else changes it
abbrev pub Modifies : ℤ → ℤ → Bool → Space → OpReply → Answered → Type 0
Modifies number request removed space (replied.Modified existed upserted value) (Whole bytes) =
    bytes ≡ reply number request (modified_document removed existed upserted value)
Modifies number request removed space replied.NoMemory (Whole bytes) = ⊥
Modifies number request removed space answer (Whole bytes) = bytes ≡ reply number request (document_of (told 0 space answer))
Modifies number request removed space answer NoMemory = Keeps answer

-- ---- the items of a write

-- the operations so far were all tried, and the write goes on
abbrev pub GoesOn : Bool → List Op → List OpReply → Type 0
GoesOn ordered [] [] = Unit {0}
GoesOn ordered (op ∷ ops) (one ∷ replies) = (ordered && fails (end_of one) ≡ false) × GoesOn ordered ops replies
GoesOn ordered ops replies = ⊥

-- one item was done: its reply, and how it ended; whether it was refused
pub record DidOne (s : Tables) (old new : Views) (who who' : Who) (now : ℕ) (op : Op) (ends ends' : List ItemEnd) (failed : Bool)
    (one : OpReply) : Type 0 where
  pub next : who' ≡ record who { op = who.op + 1 }
  pub served : Served s old new (record { who = who; now = now; op = op; reply = one } ∷ [])
  pub ended : ends' ≡ ends ++ end_of one ∷ []
  pub failed_is : failed ≡ fails (end_of one)

-- the items were done up to here
pub record DidItems (s : Tables) (old new : Views) (who who' : Who) (now : ℕ) (ordered : Bool) (ops : List Op) (ends : List ItemEnd)
    (replies : List OpReply) : Type 0 where
  pub goes : GoesOn ordered ops replies
  pub did : Did s old new who who' now ops replies (length replies)
  pub ended : ends ≡ map end_of replies

-- they were done to the end
pub record DidAll (s : Tables) (old new : Views) (who who' : Who) (now : ℕ) (ordered : Bool) (ops : List Op) (ends : List ItemEnd)
    (replies : List OpReply) : Type 0 where
  pub stops : Stops ordered ops replies
  pub did : Did s old new who who' now ops replies (length replies)
  pub ended : ends ≡ map end_of replies

-- what answers a write whose operations are replied so; or memory was wanting, and they left the documents
abbrev pub ToldAll : Bool → List Op → Bool → ℤ → ℤ → List OpReply → Answered → Type 0
ToldAll update ops ordered number request replies (Whole bytes) =
    Stops ordered ops replies × (bytes ≡ reply number request (items_document update (map end_of replies)))
ToldAll update ops ordered number request replies NoMemory = (length replies ≤ length ops) × Each Keeps replies

pub record DoneAll (s : Tables) (old new : Views) (who who' : Who) (now : ℕ) (number request : ℤ) (update : Bool) (ops : List Op)
    (ordered : Bool) (replies : List OpReply) (answered : Answered) : Type 0 where
  pub did : Did s old new who who' now ops replies (max 1 (length replies))
  pub few : length replies ≤ 1000
  pub told : ToldAll update ops ordered number request replies answered
