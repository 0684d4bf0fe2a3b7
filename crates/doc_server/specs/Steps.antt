-- What one step of a conversation does. Links between contracts; nobody has to read them for the main clause.
use Rattle.std.specs.Prelude.{ℕ, ◌≡◌, ◌≢◌, ◌+◌, ◌≤◌, ◌<◌, List, [], ◌∷◌, ◌++◌, length, take, Option, Result, Ok, Err}
use Rattle.outside.specs.Told.{Grows, Shrinks, Tells}
use Rattle.history_lock.specs.declared.entry.Who.{Who}
use Rattle.op_msg.specs.declared.message.Message.{Message}
use Rattle.table_words.specs.Tables.{Tables}
use Rattle.doc_history.specs.Part.{Views}
use Rattle.dispatcher.specs.Script.{Executed, answer}
use Rattle.dispatcher.specs.Answering.{Dealt}
use Rattle.doc_server.specs.Talk.{Scene}
use Rattle.doc_server.specs.Ending.{MOST_READ}
use Rattle.doc_server.specs.declared.serve.Replied.{Replied}
use Rattle.doc_server.specs.declared.serve.Replied.TheVariants as replied
use Rattle.doc_server.specs.declared.why.Why.{Why}
use Rattle.doc_server.specs.declared.why.Why.TheVariants as why

-- these bytes were written, or a front of them where a write failed
abbrev pub Sends : Replied → Option (List ℕ) → Option (List ℕ) → List ℕ → Type 0
Sends replied.Sent old new bytes = Grows old new bytes
Sends replied.WriteFault old new bytes = (sent : ℕ) × Grows old new (take sent bytes)

-- a message that comes after k replies was executed, and its answer went out so
pub record Answers (s : Tables) (r : Replied) (m : Message) (k : ℕ) (old new : Scene) (before after : Views) (who who' : Who) : Type 0 where
  pub done : Executed
  pub timed : Grows old.moments new.moments (done.now ∷ [])
  pub dealt : Dealt s before after who who' done.now m done
  pub sends : Sends r old.wrote new.wrote (answer k done)

-- how the input ends in a fetch: with `count` bytes before it, `buffer` those that are not used, `piece` those that came, `left` the others
abbrev pub Stops : Why → ℕ → List ℕ → List ℕ → Option (List ℕ) → Type 0
Stops why.Closed count buffer piece left = (piece ≡ []) × (buffer ≡ []) × (count < MOST_READ) × Tells left []
Stops (why.Truncated size) count buffer piece left =
    (piece ≡ []) × (size ≡ length buffer) × (buffer ≢ []) × (count < MOST_READ) × Tells left []
Stops why.ReadFault count buffer piece left = (piece ≡ []) × (count < MOST_READ)
Stops why.Long count buffer piece left = (piece ≡ []) × (count ≡ MOST_READ)
Stops why.NoMemory count buffer piece left = Unit {0}
Stops _ count buffer piece left = ⊥

-- a piece came and was kept, or the input ends
abbrev pub Fetches : Result ℕ Why → List ℕ → ℕ → List ℕ → List ℕ → Option (List ℕ) → Type 0
Fetches (Ok came) piece count buffer buffer' left = (length piece ≡ came) × (0 < came) × (count + came ≤ MOST_READ)
    × (buffer' ≡ buffer ++ piece)
Fetches (Err end) piece count buffer buffer' left = Stops end count buffer piece left

-- a link gave a piece, and took nothing
pub record Moves (old new : Scene) (piece : List ℕ) : Type 0 where
  pub taken : Grows old.took new.took piece
  pub came : Shrinks old.left new.left piece
  pub written : new.wrote ≡ old.wrote
  pub moments : new.moments ≡ old.moments

-- the end that a step tells, as far as faults go
abbrev pub end_of : Result ℕ Why → Why
end_of (Ok came) = why.Closed
end_of (Err end) = end

abbrev pub fault_of : Replied → Why
fault_of replied.Sent = why.Closed
fault_of replied.WriteFault = why.WriteFault
