-- The script of a connection: its executed messages, what was free in answering them, and what is written for them.
use Rattle.std.specs.Prelude.{ℕ, ◌≤◌, ◌+◌, max, Bool, if◌then◌else◌, List, [], ◌∷◌, ◌++◌, length, map}
use Rattle.std.specs.Bool.{MatchBool}
use Rattle.history_lock.specs.Places.{Each}
use Rattle.op_msg.specs.declared.message.Message.{Message}
use Rattle.doc_model.specs.declared.op.Op.{Op}
use Rattle.doc_model.specs.declared.op.OpReply.{OpReply}
use Rattle.doc_model.specs.Run.{Done}
use Rattle.doc_model.specs.Step.{Keeps}
use Rattle.dispatcher.specs.Answers.{ops_of, IsComplete, normal, no_memory}

-- one executed message, and what was free in answering it: its moment, the replies to its operations, and whether memory was wanting
pub record Executed : Type 0 where
  pub message : Message
  pub now : ℕ
  pub replies : List OpReply
  pub starved : Bool

abbrev pub messages : List Executed → List Message
messages ts = map (λ (t : Executed). t.message) ts

abbrev pub moments : List Executed → List ℕ
moments ts = map (λ (t : Executed). t.now) ts

-- where memory was wanting, its operations left the documents; else they are all replied
abbrev pub IsSound : Executed → Type 0
IsSound t =
    MatchBool t.starved ((length t.replies ≤ length (ops_of t.message)) × Each Keeps t.replies) (IsComplete t.message t.replies)

-- operations with their replies, numbered from n on
abbrev pub numbered : ℕ → ℕ → ℕ → ℕ → List Op → List OpReply → List Done
numbered seat link n now (op ∷ ops) (reply ∷ replies) =
    record { who = record { seat = seat; link = link; op = n }; now = now; op = op; reply = reply } ∷ numbered seat link
    (n + 1) now ops replies
numbered seat link n now ops replies = []

-- how many numbers a message takes: one for each operation that was tried, and at least one
abbrev pub numbers : Executed → ℕ
numbers t = max 1 (length t.replies)

-- the operations of a script
abbrev pub ops_from : ℕ → ℕ → ℕ → List Executed → List Done
ops_from seat link n [] = []
ops_from seat link n (t ∷ ts) =
    numbered seat link n t.now (ops_of t.message) t.replies ++ ops_from seat link (n + numbers t) ts

-- what is written for a message that comes after k replies
abbrev pub answer : ℕ → Executed → List ℕ
answer k t = if t.starved then no_memory k t.message.request else normal k t.message t.replies

abbrev pub bytes_from : ℕ → List Executed → List ℕ
bytes_from k [] = []
bytes_from k (t ∷ ts) = answer k t ++ bytes_from (k + 1) ts

abbrev pub bytes_of : List Executed → List ℕ
bytes_of = bytes_from 0
