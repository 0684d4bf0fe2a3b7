-- What each message is answered whose operations are replied so.
use Rattle.std.specs.Prelude.{ℕ, ℤ, pos, ◌≡◌, ◌+◌, ◌%◌, ◌^◌, Bool, true, false, ◌&&◌, if◌then◌else◌, List, [], ◌∷◌, map}
use Rattle.std.specs.Prelude.{Option, None, Some, option_map, is_some, MatchOption}
use Rattle.std.specs.Bool.{MatchBool}
use Rattle.bson_values.specs.declared.space.Space.{Space}
use Rattle.bson_wire.specs.declared.foreign.Foreign.{Foreign}
use Rattle.filter_syntax.specs.Meaning.{Doc}
use Rattle.op_msg.specs.declared.message.Message.{Message}
use Rattle.op_msg.specs.Reply.{reply}
use Rattle.doc_model.specs.declared.op.Modify.TheVariants.{Remove}
use Rattle.doc_model.specs.declared.op.Op.{Op}
use Rattle.doc_model.specs.declared.op.Op.TheVariants as asked
use Rattle.doc_model.specs.declared.op.OpReply.{OpReply}
use Rattle.doc_model.specs.declared.op.OpReply.TheVariants as replied
use Rattle.doc_model.specs.Named.{space_of}
use Rattle.command_words.specs.declared.command.Command.{Command}
use Rattle.command_words.specs.declared.command.Command.TheVariants.{Ping, Insert, Update, Delete, FindAndModify, Find, Count, Distinct}
use Rattle.command_words.specs.Refusal.{refusal}
use Rattle.command_words.specs.Meaning.{command_of}
use Rattle.reply_words.specs.declared.ends.ItemEnd.{ItemEnd}
use Rattle.reply_words.specs.declared.ends.ItemEnd.TheVariants as ended
use Rattle.reply_words.specs.declared.replies.Reply.{Reply}
use Rattle.reply_words.specs.declared.replies.Reply.TheVariants as it
use Rattle.reply_words.specs.Replies.{document_of, items_document, modified_document, fit_a_batch}

-- ---- the operations of a message, and their replies

-- the operations of a command
abbrev pub ops_in : Command → List Op
ops_in Ping = []
ops_in (Insert ops ordered) = ops
ops_in (Update ops ordered) = ops
ops_in (Delete ops ordered) = ops
ops_in (FindAndModify op) = op ∷ []
ops_in (Find op most) = op ∷ []
ops_in (Count op) = op ∷ []
ops_in (Distinct op) = op ∷ []

-- the operations of a message; a refused one has none
unfoldable pub ops_of : Message → List Op
ops_of m = if is_some (refusal m) then [] else ops_in (command_of m)

-- how an item of a write ended: an upsert inserts one where none matched; a fault is kind 1, and want of memory kind 24
abbrev pub end_of : OpReply → ItemEnd
end_of replied.Inserted = ended.Done 1 0 None
end_of (replied.Updated matched changed None) = ended.Done matched changed None
end_of (replied.Updated matched changed (Some id)) = ended.Done 1 changed (Some id)
end_of (replied.Deleted n) = ended.Done n 0 None
end_of (replied.Refused kind) = ended.Refused kind
end_of replied.NoMemory = ended.Refused 24
end_of reply = ended.Refused 1

abbrev pub fails : ItemEnd → Bool
fails (ended.Done n changed upserted) = false
fails (ended.Refused kind) = true

-- each operation of a write has a reply, but that an ordered one stops after its first error
abbrev pub Stops : Bool → List Op → List OpReply → Type 0
Stops ordered [] [] = Unit {0}
Stops ordered (op ∷ ops) (one ∷ replies) = MatchBool (ordered && fails (end_of one)) (replies ≡ []) (Stops ordered ops replies)
Stops ordered ops replies = ⊥

-- one operation is replied; want of memory is answered otherwise
abbrev pub IsOne : List OpReply → Type 0
IsOne (replied.NoMemory ∷ []) = ⊥
IsOne (one ∷ []) = Unit {0}
IsOne replies = ⊥

-- the operations of a command that was answered are replied so
abbrev pub Completes : Command → List OpReply → Type 0
Completes Ping replies = replies ≡ []
Completes (Insert ops ordered) replies = Stops ordered ops replies
Completes (Update ops ordered) replies = Stops ordered ops replies
Completes (Delete ops ordered) replies = Stops ordered ops replies
Completes command replies = IsOne replies

unfoldable pub IsComplete : Message → List OpReply → Type 0
IsComplete m replies = MatchOption (refusal m) (Completes (command_of m) replies) (λ kind. replies ≡ [])

-- ---- the document that tells them

-- what tells the reply of an operation in that collection; documents that do not go into the first batch are refused so far
abbrev pub told : ℕ → Space → OpReply → Reply
told most space (replied.Selected docs) = if fit_a_batch most docs then it.Batch space docs else it.Error 29 None
told most space (replied.Counted n) = it.Counted n
told most space (replied.Values values) = it.Values values
told most space (replied.Refused kind) = it.Error kind None
told most space reply = it.Error 1 None

-- the operation is to remove the document that it finds
abbrev pub removes : Op → Bool
removes (asked.FindAndModify space it order Remove fresh upsert shape) = true
removes op = false

abbrev pub op_document : ℕ → Op → OpReply → Doc
op_document most op (replied.Modified existed upserted value) = modified_document (removes op) existed upserted value
op_document most op reply = document_of (told most (space_of op) reply)

abbrev pub one_document : ℕ → List Op → List OpReply → Doc
one_document most (op ∷ []) (one ∷ []) = op_document most op one
one_document most ops replies = document_of it.Done

-- the most documents of the first batch; a command that is no find shows none
abbrev pub batch_of : Command → ℕ
batch_of (Find op most) = most
batch_of command = 0

abbrev pub command_document : Command → List OpReply → Doc
command_document (Insert ops ordered) replies = items_document false (map end_of replies)
command_document (Update ops ordered) replies = items_document true (map end_of replies)
command_document (Delete ops ordered) replies = items_document false (map end_of replies)
command_document command replies = one_document (batch_of command) (ops_in command) replies

-- a refused message is answered with its refusal
abbrev pub document_by : Option ℕ → Option Foreign → Command → List OpReply → Doc
document_by (Some kind) foreign command replies = document_of (it.Error kind (option_map (λ (element : Foreign). element.code) foreign))
document_by None foreign command replies = command_document command replies

-- the requestID of the reply that comes after k replies
abbrev pub number_after : ℕ → ℤ
number_after k = pos ((k + 1) % 2 ^ 31)

-- the bytes of the reply to a message that comes after k replies
unfoldable pub normal : ℕ → Message → List OpReply → List ℕ
normal k m replies = reply (number_after k) m.request (document_by (refusal m) m.foreign (command_of m) replies)

-- and of that which tells that memory was wanting, to a message with that requestID
unfoldable pub no_memory : ℕ → ℤ → List ℕ
no_memory k request = reply (number_after k) request (document_of (it.Error 24 None))
