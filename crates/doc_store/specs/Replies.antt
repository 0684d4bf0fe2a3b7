-- What an operation is replied, by the reply of its one call. Links between contracts; nobody has to read them for the main clause.
use Rattle.std.specs.Prelude.{◌≡◌, List, [], Option, Some, None}
use Rattle.filter_syntax.specs.declared.filter.Filter.{Filter}
use Rattle.doc_effects.specs.Deeds.{op_done}
use Rattle.doc_effects.specs.Replies.{Answers, answer_to, op_of}
use Rattle.doc_effects.specs.Rows.{AreSound}
use Rattle.doc_effects.specs.declared.aims.Aim.{Aim}
use Rattle.doc_history.specs.Docs.{docs_in_rows}
use Rattle.doc_model.specs.declared.op.Op.{Op}
use Rattle.doc_model.specs.declared.op.Op.TheVariants as op
use Rattle.doc_model.specs.declared.op.OpReply.{OpReply}
use Rattle.doc_model.specs.declared.op.OpReply.TheVariants.{Refused, Fault, NoMemory}
use Rattle.doc_model.specs.Step.{matching}
use Rattle.doc_store.specs.declared.operation.Asked.{Asked}
use Rattle.doc_store.specs.declared.operation.Asked.TheVariants as asked
use Rattle.table_rows.specs.declared.row.Row.{Row}
use Rattle.table_words.specs.declared.call.TableReply.{TableReply}
use Rattle.table_words.specs.declared.call.TableReply.TheVariants as reply

-- of one that adds a row, and is replied so where it is added
abbrev pub added_reply : OpReply → TableReply → OpReply
added_reply answer (reply.Inserted table stamp) = answer
added_reply answer reply.Duplicate = Refused 31
added_reply answer reply.Full = Refused 34
added_reply answer reply.Spent = Refused 33
added_reply answer reply.Fault = Fault
added_reply answer r = NoMemory

-- the rows of a Select, none where the table is absent; nothing, where memory was wanting
abbrev pub rows_of : TableReply → Option (List Row)
rows_of (reply.Rows table stamp rows) = Some rows
rows_of reply.Absent = Some []
rows_of r = None

abbrev pub op_asked : Asked → Op
op_asked (asked.Insert space doc) = op.Insert space doc
op_asked (asked.Change space it deed) = op_done deed space it
op_asked (asked.Read space it aim) = op_of aim space it

-- by the rows of its Select: the documents that the filter holds of are told, or want of memory
abbrev pub Reads : Aim → Filter → Option (List Row) → OpReply → Type 0
Reads it by (Some rows) answer = Answers answer (answer_to it (matching by (docs_in_rows rows)))
Reads it by None answer = answer ≡ NoMemory

-- the rows that came are sound
abbrev pub AreComing : Option (List Row) → Type 0
AreComing (Some rows) = AreSound rows
AreComing None = Unit {0}
