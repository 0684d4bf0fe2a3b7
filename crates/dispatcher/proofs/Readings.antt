-- A command that is one operation, and what it is answered.
use Rattle.std.proofs.Common.{ℕ, ℤ, ◌+◌, List, [], ◌∷◌, refl, arith}
use Rattle.history_lock.specs.declared.entry.Who.{Who}
use Rattle.table_words.specs.Tables.{Tables}
use Rattle.command_words.specs.declared.command.Command.TheVariants as command
use Rattle.doc_model.specs.declared.op.Op.{Op}
use Rattle.doc_model.specs.declared.op.OpReply.{OpReply}
use Rattle.doc_model.specs.declared.op.OpReply.TheVariants as replied
use Rattle.doc_model.specs.Named.{space_of}
use Rattle.doc_model.specs.Step.{Keeps}
use Rattle.doc_history.specs.Part.{Views, Served}
use Rattle.doc_history.proofs.Going.{served_none}
use Rattle.dispatcher.specs.declared.answers.Answered.{Answered}
use Rattle.dispatcher.specs.declared.answers.Answered.TheVariants.{Whole, NoMemory}
use Rattle.dispatcher.specs.Answers.{removes}
use Rattle.dispatcher.specs.Answering.{DoneBy, DoneOne, Modifies, Reads, Told, ToldOne}

-- nothing was asked of the tables
pub read-starved : (s : Tables) (v : Views) (who : Who) (now : ℕ) (number request : ℤ) (most : ℕ) (op : Op)
    → DoneOne s v v who (record who { op = who.op + 1 }) now number request most op [] NoMemory
read-starved s v who now number request most op = record {
  did = record { next = refl; served = served_none s v };
  few = omega arith;
  told = (omega arith, tt);
}

read-told : (number request : ℤ) (most : ℕ) (op : Op) (reply : OpReply) (a : Answered) → Keeps reply
    → Reads most number request (space_of op) reply a → ToldOne most op number request (reply ∷ []) a
read-told number request most op replied.NoMemory (Whole bytes) keeps is = absurd is
read-told number request most op (replied.Selected docs) (Whole bytes) keeps is = (tt, is)
read-told number request most op (replied.Counted n) (Whole bytes) keeps is = (tt, is)
read-told number request most op (replied.Values values) (Whole bytes) keeps is = (tt, is)
read-told number request most op (replied.Refused kind) (Whole bytes) keeps is = (tt, is)
read-told number request most op replied.Fault (Whole bytes) keeps is = (tt, is)
read-told number request most op replied.Inserted (Whole bytes) keeps is = absurd keeps
read-told number request most op (replied.Updated matched changed upserted) (Whole bytes) keeps is = absurd keeps
read-told number request most op (replied.Deleted n) (Whole bytes) keeps is = absurd keeps
read-told number request most op (replied.Modified existed upserted value) (Whole bytes) keeps is = absurd keeps
read-told number request most op reply NoMemory keeps is = (omega arith, (keeps, tt))

-- one operation was served
pub read-done : (s : Tables) (old new : Views) (who : Who) (now : ℕ) (number request : ℤ) (most : ℕ) (op : Op) (reply : OpReply)
    (a : Answered)
    → Served s old new (record { who = who; now = now; op = op; reply = reply } ∷ []) → Keeps reply
    → Reads most number request (space_of op) reply a
    → DoneOne s old new who (record who { op = who.op + 1 }) now number request most op (reply ∷ []) a
read-done s old new who now number request most op reply a served keeps is = record {
  did = record { next = refl; served = served };
  few = omega arith;
  told = read-told number request most op reply a keeps is;
}

-- ---- one that removes or changes a document

change-told : (number request : ℤ) (op : Op) (reply : OpReply) (a : Answered) → Modifies number request (removes op) (space_of op) reply a
    → ToldOne 0 op number request (reply ∷ []) a
change-told number request op replied.NoMemory (Whole bytes) is = absurd is
change-told number request op (replied.Modified existed upserted value) (Whole bytes) is = (tt, is)
change-told number request op replied.Inserted (Whole bytes) is = (tt, is)
change-told number request op (replied.Updated matched changed upserted) (Whole bytes) is = (tt, is)
change-told number request op (replied.Deleted n) (Whole bytes) is = (tt, is)
change-told number request op (replied.Selected docs) (Whole bytes) is = (tt, is)
change-told number request op (replied.Counted n) (Whole bytes) is = (tt, is)
change-told number request op (replied.Values values) (Whole bytes) is = (tt, is)
change-told number request op (replied.Refused kind) (Whole bytes) is = (tt, is)
change-told number request op replied.Fault (Whole bytes) is = (tt, is)
change-told number request op replied.NoMemory NoMemory is = (omega arith, (tt, tt))
change-told number request op (replied.Selected docs) NoMemory is = (omega arith, (tt, tt))
change-told number request op (replied.Counted n) NoMemory is = (omega arith, (tt, tt))
change-told number request op (replied.Values values) NoMemory is = (omega arith, (tt, tt))
change-told number request op (replied.Refused kind) NoMemory is = (omega arith, (tt, tt))
change-told number request op replied.Fault NoMemory is = (omega arith, (tt, tt))
change-told number request op replied.Inserted NoMemory is = absurd is
change-told number request op (replied.Updated matched changed upserted) NoMemory is = absurd is
change-told number request op (replied.Deleted n) NoMemory is = absurd is
change-told number request op (replied.Modified existed upserted value) NoMemory is = absurd is

pub change-done : (s : Tables) (old new : Views) (who : Who) (now : ℕ) (number request : ℤ) (op : Op) (reply : OpReply) (a : Answered)
    → Served s old new (record { who = who; now = now; op = op; reply = reply } ∷ [])
    → Modifies number request (removes op) (space_of op) reply a
    → DoneOne s old new who (record who { op = who.op + 1 }) now number request 0 op (reply ∷ []) a
change-done s old new who now number request op reply a served is = record {
  did = record { next = refl; served = served };
  few = omega arith;
  told = change-told number request op reply a is;
}

-- ---- the commands that are one operation

module _ (number request : ℤ) (op : Op) (replies : List OpReply) where
  told-change : (a : Answered) → ToldOne 0 op number request replies a → Told (command.FindAndModify op) number request replies a
  told-change (Whole bytes) is = is
  told-change NoMemory is = is

  told-find : (most : ℕ) (a : Answered) → ToldOne most op number request replies a
      → Told (command.Find op most) number request replies a
  told-find most (Whole bytes) is = is
  told-find most NoMemory is = is

  told-count : (a : Answered) → ToldOne 0 op number request replies a → Told (command.Count op) number request replies a
  told-count (Whole bytes) is = is
  told-count NoMemory is = is

  told-distinct : (a : Answered) → ToldOne 0 op number request replies a → Told (command.Distinct op) number request replies a
  told-distinct (Whole bytes) is = is
  told-distinct NoMemory is = is

module _ {s : Tables} {old new : Views} {who who' : Who} {now : ℕ} {number request : ℤ} {op : Op} {replies : List OpReply}
    {a : Answered} where
  pub done-find : {most : ℕ} → DoneOne s old new who who' now number request most op replies a
      → DoneBy s old new who who' now number request (command.Find op most) replies a
  done-find by = record { did = by.did; few = by.few; told = told-find number request op replies _ a by.told }

  pub done-change : DoneOne s old new who who' now number request 0 op replies a
      → DoneBy s old new who who' now number request (command.FindAndModify op) replies a
  done-change by = record { did = by.did; few = by.few; told = told-change number request op replies a by.told }

  pub done-count : DoneOne s old new who who' now number request 0 op replies a
      → DoneBy s old new who who' now number request (command.Count op) replies a
  done-count by = record { did = by.did; few = by.few; told = told-count number request op replies a by.told }

  pub done-distinct : DoneOne s old new who who' now number request 0 op replies a
      → DoneBy s old new who who' now number request (command.Distinct op) replies a
  done-distinct by = record { did = by.did; few = by.few; told = told-distinct number request op replies a by.told }
