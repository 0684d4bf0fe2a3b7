-- An insert, an update or a delete, and what it is answered.
use Rattle.std.proofs.Common.{◌≡◌, ℕ, ℤ, ◌+◌, ◌≤◌, Bool, true, false, List, [], length, max, refl, ap, sym, ◌∙◌, subst, arith}
use Rattle.history_lock.specs.declared.entry.Who.{Who}
use Rattle.table_words.specs.Tables.{Tables}
use Rattle.op_msg.specs.Reply.{reply}
use Rattle.command_words.specs.declared.command.Command.TheVariants as command
use Rattle.doc_model.specs.declared.op.Op.{Op}
use Rattle.doc_model.specs.declared.op.OpReply.{OpReply}
use Rattle.doc_history.specs.Part.{Views, Served}
use Rattle.doc_history.proofs.Going.{served_none}
use Rattle.reply_words.specs.declared.ends.ItemEnd.{ItemEnd}
use Rattle.reply_words.specs.Replies.{items_document}
use Rattle.reply_words.specs.Small.{most_items_size}
use Rattle.dispatcher.specs.declared.answers.Answered.{Answered}
use Rattle.dispatcher.specs.declared.answers.Answered.TheVariants.{Whole, NoMemory}
use Rattle.dispatcher.specs.Answering.{DidAll, DoneAll, DoneBy, Told, ToldAll}
use Rattle.dispatcher.proofs.Items.{stops-few, stops-some}
use Rattle.dispatcher.proofs.Numbered.{numbered-none}

-- nothing was asked of the tables
pub write-starved : (s : Tables) (v : Views) (who : Who) (now : ℕ) (number request : ℤ) (update : Bool) (ops : List Op) (ordered : Bool)
    → DoneAll s v v who (record who { op = who.op + 1 }) now number request update ops ordered [] NoMemory
write-starved s v who now number request update ops ordered = record {
  did = record {
    next = refl;
    served = subst (Served s v v) (sym (numbered-none who.seat who.link who.op now ops)) (served_none s v);
  };
  few = omega arith;
  told = (omega arith, tt);
}

most-rises : (update : Bool) (few many : ℕ) → few ≤ many → most_items_size update few ≤ most_items_size update many
most-rises false few many less = omega (arith, less)
most-rises true few many less = omega (arith, less)

-- what tells so many ends finds the room that was made for so many operations
pub room-enough : (update : Bool) (ends ops items size written : ℕ) → ends ≤ ops → written ≤ most_items_size update ends → items ≡ ops
    → size ≡ most_items_size update items → written ≤ size
room-enough update ends ops items size written few short all is =
    omega (arith, most-rises update ends ops few, short, is, ap (most_items_size update) all)

at-least : (n : ℕ) → 1 ≤ n → max 1 n ≡ n
at-least n some = omega (arith, some)

-- the items were done, and their ends are told
pub write-done : (s : Tables) (old new : Views) (who who' : Who) (now : ℕ) (number request : ℤ) (update : Bool) (ops : List Op)
    (ordered : Bool) (ends shown : List ItemEnd) (bytes : List ℕ) (replies : List OpReply)
    → DidAll s old new who who' now ordered ops ends replies → 1 ≤ length ops → length ops ≤ 1000 → shown ≡ ends
    → bytes ≡ reply number request (items_document update shown)
    → DoneAll s old new who who' now number request update ops ordered replies (Whole bytes)
write-done s old new who who' now number request update ops ordered ends shown bytes replies did some few same told =
    let count : length replies ≡ max 1 (length replies) = sym (at-least (length replies) (stops-some ordered ops replies did.stops some)) in
    record {
      did = record { next = did.did.next ∙ ap (λ k. record who { op = who.op + k }) count; served = did.did.served };
      few = omega (arith, few, stops-few ordered ops replies did.stops);
      told = (did.stops, told ∙ ap (λ es. reply number request (items_document update es)) (same ∙ did.ended));
    }

-- ---- the commands that are items

module _ (number request : ℤ) (ops : List Op) (ordered : Bool) (replies : List OpReply) where
  told-insert : (a : Answered) → ToldAll false ops ordered number request replies a
      → Told (command.Insert ops ordered) number request replies a
  told-insert (Whole bytes) is = is
  told-insert NoMemory is = is

  told-update : (a : Answered) → ToldAll true ops ordered number request replies a
      → Told (command.Update ops ordered) number request replies a
  told-update (Whole bytes) is = is
  told-update NoMemory is = is

  told-delete : (a : Answered) → ToldAll false ops ordered number request replies a
      → Told (command.Delete ops ordered) number request replies a
  told-delete (Whole bytes) is = is
  told-delete NoMemory is = is

module _ {s : Tables} {old new : Views} {who who' : Who} {now : ℕ} {number request : ℤ} {ops : List Op} {ordered : Bool}
    {replies : List OpReply} {a : Answered} where
  pub done-insert : DoneAll s old new who who' now number request false ops ordered replies a
      → DoneBy s old new who who' now number request (command.Insert ops ordered) replies a
  done-insert by = record { did = by.did; few = by.few; told = told-insert number request ops ordered replies a by.told }

  pub done-update : DoneAll s old new who who' now number request true ops ordered replies a
      → DoneBy s old new who who' now number request (command.Update ops ordered) replies a
  done-update by = record { did = by.did; few = by.few; told = told-update number request ops ordered replies a by.told }

  pub done-delete : DoneAll s old new who who' now number request false ops ordered replies a
      → DoneBy s old new who who' now number request (command.Delete ops ordered) replies a
  done-delete by = record { did = by.did; few = by.few; told = told-delete number request ops ordered replies a by.told }

-- no operations
pub nothing-done : (s : Tables) (v : Views) (who who' : Who) (now : ℕ) (number request : ℤ) (a : _)
    → who' ≡ record who { op = who.op + 1 } → Told command.Ping number request [] a
    → DoneBy s v v who who' now number request command.Ping [] a
nothing-done s v who who' now number request a next told = record {
  did = record { next = next; served = served_none s v };
  few = omega arith;
  told = told;
}
