-- One message, executed.
use Rattle.std.proofs.Common.{◌≡◌, ℕ, ◌+◌, ◌≤◌, max, Bool, true, false, List, [], length, Option, None, Some}
use Rattle.std.proofs.Common.{refl, ap, sym, ◌∙◌, subst, arith}
use Rattle.std.specs.Prelude.{MatchOption, option_map}
use Rattle.history_lock.specs.declared.entry.Who.{Who}
use Rattle.bson_wire.specs.declared.foreign.Foreign.{Foreign}
use Rattle.op_msg.specs.declared.message.Message.{Message}
use Rattle.op_msg.specs.Reply.{reply}
use Rattle.command_words.specs.declared.command.Command.{Command}
use Rattle.command_words.specs.declared.refused.CommandRefused.{CommandRefused}
use Rattle.command_words.specs.declared.refused.CommandRefused.TheVariants as refused
use Rattle.command_words.specs.Meaning.{command_of}
use Rattle.command_words.specs.Refusal.{refusal, Tells}
use Rattle.reply_words.specs.declared.replies.Reply.TheVariants as it
use Rattle.reply_words.specs.Replies.{document_of}
use Rattle.table_words.specs.Tables.{Tables}
use Rattle.doc_model.specs.declared.op.Op.{Op}
use Rattle.doc_model.specs.declared.op.OpReply.{OpReply}
use Rattle.doc_history.specs.Part.{Views, Served}
use Rattle.doc_history.proofs.Going.{served_none}
use Rattle.dispatcher.specs.declared.answers.Answered.{Answered}
use Rattle.dispatcher.specs.declared.answers.Answered.TheVariants.{Whole, NoMemory}
use Rattle.dispatcher.specs.Answers.{ops_in, ops_of, Completes, IsComplete, command_document, document_by, number_after, normal}
use Rattle.dispatcher.specs.Answering.{Dealt, Gave, Did, DoneBy, Refuses}
use Rattle.dispatcher.specs.Script.{Executed, IsSound, numbered}
use Rattle.dispatcher.proofs.Numbered.{append-nil, numbered-none}

-- an accepted message has the operations of its command
ops-accepted : (m : Message) (command : Command) → refusal m ≡ None → command ≡ command_of m → ops_of m ≡ ops_in command
unfolding ops_of
ops-accepted m command none is = rw none (ap ops_in (sym is))

complete-accepted : (m : Message) (command : Command) (rs : List OpReply) → refusal m ≡ None → command ≡ command_of m
    → Completes command rs → IsComplete m rs
unfolding IsComplete
complete-accepted m command rs none is all = subst (λ r. MatchOption r (Completes (command_of m) rs) (λ (kind : ℕ). rs ≡ [])) (sym none) (subst (λ c. Completes c rs) is all)

normal-accepted : (k : ℕ) (m : Message) (command : Command) (rs : List OpReply) → refusal m ≡ None → command ≡ command_of m
    → reply (number_after k) m.request (command_document command rs) ≡ normal k m rs
unfolding normal
normal-accepted k m command rs none is =
    ap (λ c. reply (number_after k) m.request (command_document c rs)) is
    ∙ ap (λ r. reply (number_after k) m.request (document_by r m.foreign (command_of m) rs)) (sym none)

module _ (s : Tables) (old new : Views) (who who' : Who) (now k : ℕ) (m : Message) where
  abbrev one : List OpReply → Bool → Executed
  one rs starved = record { message = m; now = now; replies = rs; starved = starved }

  from-did : (rs : List OpReply) (starved : Bool) (ops : List Op) → ops_of m ≡ ops → IsSound (one rs starved) → length rs ≤ 1000
      → Did s old new who who' now ops rs (max 1 (length rs)) → Dealt s old new who who' now m (one rs starved)
  from-did rs starved ops are sound few did = record {
    message = refl;
    moment = refl;
    sound = sound;
    few = omega (arith, few);
    next = did.next;
    served = subst (Served s old new) (sym (append-nil (numbered who.seat who.link who.op now (ops_of m) rs)
        ∙ ap (λ os. numbered who.seat who.link who.op now os rs) are)) did.served;
  }

  pub accepted : (command : Command) (rs : List OpReply) (a : Answered) → refusal m ≡ None → command ≡ command_of m
      → DoneBy s old new who who' now (number_after k) m.request command rs a
      → (t : Executed) × Dealt s old new who who' now m t × Gave k t a
  accepted command rs (Whole bytes) none is by = (
    one rs false,
    from-did rs false (ops_in command) (ops-accepted m command none is) (complete-accepted m command rs none is by.told.0) by.few by.did,
    (refl, by.told.1 ∙ normal-accepted k m command rs none is),
  )
  accepted command rs NoMemory none is by = (
    one rs true,
    from-did rs true (ops_in command) (ops-accepted m command none is)
        (subst (λ os. length rs ≤ length os) (sym (ops-accepted m command none is)) by.told.0, by.told.1) by.few by.did,
    refl,
  )

  -- nothing was asked of the tables
  asked-none : (rs : List OpReply) (starved : Bool) → rs ≡ [] → IsSound (one [] starved) → new ≡ old → who' ≡ record who { op = who.op + 1 }
      → Dealt s old new who who' now m (one [] starved)
  asked-none rs starved none sound same next =
      from-did [] starved (ops_of m) refl sound (omega arith) (record {
        next = next;
        served = subst (Served s old new) (sym (numbered-none who.seat who.link who.op now (ops_of m)))
            (subst (λ (v : Views). Served s old v []) (sym same) (served_none s old));
      })

refused-complete : (m : Message) (kind : ℕ) → refusal m ≡ Some kind → IsComplete m []
unfolding IsComplete
refused-complete m kind is =
    let none : List OpReply = [] in
    subst (λ r. MatchOption r (Completes (command_of m) none) (λ (kind : ℕ). none ≡ [])) (sym is) refl

refused-normal : (k kind : ℕ) (m : Message) (code : Option ℕ) → refusal m ≡ Some kind
    → code ≡ option_map (λ (element : Foreign). element.code) m.foreign
    → reply (number_after k) m.request (document_of (it.Error kind code)) ≡ normal k m []
unfolding normal
refused-normal k kind m code is coded =
    ap (λ c. reply (number_after k) m.request (document_of (it.Error kind c))) coded
    ∙ ap (λ r. reply (number_after k) m.request (document_by r m.foreign (command_of m) [])) (sym is)

pub declined : (s : Tables) (old new : Views) (who who' : Who) (now k : ℕ) (m : Message) (code : Option ℕ) (why : CommandRefused)
    (a : Answered) → Tells why m → code ≡ option_map (λ (element : Foreign). element.code) m.foreign
    → Refuses (number_after k) m.request code why a → new ≡ old → who' ≡ record who { op = who.op + 1 }
    → (t : Executed) × Dealt s old new who who' now m t × Gave k t a
declined s old new who who' now k m code (refused.Refused kind) (Whole bytes) tells coded is same next = (
  record { message = m; now = now; replies = []; starved = false },
  asked-none s old new who who' now k m [] false refl (refused-complete m kind tells) same next,
  (refl, is ∙ refused-normal k kind m code tells coded),
)
declined s old new who who' now k m code refused.NoMemory (Whole bytes) tells coded is same next = absurd is
declined s old new who who' now k m code why NoMemory tells coded is same next = (
  record { message = m; now = now; replies = []; starved = true },
  asked-none s old new who who' now k m [] true refl (omega arith, tt) same next,
  refl,
)
