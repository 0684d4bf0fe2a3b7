-- One step of a conversation.
use Rattle.std.proofs.Common.{◌≡◌, ℕ, ◌+◌, ◌*◌, ◌≤◌, ◌<◌, List, [], ◌∷◌, ◌++◌, length, take, drop, refl, ap, arith, sym, subst, ◌∙◌}
use Rattle.std.proofs.Common.{length-append, length-drop, zero-add, add-zero}
use Rattle.std.proofs.lemmas.List.{append-nil, take-append-drop, drop-drop}
use Rattle.std.proofs.Math.Seq.{take-append-add}
use Rattle.std.specs.Prelude.{Option, Some}
use Rattle.outside.specs.Told.{Grows}
use Rattle.history_lock.specs.declared.entry.Who.{Who}
use Rattle.history_lock.proofs.Whos.{each-append}
use Rattle.op_msg.specs.declared.message.Message.{Message}
use Rattle.op_msg.specs.declared.message.BadKind.{BadKind}
use Rattle.op_msg.specs.Stream.{message, in_order, BeginsNone}
use Rattle.op_msg.specs.Reading.{short, fault}
use Rattle.op_msg.specs.Front.{Begins}
use Rattle.op_msg.proofs.Framing.{none-empty, in_order-more, in_order-on}
use Rattle.op_msg.proofs.Fronts.{short-none, fault-none}
use Rattle.table_words.specs.Tables.{Tables}
use Rattle.doc_history.specs.Part.{Views, Served}
use Rattle.doc_history.proofs.Going.{served_none, served_on}
use Rattle.dispatcher.specs.Script.{Executed, messages, moments, numbers, ops_from, IsSound, answer, bytes_of}
use Rattle.dispatcher.specs.Answering.{Dealt}
use Rattle.doc_server.specs.declared.why.Why.{Why}
use Rattle.doc_server.specs.declared.why.Why.TheVariants.{Closed, Truncated, BadFrame, ReadFault, WriteFault, Long, NoMemory}
use Rattle.doc_server.specs.declared.serve.Replied.{Replied}
use Rattle.doc_server.specs.declared.serve.Replied.TheVariants as replied
use Rattle.doc_server.specs.Talk.{Scene, Wrote, Framed, Talk, Talks}
use Rattle.doc_server.specs.Ending.{MOST_READ, Ends, Ending}
use Rattle.doc_server.specs.Steps.{Answers, Stops, Moves}
use Rattle.doc_server.proofs.Growth.{grows-none, grows-on, shrinks-none, shrinks-on}
use Rattle.doc_server.proofs.Scripts.{messages-append, moments-append, bytes_from-last, numbers_of, numbers-append, ops-append, ops-apart}

-- the operation of that number
abbrev operation : ℕ → ℕ → ℕ → Who
operation seat number n = record { seat = seat; link = number; op = n }

-- a conversation that goes on, of which so many bytes came
pub record Going (s : Tables) (seat number : ℕ) (old new : Scene) (before after : Views) (commands count : ℕ) (who : Who) (rest : List ℕ)
    : Type 0 where
  pub all : List ℕ
  pub script : List Executed
  pub size : length all ≡ count
  pub next : who ≡ operation seat number (numbers_of script)
  pub talk : Talk old new NoMemory commands all script rest
  pub served : Served s before after (ops_from seat number 0 script)

-- a conversation that ended
pub record Over (s : Tables) (seat number : ℕ) (old new : Scene) (before after : Views) (why : Why) (commands : ℕ) : Type 0 where
  pub all : List ℕ
  pub script : List Executed
  pub rest : List ℕ
  pub talk : Talk old new why commands all script rest
  pub ends : Ends why all rest new.left
  pub served : Served s before after (ops_from seat number 0 script)

cut-at : (buffer lent rest : List ℕ) (used len : ℕ) → lent ≡ buffer → rest ≡ drop used lent
    → drop used buffer ≡ take len rest ++ drop (used + len) buffer
cut-at buffer lent rest used len lent_is rest_is =
    let is : rest ≡ drop used buffer = rest_is ∙ ap (drop used) lent_is in
    sym is ∙ sym (take-append-drop len rest) ∙ ap (λ x. take len rest ++ x) (ap (drop len) is ∙ drop-drop len used buffer)

-- ---- what came

-- a piece came
came : (old mid new : Scene) (commands : ℕ) (all piece : List ℕ) (script : List Executed) (rest : List ℕ)
    → Talk old mid NoMemory commands all script rest → Moves mid new piece
    → Talk old new NoMemory commands (all ++ piece) script (rest ++ piece)
came old mid new commands all piece script rest talk moves = record {
  taken = grows-on old.took mid.took new.took all piece talk.taken moves.taken;
  came = shrinks-on old.left mid.left new.left all piece talk.came moves.came;
  order = in_order-more all piece rest (messages script) talk.order;
  written = rw moves.written talk.written;
  timed = rw moves.moments talk.timed;
  count = talk.count;
  sound = talk.sound;
}

came-none : (old mid new : Scene) (commands : ℕ) (all piece : List ℕ) (script : List Executed) (rest : List ℕ) → piece ≡ []
    → Talk old mid NoMemory commands all script rest → Moves mid new piece → Talk old new NoMemory commands all script rest
came-none old mid new commands all piece script rest none talk moves =
    subst (λ r. Talk old new NoMemory commands all script r) (append-nil rest)
    (subst (λ a. Talk old new NoMemory commands a script (rest ++ [])) (append-nil all)
    (came old mid new commands all [] script rest talk (rw none at moves)))

-- where it ended so no message begins the rest
framed : (why : Why) (all rest : List ℕ) (left : Option (List ℕ)) (ms : List Message) → in_order all ms rest → Ends why all rest left
    → Framed why all ms rest
framed Closed all rest left ms order ends = record { order = order; none_more = subst BeginsNone (sym ends.0) none-empty }
framed (Truncated size) all rest left ms order ends = record { order = order; none_more = short-none rest ends.2 }
framed (BadFrame kind place) all rest left ms order ends = record { order = order; none_more = fault-none rest (kind, place) ends }
framed ReadFault all rest left ms order ends = record { order = order; none_more = short-none rest ends.0 }
framed WriteFault all rest left ms order ends = order
framed Long all rest left ms order ends = record { order = order; none_more = short-none rest ends.0 }
framed NoMemory all rest left ms order ends = order

-- a talk that ends so, where all was written
ended : (old new : Scene) (commands : ℕ) (all : List ℕ) (script : List Executed) (rest : List ℕ) (why : Why)
    → ((bytes : List ℕ) → Grows old.wrote new.wrote bytes → Wrote why old.wrote new.wrote bytes) → Ends why all rest new.left
    → Talk old new NoMemory commands all script rest → Talk old new why commands all script rest
ended old new commands all script rest why so ends talk = record {
  taken = talk.taken;
  came = talk.came;
  order = framed why all rest new.left (messages script) talk.order ends;
  written = so (bytes_of script) talk.written;
  timed = talk.timed;
  count = talk.count;
  sound = talk.sound;
}

-- ---- one message

-- it stood at the front of the rest and was executed; its answer was written so
module _ (old mid new : Scene) (commands : ℕ) (all : List ℕ) (script : List Executed) (rest piece behind : List ℕ) (m : Message)
    (talk : Talk old mid NoMemory commands all script rest) (cut : rest ≡ piece ++ behind) (is : message piece m)
    (took : new.took ≡ mid.took) (left : new.left ≡ mid.left) (t : Executed) (of : t.message ≡ m) (sound : IsSound t)
    (timed : Grows mid.moments new.moments (t.now ∷ [])) where
  spoke : (why : Why) → (in_order all (messages (script ++ t ∷ [])) behind → Framed why all (messages (script ++ t ∷ [])) behind)
      → Wrote why old.wrote new.wrote (bytes_of (script ++ t ∷ [])) → Talk old new why (commands + 1) all (script ++ t ∷ []) behind
  spoke why so written = record {
    taken = rw took talk.taken;
    came = rw left talk.came;
    order = so (rw (messages-append script (t ∷ []), of) (in_order-on all piece behind rest (messages script) m talk.order cut is));
    written = written;
    timed = rw (moments-append script (t ∷ []))
        (grows-on old.moments mid.moments new.moments (moments script) (t.now ∷ []) talk.timed timed);
    count = omega (arith, talk.count, length-append script (t ∷ []));
    sound = each-append IsSound script (t ∷ []) talk.sound (sound, tt);
  }

  pub answered : Grows mid.wrote new.wrote (answer commands t) → Talk old new NoMemory (commands + 1) all (script ++ t ∷ []) behind
  answered wrote = spoke NoMemory (λ order. order)
      (rw (bytes_from-last script t)
      (grows-on old.wrote mid.wrote new.wrote (bytes_of script) (answer (length script) t) talk.written
      (subst (λ k. Grows mid.wrote new.wrote (answer k t)) talk.count wrote)))

  pub broken : (sent : ℕ) × Grows mid.wrote new.wrote (take sent (answer commands t))
      → Talk old new WriteFault (commands + 1) all (script ++ t ∷ []) behind
  broken wrote = spoke WriteFault (λ order. order) (
    length (bytes_of script) + wrote.0,
    rw (bytes_from-last script t, take-append-add (bytes_of script) (answer (length script) t) wrote.0)
        (grows-on old.wrote mid.wrote new.wrote (bytes_of script) (take wrote.0 (answer (length script) t)) talk.written
        (subst (λ k. Grows mid.wrote new.wrote (take wrote.0 (answer k t))) talk.count wrote.1)),
  )

module _ (s : Tables) (seat number : ℕ) where
  -- its operations were served after those before it
  further : (before between after : Views) (script : List Executed) (who who' : Who) (now : ℕ) (m : Message) (t : Executed)
      → who ≡ operation seat number (numbers_of script) → Served s before between (ops_from seat number 0 script)
      → Dealt s between after who who' now m t
      → (who' ≡ operation seat number (numbers_of (script ++ t ∷ []))) × Served s before after (ops_from seat number 0 (script ++ t ∷ []))
  further before between after script who who' now m t next served dealt =
      let n : ℕ = numbers_of script in
      let zero : 0 + n ≡ n = zero-add n in
      let mine : Served s between after (ops_from seat number n (t ∷ []))
      = subst (λ (w : Who). Served s between after (ops_from w.seat w.link w.op (t ∷ []))) next dealt.served in
      let at_zero : Served s between after (ops_from seat number (0 + n) (t ∷ []))
      = subst (λ k. Served s between after (ops_from seat number k (t ∷ []))) (sym zero) mine in (
        dealt.next ∙ ap (λ (w : Who). record w { op = w.op + numbers t }) next
            ∙ ap (λ k. operation seat number k) (sym (numbers-append script (t ∷ []) ∙ ap (λ k. n + k) (add-zero (numbers t)))),
        subst (λ ds. Served s before after ds) (sym (ops-append seat number 0 script (t ∷ [])))
            (served_on s before between after (ops_from seat number 0 script) (ops_from seat number (0 + n) (t ∷ []))
            (ops-apart seat number 0 (0 + n) script (t ∷ []) (omega arith)) served at_zero),
      )

  -- nothing came yet
  pub begins : (old : Scene) (v : Views) (rest : List ℕ) → rest ≡ [] → Going s seat number old old v v 0 0 (operation seat number 0) rest
  begins old v rest none = record {
    all = [];
    script = [];
    size = refl;
    next = refl;
    talk = record {
      taken = grows-none old.took;
      came = shrinks-none old.left;
      order = sym none;
      written = grows-none old.wrote;
      timed = grows-none old.moments;
      count = refl;
      sound = tt;
    };
    served = served_none s v;
  }

  -- a message was executed, with what the code names
  module _ (s' : Tables) (old mid new : Scene) (before between after : Views) (commands count used len : ℕ) (who who' : Who)
      (buffer lent rest : List ℕ) (m : Message) (going : Going s seat number old mid before between commands count who (drop used buffer))
      (same : s' ≡ s) (lent_is : lent ≡ buffer) (rest_is : rest ≡ drop used lent) (front : Begins rest m len)
      (took : new.took ≡ mid.took) (left : new.left ≡ mid.left) where
    pub turns : Answers s' replied.Sent m commands mid new between after who who'
        → Going s seat number old new before after (commands + 1) count who' (drop (used + len) buffer)
    turns did =
        let t = did.done in
        let more = further before between after going.script who who' t.now m t going.next going.served
        (subst (λ x. Dealt x between after who who' t.now m t) same did.dealt) in
        record {
          all = going.all;
          script = going.script ++ t ∷ [];
          size = going.size;
          next = more.0;
          talk = answered old mid new commands going.all going.script (drop used buffer) (take len rest) (drop (used + len) buffer) m
              going.talk (cut-at buffer lent rest used len lent_is rest_is) front.alone took left t did.dealt.message did.dealt.sound
              did.timed did.sends;
          served = more.1;
        }

    pub breaks : Answers s' replied.WriteFault m commands mid new between after who who'
        → Over s seat number old new before after WriteFault (commands + 1)
    breaks did =
        let t = did.done in
        let more = further before between after going.script who who' t.now m t going.next going.served
        (subst (λ x. Dealt x between after who who' t.now m t) same did.dealt) in record {
          all = going.all;
          script = going.script ++ t ∷ [];
          rest = drop (used + len) buffer;
          talk = broken old mid new commands going.all going.script (drop used buffer) (take len rest) (drop (used + len) buffer) m
              going.talk (cut-at buffer lent rest used len lent_is rest_is) front.alone took left t did.dealt.message did.dealt.sound
              did.timed did.sends;
          ends = tt;
          served = more.1;
        }

  -- the input ends in a fetch
  module _ (old mid new : Scene) (before after : Views) (commands count : ℕ) (who : Who) (rest buffer : List ℕ) where
    -- nothing came with the end
    quiet : (why : Why) (piece : List ℕ) → Going s seat number old mid before after commands count who rest → Moves mid new piece
        → piece ≡ [] → ((all : List ℕ) → Grows old.wrote new.wrote all → Wrote why old.wrote new.wrote all)
        → ((all : List ℕ) → length all ≡ count → Ends why all rest new.left) → Over s seat number old new before after why commands
    quiet why piece going moves none so ends = record {
      all = going.all;
      script = going.script;
      rest = rest;
      talk = ended old new commands going.all going.script rest why so (ends going.all going.size)
          (came-none old mid new commands going.all piece going.script rest none going.talk moves);
      ends = ends going.all going.size;
      served = going.served;
    }

    pub stops : (why : Why) → Going s seat number old mid before after commands count who rest → buffer ≡ rest → short rest
        → (piece : List ℕ) × Moves mid new piece × Stops why count buffer piece new.left
        → Over s seat number old new before after why commands
    stops Closed going is low stop = quiet Closed stop.0 going stop.1 stop.2.0 (λ all wrote. wrote)
        (λ all size. (sym is ∙ stop.2.1, omega (arith, size, stop.2.2), stop.2.3))
    stops (Truncated size) going is low stop = quiet (Truncated size) stop.0 going stop.1 stop.2.0 (λ all wrote. wrote) (λ all sum. (
      stop.2.1
          ∙ ap length is,
      λ none. stop.2.2 (is ∙ none),
      low,
      omega (arith, sum, stop.2.3),
      stop.2.4,
    ))
    stops ReadFault going is low stop = quiet ReadFault stop.0 going stop.1 stop.2.0 (λ all wrote. wrote)
        (λ all sum. (low, omega (arith, sum, stop.2.1)))
    stops Long going is low stop = quiet Long stop.0 going stop.1 stop.2.0 (λ all wrote. wrote) (λ all sum. (low, sum ∙ stop.2.1))
    stops NoMemory going is low stop = record {
      all = going.all ++ stop.0;
      script = going.script;
      rest = rest ++ stop.0;
      talk = came old mid new commands going.all stop.0 going.script rest going.talk stop.1;
      ends = tt;
      served = going.served;
    }
    stops (BadFrame kind place) going is low stop = absurd stop.2
    stops WriteFault going is low stop = absurd stop.2

    -- a piece came
    pub reads : (came' : ℕ) (full : List ℕ) → Going s seat number old mid before after commands count who rest → buffer ≡ rest
        → (piece : List ℕ) × Moves mid new piece
        × ((length piece ≡ came') × (0 < came') × (count + came' ≤ MOST_READ) × (full ≡ buffer ++ piece))
        → Going s seat number old new before after commands (count + came') who (drop 0 full)
    reads came' full going is fetched =
        let all_is : rest ++ fetched.0 ≡ full = ap (λ b. b ++ fetched.0) (sym is) ∙ sym fetched.2.3 in
        record {
          all = going.all ++ fetched.0;
          script = going.script;
          size = omega (arith, length-append going.all fetched.0, going.size, fetched.2.0);
          next = going.next;
          talk = subst (λ r. Talk old new NoMemory commands (going.all ++ fetched.0) going.script r) all_is
              (came old mid new commands going.all fetched.0 going.script rest going.talk fetched.1);
          served = going.served;
        }

  -- a talk that ends where no answer was to be made
  ends-here : (old new : Scene) (before after : Views) (commands count : ℕ) (who : Who) (rest : List ℕ) (why : Why)
      → Going s seat number old new before after commands count who rest
      → ((all : List ℕ) → Grows old.wrote new.wrote all → Wrote why old.wrote new.wrote all)
      → ((all : List ℕ) → Ends why all rest new.left) → Over s seat number old new before after why commands
  ends-here old new before after commands count who rest why going so ends = record {
    all = going.all;
    script = going.script;
    rest = rest;
    talk = ended old new commands going.all going.script rest why so (ends going.all) going.talk;
    ends = ends going.all;
    served = going.served;
  }

  pub starves : (old new : Scene) (before after : Views) (commands count : ℕ) (who : Who) (rest : List ℕ)
      → Going s seat number old new before after commands count who rest → Over s seat number old new before after NoMemory commands
  starves old new before after commands count who rest going =
      ends-here old new before after commands count who rest NoMemory going (λ all wrote. wrote) (λ all. tt)

  -- a fault stands in the bytes that the code names
  pub faults : (old new : Scene) (before after : Views) (commands count used : ℕ) (who : Who) (buffer lent rest : List ℕ) (kind : BadKind)
      (place : ℕ) → Going s seat number old new before after commands count who (drop used buffer) → lent ≡ buffer → rest ≡ drop used lent
      → fault rest ≡ Some (kind, place) → Over s seat number old new before after (BadFrame kind place) commands
  faults old new before after commands count used who buffer lent rest kind place going lent_is rest_is bad =
      ends-here old new before after commands count who (drop used buffer) (BadFrame kind place) going (λ all wrote. wrote)
      (λ all. subst (λ b. fault b ≡ Some (kind, place)) (rest_is ∙ ap (drop used) lent_is) bad)

  -- what is told of a conversation that ended
  module _ (old new : Scene) (before after : Views) (why : Why) (commands : ℕ) (over : Over s seat number old new before after why commands)
    where
      pub talks-over : Talks s seat number old new before after why commands
      talks-over = (over.all, over.script, over.rest, over.talk, over.served)

      pub ends-over : Ending old new why
      ends-over = (over.all, messages over.script, over.rest, over.talk.taken, over.talk.came, over.talk.order, over.ends)

-- ---- counts

-- there is room to count the messages
pub room-reads : (commands used count came' : ℕ) (buffer kept full piece : List ℕ) → commands + length buffer ≤ count + used
    → used ≤ length buffer → kept ≡ drop used buffer → full ≡ kept ++ piece → length piece ≡ came'
    → commands + length full ≤ count + came' + 0
room-reads commands used count came' buffer kept full piece had within kept_is full_is size =
    omega (arith, had, within, ap length kept_is, length-drop used buffer, ap length full_is, length-append kept piece, size)

pub used-turns : (used len : ℕ) (buffer lent rest : List ℕ) → used ≤ length buffer → lent ≡ buffer → rest ≡ drop used lent
    → len ≤ length rest → used + len ≤ length buffer
used-turns used len buffer lent rest within lent_is rest_is more = omega
    (arith, within, more, ap length lent_is, ap length rest_is, length-drop used lent)

pub short-at : (buffer lent rest : List ℕ) (used : ℕ) → lent ≡ buffer → rest ≡ drop used lent → short rest → short (drop used buffer)
short-at buffer lent rest used lent_is rest_is low = subst short (rest_is ∙ ap (drop used) lent_is) low

-- a message takes at most 1,000 numbers
pub numbers-turn : (s : Tables) (r : Replied) (m : Message) (commands : ℕ) (mid new : Scene) (between after : Views) (who who' : Who)
    → who.op ≤ 1000 * commands → Answers s r m commands mid new between after who who' → who'.op ≤ 1000 * (commands + 1)
numbers-turn s r m commands mid new between after who who' had did =
    omega (arith, had, did.dealt.few, ap (λ (w : Who). w.op) did.dealt.next)
