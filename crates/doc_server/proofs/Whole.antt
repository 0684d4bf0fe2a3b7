-- A connection over a fresh link, and its whole input.
use Rattle.std.proofs.Common.{◌≡◌, ℕ, List, [], ◌++◌, take, refl, sym, ap, subst, ◌∙◌}
use Rattle.std.specs.Prelude.{Option, None, Some, IfSome}
use Rattle.std.proofs.lemmas.List.{append-nil, append_cancel_right}
use Rattle.outside.specs.Told.{Tells, Grows, Shrinks}
use Rattle.doc_server.specs.declared.why.Why.{Why}
use Rattle.doc_server.specs.declared.why.Why.TheVariants.{Closed, Truncated, BadFrame, ReadFault, WriteFault, Long, NoMemory}
use Rattle.op_msg.specs.declared.message.Message.{Message}
use Rattle.op_msg.specs.declared.message.BadKind.{BadKind}
use Rattle.op_msg.specs.Stream.{in_order, frames, BeginsNone}
use Rattle.op_msg.specs.Reading.{fault}
use Rattle.op_msg.proofs.Framing.{one-framing, in_order-more}
use Rattle.op_msg.proofs.Fronts.{fault-none, fault-more}
use Rattle.outside.specs.declared.kept.KeptTable.{KeptTable}
use Rattle.table_words.specs.Tables.{Tables}
use Rattle.table_store.specs.Loading.{IsLoaded}
use Rattle.doc_history.specs.Told.{Tcall}
use Rattle.dispatcher.specs.Script.{messages, moments, ops_from, bytes_of}
use Rattle.doc_server.specs.Talk.{Scene, Wrote, Framed, Talk}
use Rattle.doc_server.specs.Ending.{Ending}
use Rattle.doc_server.specs.Pipe.{Pipes}
use Rattle.doc_server.specs.Program.{fresh, IsWhole, IsHistory, Headline}

-- what came after nothing is all
grows-fresh : (old new : Option (List ℕ)) (all : List ℕ) → Tells old [] → Grows old new all → Grows (Some []) new all
grows-fresh None None all none grows = tt
grows-fresh None (Some new) all none grows = absurd cc
grows-fresh (Some old) None all none grows = tt
grows-fresh (Some old) (Some new) all none grows = grows ∙ ap (λ b. b ++ all) none

wrote-fresh : (why : Why) (old new : Option (List ℕ)) (all : List ℕ) → Tells old [] → Wrote why old new all → Wrote why (Some []) new all
wrote-fresh Closed old new all none wrote = grows-fresh old new all none wrote
wrote-fresh (Truncated size) old new all none wrote = grows-fresh old new all none wrote
wrote-fresh (BadFrame kind place) old new all none wrote = grows-fresh old new all none wrote
wrote-fresh ReadFault old new all none wrote = grows-fresh old new all none wrote
wrote-fresh WriteFault old new all none wrote = (wrote.0, grows-fresh old new (take wrote.0 all) none wrote.1)
wrote-fresh Long old new all none wrote = grows-fresh old new all none wrote
wrote-fresh NoMemory old new all none wrote = grows-fresh old new all none wrote

-- ---- a whole input

-- more bytes are left, and no message begins the rest with them
longer : (input all rest left : List ℕ) (ms : List Message) → input ≡ all ++ left → in_order all ms rest → BeginsNone (rest ++ left)
    → frames input ms (rest ++ left)
longer input all rest left ms came order none = record {
  order = subst (λ b. in_order b ms (rest ++ left)) (sym came) (in_order-more all left rest ms order);
  none_more = none;
}

-- no bytes are left
whole : (input all rest left : List ℕ) (ms : List Message) → input ≡ all ++ left → frames all ms rest → left ≡ []
    → frames input ms (rest ++ left)
whole input all rest left ms came framed none =
    longer input all rest left ms came framed.order
    (subst BeginsNone (sym (ap (λ l. rest ++ l) none ∙ append-nil rest)) framed.none_more)

-- a fault of the rest stays
faulty : (input all rest left : List ℕ) (ms : List Message) (kind : BadKind) (place : ℕ) → input ≡ all ++ left → frames all ms rest
    → fault rest ≡ Some (kind, place) → frames input ms (rest ++ left)
faulty input all rest left ms kind place came framed bad =
    longer input all rest left ms came framed.order (fault-none (rest ++ left) (kind, place) (fault-more rest left (kind, place) bad))

-- two that left the same of an input came alike, and are framed alike
rests : (input all all' left rest rest' : List ℕ) (ms ns : List Message) → input ≡ all ++ left → input ≡ all' ++ left → frames all ms rest
    → frames all' ns rest' → rest' ≡ rest
rests input all all' left rest rest' ms ns came came' one other =
    let same : all' ≡ all = append_cancel_right all' all left (sym came' ∙ came) in
    (one-framing all ns ms rest' rest (subst (λ b. frames b ns rest') same other) one).1

is-whole : (why : Why) (old new : Scene) (input left : Option (List ℕ)) (all rest : List ℕ) (ms : List Message) → old.left ≡ input
    → new.left ≡ left → Shrinks input left all → Framed why all ms rest → Ending old new why → IsWhole why input left ms rest
is-whole Closed old new None left all rest ms was is came framed ending = tt
is-whole Closed old new (Some input) None all rest ms was is came framed ending = tt
is-whole Closed old new (Some input) (Some left) all rest ms was is came framed ending =
    whole input all rest left ms came framed (subst (λ told. Tells told []) is ending.6.2)
is-whole (Truncated size) old new None left all rest ms was is came framed ending = tt
is-whole (Truncated size) old new (Some input) None all rest ms was is came framed ending = tt
is-whole (Truncated size) old new (Some input) (Some left) all rest ms was is came framed ending =
    whole input all rest left ms came framed (subst (λ told. Tells told []) is ending.6.4)
is-whole (BadFrame kind place) old new None left all rest ms was is came framed ending = tt
is-whole (BadFrame kind place) old new (Some input) None all rest ms was is came framed ending = tt
is-whole (BadFrame kind place) old new (Some input) (Some left) all rest ms was is came framed ending =
    let came' : input ≡ ending.0 ++ left = subst (λ told. Shrinks (Some input) told ending.0) is
    (subst (λ told. Shrinks told new.left ending.0) was ending.4) in
    let same : ending.2 ≡ rest = rests input all ending.0 left rest ending.2 ms ending.1 came came' framed ending.5 in
    faulty input all rest left ms kind place came framed (subst (λ b. fault b ≡ Some (kind, place)) same ending.6)
is-whole ReadFault old new input left all rest ms was is came framed ending = tt
is-whole WriteFault old new input left all rest ms was is came framed ending = tt
is-whole Long old new input left all rest ms was is came framed ending = tt
is-whole NoMemory old new input left all rest ms was is came framed ending = tt

-- what a served link tells, where it was fresh
pub headline : (s left : Tables) (n m : ℕ) (h : List Tcall) (input : Option (List ℕ)) (old new : Scene) (why : Why) (commands : ℕ)
    → Tells old.took [] → Tells old.wrote [] → Tells old.moments [] → old.left ≡ input → n ≡ 0
    → Pipes s n h left m old new why commands → Ending old new why → Headline s 0 h left m input new why commands
headline s left n m h input old new why commands took wrote timed left_is zero pipes ending =
    let talk = pipes.3 in
    let came : Shrinks input new.left pipes.0 = subst (λ told. Shrinks told new.left pipes.0) left_is talk.came in
    let talked : Talk (fresh input) new why commands pipes.0 pipes.1 pipes.2 = record {
      taken = grows-fresh old.took new.took pipes.0 took talk.taken;
      came = came;
      order = talk.order;
      written = wrote-fresh why old.wrote new.wrote (bytes_of pipes.1) wrote talk.written;
      timed = grows-fresh old.moments new.moments (moments pipes.1) timed talk.timed;
      count = talk.count;
      sound = talk.sound;
    } in (
      pipes.0,
      pipes.1,
      pipes.2,
      talked,
      is-whole why old new input new.left pipes.0 pipes.2 (messages pipes.1) left_is refl came talk.order ending,
      subst (λ k. IsHistory s k h left m (ops_from 0 0 0 pipes.1)) zero pipes.4,
    )

-- its end, where it was fresh
end-fresh : (input : Option (List ℕ)) (old new : Scene) (why : Why) → Tells old.took [] → old.left ≡ input → Ending old new why
    → Ending (fresh input) new why
end-fresh input old new why took left_is ending = (
  ending.0,
  ending.1,
  ending.2,
  grows-fresh old.took new.took ending.0 took ending.3,
  subst (λ told. Shrinks told new.left ending.0) left_is ending.4,
  ending.5,
  ending.6,
)

-- the same of what may be there
pub headlines : {A B : Type 0} (s : Tables) (n : ℕ) (input : Option (List ℕ)) (old : Scene) (world : Option (List KeptTable))
    (ended : Option A) (closed : Option B) (new : A → Scene) (why : A → Why) (commands : A → ℕ) (h : B → List Tcall) (left : B → Tables)
    (m : B → ℕ)
    → IfSome ended (λ a. IfSome closed (λ b. Pipes s n (h b) (left b) (m b) old (new a) (why a) (commands a)))
    → IfSome ended (λ a. Ending old (new a) (why a)) → Tells old.took [] → Tells old.wrote [] → Tells old.moments [] → old.left ≡ input
    → n ≡ 0 → IfSome world (λ kept. IsLoaded kept s)
    → IfSome ended (λ a. IfSome closed (λ b. (loaded : Tables) × IfSome world (λ kept. IsLoaded kept loaded)
    × Headline loaded 0 (h b) (left b) (m b) input (new a) (why a) (commands a)))
headlines s n input old world None closed new why commands h left m pipes ends took wrote timed left_is zero loaded = tt
headlines s n input old world (Some a) None new why commands h left m pipes ends took wrote timed left_is zero loaded = tt
headlines s n input old world (Some a) (Some b) new why commands h left m pipes ends took wrote timed left_is zero loaded = (
  s,
  loaded,
  headline s (left b) n (m b) (h b) input old (new a) (why a) (commands a) took wrote timed left_is zero pipes ends,
)

pub ends-fresh : {A : Type 0} (input : Option (List ℕ)) (old : Scene) (ended : Option A) (new : A → Scene) (why : A → Why)
    → IfSome ended (λ a. Ending old (new a) (why a)) → Tells old.took [] → old.left ≡ input
    → IfSome ended (λ a. Ending (fresh input) (new a) (why a))
ends-fresh input old None new why ends took left_is = tt
ends-fresh input old (Some a) new why ends took left_is = end-fresh input old (new a) (why a) took left_is ends
