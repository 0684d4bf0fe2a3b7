-- The sections of a message: what is read of them is spelled so, and what is spelled so is read.
use Rattle.std.proofs.Common.{◌≡◌, ℕ, ℤ, ◌+◌, ◌-◌, ◌≤◌, List, [], ◌∷◌, ◌++◌, length, refl, sym, ap, subst, ◌∙◌, arith, length-append}
use Rattle.std.specs.Prelude.{Option, Result, Ok}
use Rattle.std.specs.Option.{option_or}
use Rattle.std.proofs.lemmas.List.{append-nil}
use Rattle.bson_values.specs.declared.pairs.Pair.{Pair}
use Rattle.bson_values.specs.declared.value.Value.{Value}
use Rattle.bson_wire.specs.declared.foreign.Foreign.{Foreign}
use Rattle.std_words.proofs.Bytes.{IsBytes, IsBytes-rest}
use Rattle.std_words.proofs.Faults.{same_Ok, bind_ok}
use Rattle.std_words.specs.Steps.{◌>>=◌}
use Rattle.op_msg.specs.Limits.{MOST_MESSAGE}
use Rattle.op_msg.specs.declared.message.Sequence.{Sequence}
use Rattle.op_msg.specs.declared.message.Message.{Message}
use Rattle.op_msg.specs.Stream.{IsDocument, AreInOrder, IsSequence, AreSections}
use Rattle.op_msg.specs.Reading.{Fault, Found, sequences_at, body_at, end_at, content_at}
use Rattle.op_msg.proofs.Parts.{sequences-take, sequences-again, body-takes, body-again, end-takes}

-- what is behind a section, and where it stands
behind-place : (end : ℕ) (bytes piece rest : List ℕ) → length bytes ≤ end → bytes ≡ piece ++ rest
    → (length rest ≤ end) × (end - length rest ≡ end - length bytes + length piece)
behind-place end bytes piece rest near cut =
    let lengths = ap length cut ∙ length-append piece rest in
    (omega (arith, near, lengths), omega (arith, near, lengths))

-- the parts of the sections, as they were read
sections-are : (end : ℕ) (bytes before document after : List ℕ) (m : Message) (front back : Found (List Sequence))
    (body : Found (List (Pair Value))) → length bytes ≤ end
    → bytes ≡ before ++ front.2 → AreInOrder IsSequence (end - length bytes) before front.0 front.1
    → front.2 ≡ 0 ∷ document ++ body.2 → IsDocument (end - length front.2 + 1) document body.0 body.1
    → body.2 ≡ after ++ back.2 → AreInOrder IsSequence (end - length body.2) after back.0 back.1 → back.2 ≡ []
    → m.body ≡ body.0 → m.sequences ≡ front.0 ++ back.0 → m.foreign ≡ option_or front.1 (option_or body.1 back.1)
    → AreSections (end - length bytes) bytes m
sections-are end bytes before document after m front back body near front_cut front_is body_cut body_is back_cut back_is none m_body
    m_sequences m_foreign =
    let first = behind-place end bytes before front.2 near front_cut in
    let second = behind-place end front.2 (0 ∷ document) body.2 first.0 body_cut in
    let place : end - length front.2 + 1 ≡ end - length bytes + length before + 1 = omega (arith, first.1) in
    let place-back : end - length body.2 ≡ end - length bytes + length before + 1 + length document = omega (arith, first.1, second.1) in
    let behind : body.2 ≡ after = back_cut ∙ ap (λ (b : List ℕ). after ++ b) none ∙ append-nil after in
    record {
      before = before;
      document = document;
      after = after;
      front = front.0;
      back = back.0;
      ahead = front.1;
      own = body.1;
      behind = back.1;
      whole = front_cut ∙ ap (λ (b : List ℕ). before ++ b) (body_cut ∙ ap (λ (b : List ℕ). 0 ∷ document ++ b) behind);
      front_is = front_is;
      body = subst (λ (n : ℕ). IsDocument n document m.body body.1) place
          (subst (λ (doc : List (Pair Value)). IsDocument (end - length front.2 + 1) document doc body.1) (sym m_body) body_is);
      back_is = subst (λ (n : ℕ). AreInOrder IsSequence n after back.0 back.1) place-back back_is;
      sequences = m_sequences;
      foreign = m_foreign;
    }

-- the four steps of the reading
pub record Steps (request : ℤ) (end : ℕ) (bytes : List ℕ) (m : Message) : Type 0 where
  pub front : Found (List Sequence)
  pub body : Found (List (Pair Value))
  pub back : Found (List Sequence)
  pub nothing : Unit {0}
  pub front_read : sequences_at end bytes ≡ Ok front
  pub body_read : body_at end front.2 ≡ Ok body
  pub back_read : sequences_at end body.2 ≡ Ok back
  pub end_read : end_at end back.2 ≡ Ok nothing
  pub made : record {
    request = request;
    body = body.0;
    sequences = front.0 ++ back.0;
    foreign = option_or front.1 (option_or body.1 back.1);
  } ≡ m

steps : (request : ℤ) (end : ℕ) (bytes : List ℕ) (m : Message) → content_at request end bytes ≡ Ok m → Steps request end bytes m
unfolding content_at
steps request end bytes m is =
    let front = bind_ok (sequences_at end bytes) (λ before. body_at end before.2 >>= λ body. sequences_at end body.2
    >>= λ after. end_at end after.2
    >>= λ none. Ok (record {
      request = request;
      body = body.0;
      sequences = before.0 ++ after.0;
      foreign = option_or before.1 (option_or body.1 after.1);
    })) m is in
    let body = bind_ok (body_at end front.0.2) (λ body. sequences_at end body.2 >>= λ after. end_at end after.2
    >>= λ none. Ok (record {
      request = request;
      body = body.0;
      sequences = front.0.0 ++ after.0;
      foreign = option_or front.0.1 (option_or body.1 after.1);
    })) m front.2 in
    let back = bind_ok (sequences_at end body.0.2) (λ after. end_at end after.2
    >>= λ none. Ok (record {
      request = request;
      body = body.0.0;
      sequences = front.0.0 ++ after.0;
      foreign = option_or front.0.1 (option_or body.0.1 after.1);
    })) m body.2 in
    let ended = bind_ok (end_at end back.0.2)
    (λ none. Ok (record {
      request = request;
      body = body.0.0;
      sequences = front.0.0 ++ back.0.0;
      foreign = option_or front.0.1 (option_or body.0.1 back.0.1);
    })) m back.2 in
    record {
      front = front.0;
      body = body.0;
      back = back.0;
      nothing = ended.0;
      front_read = front.1;
      body_read = body.1;
      back_read = back.1;
      end_read = ended.1;
      made =
          same_Ok (record {
            request = request;
            body = body.0.0;
            sequences = front.0.0 ++ back.0.0;
            foreign = option_or front.0.1 (option_or body.0.1 back.0.1);
          }) m ended.2;
    }

-- steps that found something found sections
steps-take : (request : ℤ) (end : ℕ) (bytes : List ℕ) (m : Message) → IsBytes bytes → length bytes ≤ end → Steps request end bytes m
    → AreSections (end - length bytes) bytes m
steps-take request end bytes m fits near read =
    let first = sequences-take end bytes read.front fits near read.front_read in
    let fits-body = IsBytes-rest first.0 read.front.2 bytes first.1 fits in
    let near-body = (behind-place end bytes first.0 read.front.2 near first.1).0 in
    let middle = body-takes end read.front.2 read.body fits-body near-body read.body_read in
    let near-back = (behind-place end read.front.2 (0 ∷ middle.0) read.body.2 near-body middle.1).0 in
    let last = sequences-take end read.body.2 read.back
    (IsBytes-rest (0 ∷ middle.0) read.body.2 read.front.2 middle.1 fits-body) near-back read.back_read in
    sections-are end bytes first.0 middle.0 last.0 m read.front read.back read.body near first.1 first.2 middle.1 middle.2 last.1 last.2
    (end-takes end read.back.2 read.nothing read.end_read)
    (ap (λ (m : Message). m.body) (sym read.made)) (ap (λ (m : Message). m.sequences) (sym read.made))
    (ap (λ (m : Message). m.foreign) (sym read.made))

pub content-takes : (request : ℤ) (end : ℕ) (bytes : List ℕ) (m : Message) → IsBytes bytes → length bytes ≤ end
    → content_at request end bytes ≡ Ok m → (m.request ≡ request) × AreSections (end - length bytes) bytes m
content-takes request end bytes m fits near is =
    let read = steps request end bytes m is in
    (ap (λ (m : Message). m.request) (sym read.made), steps-take request end bytes m fits near read)

-- what the four steps find is the message
content-read : (request : ℤ) (end : ℕ) (bytes : List ℕ) (front back : Found (List Sequence)) (body : Found (List (Pair Value)))
    → sequences_at end bytes ≡ Ok front → body_at end front.2 ≡ Ok body → sequences_at end body.2 ≡ Ok back → end_at end back.2 ≡ Ok tt
    → content_at request end bytes ≡ Ok (record {
      request = request;
      body = body.0;
      sequences = front.0 ++ back.0;
      foreign = option_or front.1 (option_or body.1 back.1);
    })
unfolding content_at
content-read request end bytes front back body first second third nothing = rw (first, second, third, nothing) refl

-- a message with parts that are its own
same-parts : (m : Message) (sequences : List Sequence) (foreign : Option Foreign) → m.sequences ≡ sequences → m.foreign ≡ foreign
    → ◌≡◌ {A = Result Message Fault} (Ok (record { request = m.request; body = m.body; sequences = sequences; foreign = foreign })) (Ok m)
same-parts m sequences foreign sequences_is foreign_is =
    ap (λ (s : List Sequence). Ok (record { request = m.request; body = m.body; sequences = s; foreign = foreign })) (sym sequences_is)
    ∙ ap (λ (f : Option Foreign). Ok (record { request = m.request; body = m.body; sequences = m.sequences; foreign = f })) (sym foreign_is)

pub content-again : (end place : ℕ) (bytes : List ℕ) (it : Message) → end ≤ MOST_MESSAGE → AreSections place bytes it
    → place + length bytes ≡ end → content_at it.request end bytes ≡ Ok it
unfolding end_at
content-again end place bytes it few is at =
    let rest : List ℕ = 0 ∷ is.document ++ is.after in
    let lengths : length bytes ≡ length is.before + length rest = ap length is.whole ∙ length-append is.before rest in
    let lengths-rest = length-append (0 ∷ is.document) is.after in
    let front = sequences-again end few is.front place is.before rest is.ahead is.front_is
    (ap (λ (b : List ℕ). place + length b) (sym is.whole) ∙ at) refl in
    let body = body-again end (place + length is.before) is.document is.after it.body is.own is.body (omega (arith, at, lengths)) in
    let nothing = append-nil is.after in
    let back = ap (sequences_at end) (sym nothing)
    ∙ sequences-again end few is.back (place + length is.before + 1 + length is.document) is.after [] is.behind is.back_is
    (omega (arith, ap length nothing, at, lengths, lengths-rest)) refl in
    content-read it.request end bytes (is.front, is.ahead, rest) (is.back, is.behind, []) (it.body, is.own, is.after)
    (ap (sequences_at end) is.whole ∙ front) body back refl
    ∙ same-parts it (is.front ++ is.back) (option_or is.ahead (option_or is.own is.behind)) is.sequences is.foreign
