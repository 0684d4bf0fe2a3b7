-- Sections: what is read of one is spelled so, and what is spelled so is read.
use Rattle.std.proofs.Common.{◌≡◌, inl, inr, ℕ, ◌+◌, ◌-◌, ◌^◌, ◌<◌, ◌≤◌, Bool, true, false, ltb, eqb, cond, List, [], ◌∷◌, ◌++◌}
use Rattle.std.proofs.Common.{length, get_or, take, drop, refl, sym, ap, subst, ◌∙◌, append_assoc, arith, length-append}
use Rattle.std.proofs.Common.{length-drop}
use Rattle.std.specs.Prelude.{Option, Result, Ok, Err}
use Rattle.std.proofs.lemmas.Bool.{ltb-false, le-ltb, lt-ltb, eqb-true, ne_eqb}
use Rattle.std.proofs.lemmas.List.{append-nil, take-append-drop, drop_more, take_at, drop_at, length-take-le}
use Rattle.byteorder.specs.Endian.{little_number}
use Rattle.byteorder.specs.Numbers.{little_from-append, little_number-reads_back, length-bytes_low_first}
use Rattle.bson_wire.specs.Spelling.{int32, cstring}
use Rattle.bson_wire.specs.declared.foreign.Foreign.{Foreign}
use Rattle.bson_wire.specs.Grammar.{IsName}
use Rattle.std_words.specs.Steps.{◌>>=◌}
use Rattle.bson_wire.specs.Reading.{document_at, name_at, number_at, first}
use Rattle.std_words.proofs.Bytes.{IsBytes, IsBytes-front, IsBytes-rest}
use Rattle.bson_wire.proofs.Documents.{document_takes, document_again}
use Rattle.bson_wire.proofs.Names.{name_takes, name_again}
use Rattle.bson_wire.proofs.Numbers.{number_takes}
use Rattle.bson_wire.proofs.Values.{Doc}
use Rattle.std_words.proofs.Faults.{same_Ok, bind_ok, unless_ok, when_ok, at_found}
use Rattle.op_msg.specs.Limits.{MOST_MESSAGE}
use Rattle.op_msg.specs.declared.message.Sequence.{Sequence}
use Rattle.op_msg.specs.declared.message.BadKind.TheVariants.{Section, Body}
use Rattle.op_msg.specs.Stream.{moved, IsDocument, AreInOrder, IsSequence}
use Rattle.op_msg.specs.Reading.{Fault, Found, many_at, in_message, document_in, documents_at, sized_at, identifier_at}
use Rattle.op_msg.specs.Reading.{sequence_at, sequences_at, body_at, end_at}
use Rattle.std_words.proofs.Parts.{empty}
use Rattle.std_words.proofs.Faults.{branch_ok}
use Rattle.op_msg.proofs.Documents.{spelled-long}
use Rattle.op_msg.proofs.InOrder.{many-takes, many-again}

-- four bytes are those of the number that they make
pub cut-four : (bytes : List ℕ) → IsBytes bytes → 4 ≤ length bytes → bytes ≡ int32 (little_number 4 bytes) ++ drop 4 bytes
unfolding number_at
cut-four bytes fits long =
    let test : ltb (length bytes) 4 ≡ false = le-ltb _ _ long in
    (number_takes 0 bytes (little_number 4 bytes, drop 4 bytes) fits (rw test refl)).0

-- the first byte, where it is not the one that stands for none
first-byte : (bytes : List ℕ) → 0 < length bytes → bytes ≡ get_or bytes 0 0 ∷ drop 1 bytes
first-byte bytes some = drop_more bytes 0 0 some

some-bytes : (bytes : List ℕ) → eqb (length bytes) 0 ≡ false → 0 < length bytes
some-bytes [] is = absurd cc
some-bytes (byte ∷ bytes) is = omega arith

one-some : (bytes : List ℕ) → get_or bytes 0 0 ≡ 1 → 0 < length bytes
one-some [] is = absurd (omega (arith, is))
one-some (byte ∷ bytes) is = omega arith

-- ---- documents

read-takes : (place : ℕ) (bytes : List ℕ) (found : Found Doc) (read : Result (Doc × List Foreign × List ℕ) ℕ) → IsBytes bytes
    → document_at 128 (length bytes) bytes ≡ read → in_message place read ≡ Ok found
    → (piece : List ℕ) × (bytes ≡ piece ++ found.2) × IsDocument place piece found.0 found.1
read-takes place bytes found (Ok it) fits is made =
    let taken = document_takes bytes it fits is in
    at_found (λ (found : Found Doc). (piece : List ℕ) × (bytes ≡ piece ++ found.2) × IsDocument place piece found.0 found.1)
    (it.0, moved place (first it.1), it.2) found made
    (taken.0, taken.1, (it.1, taken.2, refl))
read-takes place bytes found (Err at) fits is made = absurd cc

pub document-takes : (section place : ℕ) (bytes : List ℕ) (found : Found Doc) → IsBytes bytes → document_in section place bytes ≡ Ok found
    → (piece : List ℕ) × (bytes ≡ piece ++ found.2) × IsDocument place piece found.0 found.1
unfolding document_in
document-takes section place bytes found fits is =
    let read = unless_ok (ltb (length bytes) 4) (Section, section) (in_message place (document_at 128 (length bytes) bytes)) found is in
    read-takes place bytes found (document_at 128 (length bytes) bytes) fits refl read.1

pub document-again : (section place : ℕ) (piece rest : List ℕ) (doc : Doc) (own : Option Foreign) → IsDocument place piece doc own
    → document_in section place (piece ++ rest) ≡ Ok (doc, own, rest)
unfolding document_in
document-again section place piece rest doc own is =
    let long : ltb (length (piece ++ rest)) 4 ≡ false =
    le-ltb _ _ (omega (arith, spelled-long piece doc is.0 is.1, length-append piece rest)) in
    rw (long, document_again piece rest doc is.0 is.1) (ap (λ (f : Option Foreign). Ok (doc, f, rest)) (sym is.2))

none-left : (bytes : List ℕ) → length bytes ≡ 0 → ltb 0 (length bytes) ≡ false
none-left bytes none = le-ltb _ _ (omega (arith, none))

module _ (end section : ℕ) where
  abbrev one : List ℕ → Result (Found Doc) Fault
  one rest = document_in section (end - length rest) rest

  abbrev some : List ℕ → Bool
  some rest = ltb 0 (length rest)

  one-taken : (bytes : List ℕ) (found : Found Doc) → IsBytes bytes → length bytes ≤ end → some bytes ≡ true → one bytes ≡ Ok found
      → (piece : List ℕ) × (bytes ≡ piece ++ found.2) × IsDocument (end - length bytes) piece found.0 found.1 × (0 < length piece)
  one-taken bytes found fits near goes is =
      let taken = document-takes section (end - length bytes) bytes found fits is in
      (taken.0, taken.1, taken.2, omega (arith, spelled-long taken.0 found.0 taken.2.0 taken.2.1))

  one-again : (place : ℕ) (piece rest : List ℕ) (doc : Doc) (own : Option Foreign) → IsDocument place piece doc own
      → place + length (piece ++ rest) ≡ end
      → (some (piece ++ rest) ≡ true) × (one (piece ++ rest) ≡ Ok (doc, own, rest)) × (0 < length piece)
  one-again place piece rest doc own is at =
      let long = spelled-long piece doc is.0 is.1 in
      let here : end - length (piece ++ rest) ≡ place = omega (arith, at) in (
        lt-ltb _ _ (omega (arith, long, length-append piece rest)),
        rw here (document-again section place piece rest doc own is),
        omega (arith, long),
      )

  pub documents-take : (bytes : List ℕ) (found : Found (List Doc)) → IsBytes bytes → length bytes ≤ end
      → documents_at end section bytes ≡ Ok found → AreInOrder IsDocument (end - length bytes) bytes found.0 found.1
  documents-take bytes found fits near is =
      let all = many-takes some one IsDocument end one-taken none-left (length bytes) bytes found fits near (omega arith) is in
      let none : found.2 ≡ [] = empty found.2 (omega (arith, ltb-false _ _ all.3)) in
      let whole : bytes ≡ all.0 = all.1 ∙ ap (λ (b : List ℕ). all.0 ++ b) none ∙ append-nil all.0 in
      subst (λ (b : List ℕ). AreInOrder IsDocument (end - length bytes) b found.0 found.1) (sym whole) all.2

  pub documents-again : (docs : List Doc) (place : ℕ) (bytes : List ℕ) (foreign : Option Foreign)
      → AreInOrder IsDocument place bytes docs foreign → place + length bytes ≡ end
      → documents_at end section bytes ≡ Ok (docs, foreign, [])
  documents-again docs place bytes foreign is at =
      let whole = append-nil bytes in
      ap (many_at some one (length bytes)) (sym whole)
      ∙ many-again some one IsDocument end one-again docs (length bytes) place bytes [] foreign is
      (ap (λ (b : List ℕ). place + length b) whole ∙ at) refl (omega arith)

-- ---- what a size holds

-- the size, what it holds, and the rest
pub record Sized (bytes : List ℕ) (found : List ℕ × List ℕ) : Type 0 where
  pub size : ℕ
  pub whole : bytes ≡ int32 size ++ found.0 ++ found.1
  pub counted : length found.0 + 4 ≡ size

sized-takes : (section : ℕ) (bytes : List ℕ) (found : List ℕ × List ℕ) → IsBytes bytes → sized_at section bytes ≡ Ok found
    → Sized bytes found
unfolding sized_at
sized-takes section bytes found fits is =
    let size = little_number 4 bytes in
    let value : List ℕ × List ℕ = (drop 4 (take size bytes), drop size bytes) in
    let four = unless_ok (ltb (length bytes) 4) (Section, section)
    (cond (ltb size 5) (Err (Section, section)) (cond (ltb (length bytes) size) (Err (Section, section)) (Ok value))) found is in
    let least = unless_ok (ltb size 5) (Section, section)
    (cond (ltb (length bytes) size) (Err (Section, section)) (Ok value)) found four.1 in
    let most = unless_ok (ltb (length bytes) size) (Section, section) (Ok value) found least.1 in
    let front = take size bytes in
    let whole : bytes ≡ front ++ drop size bytes = sym (take-append-drop size bytes) in
    let long : length front ≡ size = length-take-le size bytes (ltb-false _ _ most.0) in
    let five : 5 ≤ size = ltb-false _ _ least.0 in
    let same : little_number 4 front ≡ size =
    sym (ap (little_number 4) whole ∙ little_from-append 4 front (drop size bytes) (omega (arith, long, five))) in
    let cut : front ≡ int32 size ++ drop 4 front =
    cut-four front (IsBytes-front front (drop size bytes) bytes whole fits) (omega (arith, long, five))
    ∙ ap (λ (n : ℕ). int32 n ++ drop 4 front) same in
    at_found (Sized bytes) value found most.1
    (record {
      size = size;
      whole = whole ∙ ap (λ (b : List ℕ). b ++ drop size bytes) cut;
      counted = omega (arith, length-drop 4 front, long, five);
    })

sized-again : (section size : ℕ) (inside rest : List ℕ) → length inside + 4 ≡ size → 5 ≤ size → size < 2 ^ 32
    → sized_at section (int32 size ++ inside ++ rest) ≡ Ok (inside, rest)
unfolding sized_at
sized-again section size inside rest counted five below =
    let front = int32 size ++ inside in
    let four = length-bytes_low_first 0 4 size in
    let long : length front ≡ size = omega (arith, counted, length-append (int32 size) inside, four) in
    let number : little_number 4 (front ++ rest) ≡ size = ap (little_number 4) (append_assoc (int32 size) inside rest)
    ∙ little_number-reads_back 4 size (inside ++ rest) below in
    let enough : ltb (length (front ++ rest)) 4 ≡ false = le-ltb _ _ (omega (arith, length-append front rest, long, five)) in
    let least : ltb size 5 ≡ false = le-ltb _ _ five in
    let most : ltb (length (front ++ rest)) size ≡ false = le-ltb _ _ (omega (arith, length-append front rest, long)) in
    let held : drop 4 (take size (front ++ rest)) ≡ inside = ap (drop 4) (take_at front rest size long)
    ∙ drop_at (int32 size) inside 4 four in
    let behind : drop size (front ++ rest) ≡ rest = drop_at front rest size long in
    rw (enough, number, least, most, held, behind) refl

-- ---- sequences

identifier-takes : (section : ℕ) (read : Result (List ℕ × List ℕ) ℕ) (found : List ℕ × List ℕ) → identifier_at section read ≡ Ok found
    → read ≡ Ok found
identifier-takes section (Ok it) found is = ap (λ (it : List ℕ × List ℕ). Ok it) (same_Ok it found is)
identifier-takes section (Err place) found is = absurd cc

-- the parts of a section of kind 1, as they were read
sequence-is : (end section : ℕ) (bytes name documents : List ℕ) (found : Found Sequence) (part : List ℕ × List ℕ) (docs : Found (List Doc))
    → length bytes + 1 ≤ end → section ≡ end - (length bytes + 1) → Sized bytes part → part.0 ≡ cstring name ++ documents → IsName name
    → AreInOrder IsDocument (end - length part.1 - length documents) documents docs.0 docs.1
    → ◌≡◌ {A = Result (Found Sequence) Fault} (Ok (record { name = name; docs = docs.0 }, docs.1, part.1)) (Ok found)
    → (piece : List ℕ) × (1 ∷ bytes ≡ piece ++ found.2) × IsSequence section piece found.0 found.1 × (0 < length piece)
sequence-is end section bytes name documents found part docs near here sized cut named are made =
    let inside : List ℕ = int32 sized.size ++ part.0 in
    let four = length-bytes_low_first 0 4 sized.size in
    let long : length inside ≡ sized.size = omega (arith, sized.counted, length-append (int32 sized.size) part.0, four) in
    let lengths : length bytes ≡ length inside + length part.1 = ap length sized.whole ∙ length-append inside part.1 in
    let parts : length part.0 ≡ length name + 1 + length documents =
    omega (arith, ap length cut, length-append (cstring name) documents, length-append name (0 ∷ [])) in
    let place : end - length part.1 - length documents ≡ section + (6 + length name) =
    omega (arith, near, here, lengths, long, parts, sized.counted) in
    let counted : length (1 ∷ inside) - 1 ≡ sized.size = omega (arith, long) in
    let whole : 1 ∷ inside ≡ 1 ∷ int32 (length (1 ∷ inside) - 1) ++ cstring name ++ documents =
    ap (λ (b : List ℕ). 1 ∷ int32 sized.size ++ b) cut ∙ sym (append_assoc (1 ∷ int32 sized.size) (cstring name) documents)
    ∙ ap (λ (n : ℕ). 1 ∷ int32 n ++ cstring name ++ documents) (sym counted) in
    at_found (λ (found : Found Sequence). (piece : List ℕ) × (1 ∷ bytes ≡ piece ++ found.2) × IsSequence section piece found.0 found.1
    × (0 < length piece)) (record { name = name; docs = docs.0 }, docs.1, part.1) found made (
      1 ∷ inside,
      ap (λ (b : List ℕ). 1 ∷ b) sized.whole,
      record {
        documents = documents;
        whole = whole;
        name = named;
        docs = subst (λ (n : ℕ). AreInOrder IsDocument n documents docs.0 docs.1) place are;
      },
      omega arith,
    )

sequence-takes : (end section : ℕ) (bytes : List ℕ) (found : Found Sequence) → IsBytes bytes → length bytes + 1 ≤ end
    → section ≡ end - (length bytes + 1) → sequence_at end section bytes ≡ Ok found
    → (piece : List ℕ) × (1 ∷ bytes ≡ piece ++ found.2) × IsSequence section piece found.0 found.1 × (0 < length piece)
unfolding sequence_at
sequence-takes end section bytes found fits near here is =
    let part = bind_ok (sized_at section bytes) (λ part. identifier_at section (name_at section part.0)
    >>= λ name. documents_at (end - length part.1) section name.1
    >>= λ docs. Ok (record { name = name.0; docs = docs.0 }, docs.1, part.1)) found is in
    let name = bind_ok (identifier_at section (name_at section part.0.0)) (λ name. documents_at (end - length part.0.1) section name.1
    >>= λ docs. Ok (record { name = name.0; docs = docs.0 }, docs.1, part.0.1)) found part.2 in
    let docs = bind_ok (documents_at (end - length part.0.1) section name.0.1)
    (λ docs. Ok (record { name = name.0.0; docs = docs.0 }, docs.1, part.0.1)) found name.2 in
    let sized = sized-takes section bytes part.0 fits part.1 in
    let cut = name_takes section part.0.0 name.0 (identifier-takes section (name_at section part.0.0) name.0 name.1) in
    let inside : List ℕ = int32 sized.size ++ part.0.0 in
    let fits-part : IsBytes part.0.0 =
    IsBytes-rest (int32 sized.size) part.0.0 inside refl (IsBytes-front inside part.0.1 bytes sized.whole fits) in
    let fits-documents : IsBytes name.0.1 = IsBytes-rest (cstring name.0.0) name.0.1 part.0.0 cut.0 fits-part in
    let within : length name.0.1 ≤ end - length part.0.1 =
    omega (
      arith,
      near,
      ap length sized.whole,
      length-append inside part.0.1,
      length-append (int32 sized.size) part.0.0,
      ap length cut.0,
      length-append (cstring name.0.0) name.0.1,
    ) in
    let are = documents-take (end - length part.0.1) section name.0.1 docs.0 fits-documents within docs.1 in
    sequence-is end section bytes name.0.0 name.0.1 found part.0 docs.0 near here sized cut.0 cut.1 are docs.2

sequence-again : (end section : ℕ) (piece rest : List ℕ) (it : Sequence) (own : Option Foreign) → end ≤ MOST_MESSAGE
    → IsSequence section piece it own → section + length (piece ++ rest) ≡ end
    → (get_or (piece ++ rest) 0 0 ≡ 1) × (sequence_at end section (drop 1 (piece ++ rest)) ≡ Ok (it, own, rest)) × (0 < length piece)
unfolding sequence_at
sequence-again end section piece rest it own few is at =
    let size : ℕ = length piece - 1 in
    let inside : List ℕ = cstring it.name ++ is.documents in
    let front : piece ≡ 1 ∷ (int32 size ++ inside) = is.whole ∙ append_assoc (1 ∷ int32 size) (cstring it.name) is.documents in
    let four = length-bytes_low_first 0 4 size in
    let parts : length inside ≡ length it.name + 1 + length is.documents =
    omega (arith, length-append (cstring it.name) is.documents, length-append it.name (0 ∷ [])) in
    let long : length piece ≡ 1 + (4 + length inside) = omega (arith, ap length front, length-append (int32 size) inside, four) in
    let all = length-append piece rest in
    let read = sized-again section size inside rest (omega (arith, long)) (omega (arith, long, parts)) (omega (arith, few, at, all)) in
    let behind : drop 1 (piece ++ rest) ≡ int32 size ++ inside ++ rest = ap (λ (b : List ℕ). drop 1 (b ++ rest)) front in
    let named = name_again section it.name is.documents is.name in
    let docs = documents-again (end - length rest) section it.docs (section + (6 + length it.name)) is.documents own is.docs
    (omega (arith, at, all, long, parts)) in (
      ap (λ (b : List ℕ). get_or (b ++ rest) 0 0) front,
      ap (sequence_at end section) behind
          ∙ rw (read, named, docs) refl,
      omega (arith, long),
    )

module _ (end : ℕ) where
  abbrev next : List ℕ → Result (Found Sequence) Fault
  next rest = sequence_at end (end - length rest) (drop 1 rest)

  abbrev begins : List ℕ → Bool
  begins rest = eqb (get_or rest 0 0) 1

  next-taken : (bytes : List ℕ) (found : Found Sequence) → IsBytes bytes → length bytes ≤ end → begins bytes ≡ true → next bytes ≡ Ok found
      → (piece : List ℕ) × (bytes ≡ piece ++ found.2) × IsSequence (end - length bytes) piece found.0 found.1 × (0 < length piece)
  next-taken bytes found fits near goes is =
      let one : get_or bytes 0 0 ≡ 1 = eqb-true _ _ goes in
      let some = one-some bytes one in
      let whole : bytes ≡ 1 ∷ drop 1 bytes = first-byte bytes some ∙ ap (λ (byte : ℕ). byte ∷ drop 1 bytes) one in
      let long : length bytes ≡ length (drop 1 bytes) + 1 = omega (arith, some, length-drop 1 bytes) in
      let taken = sequence-takes end (end - length bytes) (drop 1 bytes) found (IsBytes-rest (1 ∷ []) (drop 1 bytes) bytes whole fits)
      (omega (arith, near, long)) (ap (λ (n : ℕ). end - n) long) is in
      (taken.0, whole ∙ taken.1, taken.2, taken.3)

  none-begins : (bytes : List ℕ) → length bytes ≡ 0 → begins bytes ≡ false
  none-begins [] none = refl
  none-begins (byte ∷ bytes) none = absurd (omega (arith, none))

  pub sequences-take : (bytes : List ℕ) (found : Found (List Sequence)) → IsBytes bytes → length bytes ≤ end
      → sequences_at end bytes ≡ Ok found
      → (piece : List ℕ) × (bytes ≡ piece ++ found.2) × AreInOrder IsSequence (end - length bytes) piece found.0 found.1
  sequences-take bytes found fits near is =
      let all = many-takes begins next IsSequence end next-taken none-begins (length bytes) bytes found fits near (omega arith) is in
      (all.0, all.1, all.2)

  module _ (few : end ≤ MOST_MESSAGE) where
    next-again : (place : ℕ) (piece rest : List ℕ) (it : Sequence) (own : Option Foreign) → IsSequence place piece it own
        → place + length (piece ++ rest) ≡ end
        → (begins (piece ++ rest) ≡ true) × (next (piece ++ rest) ≡ Ok (it, own, rest)) × (0 < length piece)
    next-again place piece rest it own is at =
        let again = sequence-again end place piece rest it own few is at in
        let here : end - length (piece ++ rest) ≡ place = omega (arith, at) in
        (ap (λ (n : ℕ). eqb n 1) again.0, rw here again.1, again.2)

    pub sequences-again : (all : List Sequence) (place : ℕ) (piece rest : List ℕ) (foreign : Option Foreign)
        → AreInOrder IsSequence place piece all foreign → place + length (piece ++ rest) ≡ end → get_or rest 0 0 ≡ 0
        → sequences_at end (piece ++ rest) ≡ Ok (all, foreign, rest)
    sequences-again all place piece rest foreign is at other =
        many-again begins next IsSequence end next-again all (length (piece ++ rest)) place piece rest foreign is at
        (ap (λ (n : ℕ). eqb n 1) other) (omega (arith, length-append piece rest))

  -- ---- the body, and what is behind it

  pub body-takes : (bytes : List ℕ) (found : Found Doc) → IsBytes bytes → length bytes ≤ end → body_at end bytes ≡ Ok found
      → (document : List ℕ) × (bytes ≡ 0 ∷ document ++ found.2) × IsDocument (end - length bytes + 1) document found.0 found.1
  unfolding body_at
  body-takes bytes found fits near is =
      let read = document_in (end - length bytes) (end - length bytes + 1) (drop 1 bytes) in
      let some = unless_ok (eqb (length bytes) 0) (Body, end)
      (cond (eqb (get_or bytes 0 0) 0) read (Err (Section, end - length bytes))) found is in
      let kind = when_ok (eqb (get_or bytes 0 0) 0) (Section, end - length bytes) read found some.1 in
      let whole : bytes ≡ 0 ∷ drop 1 bytes = first-byte bytes (some-bytes bytes some.0)
      ∙ ap (λ (byte : ℕ). byte ∷ drop 1 bytes) (eqb-true _ _ kind.0) in
      let taken = document-takes (end - length bytes) (end - length bytes + 1) (drop 1 bytes) found
      (IsBytes-rest (0 ∷ []) (drop 1 bytes) bytes whole fits) kind.1 in
      (taken.0, whole ∙ ap (λ (b : List ℕ). 0 ∷ b) taken.1, taken.2)

  pub body-again : (place : ℕ) (document rest : List ℕ) (doc : Doc) (own : Option Foreign) → IsDocument (place + 1) document doc own
      → place + length (0 ∷ document ++ rest) ≡ end → body_at end (0 ∷ document ++ rest) ≡ Ok (doc, own, rest)
  unfolding body_at
  body-again place document rest doc own is at =
      let here : end - length (0 ∷ document ++ rest) ≡ place = omega (arith, at) in
      rw (ne_eqb (length (0 ∷ document ++ rest)) 0 (λ none. omega (arith, none)), here)
      (document-again place (place + 1) document rest doc own is)

  second-not : (place : ℕ) (read : Result (Found Doc) Fault) (none : Unit {0}) → (read >>= λ second. Err (Body, place)) ≡ Ok none → ⊥
  second-not place (Ok it) none is = absurd cc
  second-not place (Err fault) none is = absurd cc

  pub end-takes : (bytes : List ℕ) (none : Unit {0}) → end_at end bytes ≡ Ok none → bytes ≡ []
  unfolding end_at
  end-takes bytes none is =
      elim (branch_ok (eqb (length bytes) 0) (Ok tt) (body_at end bytes >>= λ second. Err (Body, end - length bytes)) none is) [
        | inl alone ↦ empty bytes (eqb-true _ _ alone.0)
        | inr more ↦ absurd (second-not (end - length bytes) (body_at end bytes) none more.1)
      ]
