-- The loops over documents and over sequences, step by step.
use Rattle.std.proofs.Common.{◌≡◌, ◌≢◌, ℕ, ◌-◌, ◌<◌, ◌≤◌, Bool, false, ltb, eqb, List, [], ◌∷◌, ◌++◌, length, get_or, drop, sym}
use Rattle.std.proofs.Common.{ap, subst, ◌∙◌, append_assoc, arith, length-drop}
use Rattle.std.specs.Prelude.{Option, None, Result, Ok}
use Rattle.std.specs.Option.{option_or}
use Rattle.std.proofs.lemmas.Bool.{lt-ltb, le-ltb, ne_eqb}
use Rattle.std.proofs.lemmas.List.{append-nil}
use Rattle.bson_wire.specs.declared.foreign.Foreign.{Foreign}
use Rattle.bson_wire.proofs.Values.{Doc}
use Rattle.op_msg.specs.declared.message.Sequence.{Sequence}
use Rattle.op_msg.specs.declared.refused.Refused.{Refused}
use Rattle.op_msg.specs.declared.refused.Refused.TheVariants as refused
use Rattle.op_msg.specs.Reading.{Fault, Found, document_in, documents_at, sequence_at, sequences_at, behind_those}
use Rattle.op_msg.specs.Front.{Fails}
use Rattle.std_words.proofs.Parts.{empty}
use Rattle.op_msg.proofs.InOrder.{Goes, goes-start, goes-end, goes-fails, goes-more}

-- ---- documents

abbrev some : List ℕ → Bool
some rest = ltb 0 (length rest)

abbrev document : ℕ → ℕ → List ℕ → Result (Found Doc) Fault
document end section rest = document_in section (end - length rest) rest

-- the documents read so far and those that stand in the rest are all
abbrev pub DocumentsGo : ℕ → ℕ → List ℕ → List ℕ → List Doc → Option Foreign → Type 0
DocumentsGo end section bytes rest docs foreign = Goes some (document end section) bytes rest docs foreign

module _ (end section : ℕ) (bytes rest : List ℕ) (docs : List Doc) (foreign : Option Foreign)
    (goes : DocumentsGo end section bytes rest docs foreign) where
  pub documents-end : length rest ≤ 0 → documents_at end section bytes ≡ Ok (docs, foreign, [])
  documents-end none =
      goes-end some (document end section) bytes rest docs foreign goes (le-ltb _ _ none)
      ∙ ap (λ (r : List ℕ). Ok (docs, foreign, r)) (empty rest (omega (arith, none)))

  pub documents-fail : 0 < length rest → (why : Refused) → Fails why (document_in section (end - length rest) rest)
      → Fails why (documents_at end section bytes)
  documents-fail more why fails = goes-fails some (document end section) bytes rest docs foreign goes more (lt-ltb _ _ more) why fails

  pub documents-more : (after : List ℕ) (all : List Doc) (doc : Doc) (own foreign' : Option Foreign) → 0 < length rest
      → document_in section (end - length rest) rest ≡ Ok (doc, own, after) → length after < length rest
      → all ≡ docs ++ doc ∷ [] → foreign' ≡ option_or foreign own → DocumentsGo end section bytes after all foreign'
  documents-more after all doc own foreign' more is shorter all_is foreign_is =
      subst (λ (d : List Doc). DocumentsGo end section bytes after d foreign') (sym all_is)
      (subst (DocumentsGo end section bytes after (docs ++ doc ∷ [])) (sym foreign_is)
      (goes-more some (document end section) bytes rest after docs foreign own doc goes more (lt-ltb _ _ more) is shorter))

-- ---- sequences

abbrev begins : List ℕ → Bool
begins rest = eqb (get_or rest 0 0) 1

abbrev sequence : ℕ → List ℕ → Result (Found Sequence) Fault
sequence end rest = sequence_at end (end - length rest) (drop 1 rest)

-- the sequences read so far, behind those before them, and those that stand in the rest are all
abbrev pub SequencesGo : ℕ → List Sequence → List ℕ → List ℕ → List Sequence → Option Foreign → Type 0
SequencesGo end before bytes rest all foreign = (found : List Sequence) × (all ≡ before ++ found)
    × Goes begins (sequence end) bytes rest found foreign

pub sequences-start : (end : ℕ) (before : List Sequence) (bytes : List ℕ) → SequencesGo end before bytes bytes before None
sequences-start end before bytes = ([], sym (append-nil before), goes-start begins (sequence end) bytes)

fails-behind : (before : List Sequence) (found : Result (Found (List Sequence)) Fault) (why : Refused) → Fails why found
    → Fails why (behind_those before found)
fails-behind before found refused.NoMemory fails = tt
fails-behind before found (refused.Bad kind place) fails = ap (behind_those before) fails

module _ (end : ℕ) (before : List Sequence) (bytes rest : List ℕ) (all : List Sequence) (foreign : Option Foreign)
    (goes : SequencesGo end before bytes rest all foreign) where
  sequences-end : begins rest ≡ false → behind_those before (sequences_at end bytes) ≡ Ok (all, foreign, rest)
  sequences-end none =
      ap (behind_those before) (goes-end begins (sequence end) bytes rest goes.0 foreign goes.2 none)
      ∙ ap (λ (s : List Sequence). Ok (s, foreign, rest)) (sym goes.1)

  pub sequences-end-none : length rest ≤ 0 → behind_those before (sequences_at end bytes) ≡ Ok (all, foreign, rest)
  sequences-end-none none = sequences-end (ap (λ (r : List ℕ). begins r) (empty rest (omega (arith, none))))

  pub sequences-end-other : get_or rest 0 0 ≢ 1 → behind_those before (sequences_at end bytes) ≡ Ok (all, foreign, rest)
  sequences-end-other other = sequences-end (ne_eqb _ _ other)

  pub sequences-fail : (inside : List ℕ) → 0 < length rest → get_or rest 0 0 ≡ 1 → inside ≡ drop 1 rest → (why : Refused)
      → Fails why (sequence_at end (end - length rest) inside) → Fails why (behind_those before (sequences_at end bytes))
  sequences-fail inside more one inside_is why fails =
      fails-behind before (sequences_at end bytes) why
      (goes-fails begins (sequence end) bytes rest goes.0 foreign goes.2 more (ap (λ (n : ℕ). eqb n 1) one) why
      (subst (λ (b : List ℕ). Fails why (sequence_at end (end - length rest) b)) inside_is fails))

  pub sequences-more : (inside after : List ℕ) (all' : List Sequence) (it : Sequence) (own foreign' : Option Foreign) → 0 < length rest
      → get_or rest 0 0 ≡ 1 → inside ≡ drop 1 rest
      → sequence_at end (end - length rest) inside ≡ Ok (it, own, after) → length after ≤ length inside → all' ≡ all ++ it ∷ []
      → foreign' ≡ option_or foreign own → SequencesGo end before bytes after all' foreign'
  sequences-more inside after all' it own foreign' more one inside_is is shorter all_is foreign_is =
      let less : length after < length rest = omega (arith, more, shorter, ap length inside_is, length-drop 1 rest) in
      let read = subst (λ (b : List ℕ). sequence_at end (end - length rest) b ≡ Ok (it, own, after)) inside_is is in
      let next = goes-more begins (sequence end) bytes rest after goes.0 foreign own it goes.2 more
      (ap (λ (n : ℕ). eqb n 1) one) read less in (
        goes.0 ++ it ∷ [],
        all_is ∙ ap (λ (s : List Sequence). s ++ it ∷ []) goes.1 ∙ append_assoc before goes.0 (it ∷ []),
        subst (λ (f : Option Foreign). Goes begins (sequence end) bytes after (goes.0 ++ it ∷ []) f) (sym foreign_is) next,
      )
