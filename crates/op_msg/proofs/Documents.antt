-- Documents within a message.
use Rattle.std.proofs.Common.{◌≡◌, ℕ, ◌+◌, ◌<◌, ◌≤◌, List, [], ◌∷◌, length, take, drop, sym, ap, ◌∙◌, arith, length-append}
use Rattle.std.proofs.Common.{length-take, length-drop}
use Rattle.std.specs.Prelude.{Option, Some, Result, Ok, Err, unwrap_or}
use Rattle.std.proofs.lemmas.List.{take-append-drop}
use Rattle.bson_wire.specs.declared.foreign.Foreign.{Foreign}
use Rattle.bson_wire.specs.Grammar.{spells, spells_within}
use Rattle.bson_wire.specs.declared.refused.ReadRefused.{ReadRefused}
use Rattle.bson_wire.specs.declared.refused.ReadRefused.TheVariants.{Malformed, NoMemory}
use Rattle.std_words.specs.Steps.{fault_of}
use Rattle.bson_wire.specs.Reading.{document_at, first, Tells}
use Rattle.bson_wire.proofs.Documents.{document_again}
use Rattle.bson_wire.proofs.Bounds.{NotPast, document-not}
use Rattle.bson_wire.proofs.Values.{Doc}
use Rattle.op_msg.specs.declared.message.BadKind.TheVariants.{Document}
use Rattle.op_msg.specs.Reading.{in_message}
use Rattle.op_msg.specs.Stream.{moved}

module _ {A : Type 0} (place : ℕ) where
  is-fault : (found : Result A ℕ) → fault_of found ≡ Some place → found ≡ Err place
  is-fault (Ok it) is = absurd cc
  is-fault (Err at) is = ap (λ (n : ℕ). Err n) (ap (λ (it : Option ℕ). unwrap_or it 0) is)

  not-past : (end : ℕ) (found : Result A ℕ) → fault_of found ≡ Some place → NotPast end found → place ≤ end
  not-past end (Ok it) is one = absurd cc
  not-past end (Err at) is one = omega (arith, one, ap (λ (it : Option ℕ). unwrap_or it 0) is)

same-place : (place at : ℕ) → Malformed place ≡ Malformed at → place ≡ at
same-place place at is = cc

-- a fault stands within the bytes, or at their end
pub fault-near : (bytes : List ℕ) (refused : ReadRefused) (at : ℕ) → Tells refused bytes → refused ≡ Malformed at → at ≤ length bytes
fault-near bytes NoMemory at tells is = absurd cc
fault-near bytes (Malformed place) at tells is =
    omega (
      arith,
      same-place place at is,
      not-past place (length bytes) (document_at 128 (length bytes) bytes) tells
          (document-not (length bytes) bytes),
    )

-- a document has its length and its end byte
pub spelled-long : (document : List ℕ) (doc : Doc) (foreigns : List Foreign) → spells document doc foreigns → 5 ≤ length document
unfolding spells_within
spelled-long document doc foreigns is = omega (arith, ap length is.1.whole, length-append is.1.inside (0 ∷ []))

-- what stands behind a document is shorter
pub shorter-behind : (used : ℕ) (bytes rest : List ℕ) (doc : Doc) (foreigns : List Foreign) → used ≤ length bytes
    → spells (take used bytes) doc foreigns → rest ≡ drop used bytes → length rest < length bytes
shorter-behind used bytes rest doc foreigns near is rest_is =
    omega (arith, near, spelled-long (take used bytes) doc foreigns is, length-take used bytes, ap length rest_is, length-drop used bytes)

pub fault-at : (place at : ℕ) (bytes : List ℕ) (refused : ReadRefused) → Tells refused bytes → refused ≡ Malformed at
    → in_message place (document_at 128 (length bytes) bytes) ≡ Err (Document, place + at)
fault-at place at bytes NoMemory tells is = absurd cc
fault-at place at bytes (Malformed found) tells is = ap (in_message place) (is-fault found (document_at 128 (length bytes) bytes) tells)
    ∙ ap (λ (n : ℕ). Err (Document, place + n)) (same-place found at is)

pub found-at : (place used : ℕ) (bytes rest : List ℕ) (doc : Doc) (told foreign : Option Foreign)
    → (used ≤ length bytes) × (all : List Foreign) × spells (take used bytes) doc all × (told ≡ first all)
    → foreign ≡ moved place told → rest ≡ drop used bytes
    → in_message place (document_at 128 (length bytes) bytes) ≡ Ok (doc, foreign, rest)
found-at place used bytes rest doc told foreign found moved_is rest_is =
    let whole = document_again (take used bytes) (drop used bytes) doc found.1 found.2 in
    ap (λ (b : List ℕ). in_message place (document_at 128 (length b) b)) (sym (take-append-drop used bytes)) ∙ ap (in_message place) whole
    ∙ ap (λ (it : Option Foreign). Ok (doc, moved place it, drop used bytes)) (sym found.3)
    ∙ ap (λ (it : Option Foreign). Ok (doc, it, drop used bytes)) (sym moved_is)
    ∙ ap (λ (r : List ℕ). Ok (doc, foreign, r)) (sym rest_is)
