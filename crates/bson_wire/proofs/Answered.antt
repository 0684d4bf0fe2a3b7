-- What `read` answers, by what stands at the front.
use Rattle.std.proofs.Common.{◌≡◌, ℕ, ◌-◌, ◌≤◌, List, ◌++◌, length, take, refl, sym, ap, subst, ◌∙◌, arith}
use Rattle.std.specs.Prelude.{Option, Result, Ok, Err}
use Rattle.std.proofs.lemmas.List.{length-append, take_at}
use Rattle.bson_wire.specs.declared.foreign.Foreign.{Foreign}
use Rattle.bson_wire.specs.declared.refused.ReadRefused.{ReadRefused}
use Rattle.bson_wire.specs.declared.refused.ReadRefused.TheVariants.{Malformed, NoMemory}
use Rattle.bson_wire.specs.Grammar.{spells}
use Rattle.std_words.specs.Steps.{fault_of}
use Rattle.bson_wire.specs.Reading.{Fails, document_at, first, with_first, Tells}
use Rattle.std_words.proofs.Faults.{same_Ok, bind_ok, bind_err}
use Rattle.std_words.proofs.Bytes.{IsBytes}
use Rattle.bson_wire.proofs.Documents.{document_takes, document_again}
use Rattle.bson_wire.proofs.Values.{Doc}

-- what was told with its first foreign element was read with a list of them
untold : (read : Result (Doc × List Foreign × List ℕ) ℕ) (doc : Doc) (foreign : Option Foreign) (rest : List ℕ)
    → with_first read ≡ Ok (doc, foreign, rest) → (all : List Foreign) × (read ≡ Ok (doc, all, rest)) × (foreign ≡ first all)
untold read doc foreign rest is =
    let found = bind_ok read (λ it. Ok (it.0, first it.1, it.2)) (doc, foreign, rest) is in
    let same = same_Ok (found.0.0, first found.0.1, found.0.2) (doc, foreign, rest) found.2 in (
      found.0.1,
      found.1 ∙ ap (λ (it : Doc). Ok (it, found.0.1, found.0.2)) (ap (λ it. it.0) same)
          ∙ ap (λ (it : List ℕ). Ok (doc, found.0.1, it)) (ap (λ it. it.2) same),
      sym (ap (λ it. it.1) same),
    )

-- what was refused with it was refused without
unrefused : (read : Result (Doc × List Foreign × List ℕ) ℕ) (place : ℕ) → with_first read ≡ Err place → read ≡ Err place
unrefused read place is = bind_err read (λ it. (it.0, first it.1, it.2)) place is

pub read_found : (bytes rest : List ℕ) (doc : Doc) (foreign : Option Foreign) (used : ℕ) → IsBytes bytes
    → with_first (document_at 128 (length bytes) bytes) ≡ Ok (doc, foreign, rest) → used ≡ length bytes - length rest
    → (used ≤ length bytes) × (all : List Foreign) × spells (take used bytes) doc all × (foreign ≡ first all)
read_found bytes rest doc foreign used fits is count =
    let told = untold (document_at 128 (length bytes) bytes) doc foreign rest is in
    let taken = document_takes bytes (doc, told.0, rest) fits told.1 in
    let len : length taken.0 ≡ used = omega (arith, ap length taken.1, length-append taken.0 rest) in
    let front : take used bytes ≡ taken.0 = ap (λ (all : List ℕ). take used all) taken.1 ∙ take_at taken.0 rest used len in
    (omega arith, told.0, subst (λ (it : List ℕ). spells it doc told.0) (sym front) taken.2, told.2)

-- a document that is spelled at the front is read
front_again : (bytes : List ℕ) (doc : Doc) (foreign : List Foreign) (spelling rest : List ℕ) → spells spelling doc foreign
    → bytes ≡ spelling ++ rest → document_at 128 (length bytes) bytes ≡ Ok (doc, foreign, rest)
front_again bytes doc foreign spelling rest spelled whole = ap (λ (all : List ℕ). document_at 128 (length all) all) whole
    ∙ document_again spelling rest doc foreign spelled

pub read_only : (bytes after : List ℕ) (found : Doc) (told : Option Foreign) (used : ℕ)
    → with_first (document_at 128 (length bytes) bytes) ≡ Ok (found, told, after) → used ≡ length bytes - length after
    → (doc : Doc) (foreign : List Foreign) (spelling rest : List ℕ) → spells spelling doc foreign → bytes ≡ spelling ++ rest
    → (found ≡ doc) × (used ≡ length spelling) × (told ≡ first foreign)
read_only bytes after found told used is count doc foreign spelling rest spelled whole =
    let both = same_Ok (found, told, after) (doc, first foreign, rest) (sym is
    ∙ ap with_first (front_again bytes doc foreign spelling rest spelled whole)) in (
      ap (λ (it : Doc × Option Foreign × List ℕ). it.0) both,
      omega (arith, ap length whole, length-append spelling rest, ap (λ (it : Doc × Option Foreign × List ℕ). length it.2) both),
      ap (λ (it : Doc × Option Foreign × List ℕ). it.1) both,
    )

pub read_refused : (bytes : List ℕ) (refused : ReadRefused) → Fails refused (with_first (document_at 128 (length bytes) bytes))
    → (doc : Doc) (foreign : List Foreign) (spelling rest : List ℕ) → spells spelling doc foreign → bytes ≡ spelling ++ rest
    → refused ≡ NoMemory
read_refused bytes NoMemory fails doc foreign spelling rest spelled whole = refl
read_refused bytes (Malformed place) fails doc foreign spelling rest spelled whole =
    let read = front_again bytes doc foreign spelling rest spelled whole in
    let bad = unrefused (document_at 128 (length bytes) bytes) place fails in
    absurd (cc (read, bad))

pub read_place : (bytes : List ℕ) (refused : ReadRefused) → Fails refused (with_first (document_at 128 (length bytes) bytes))
    → Tells refused bytes
read_place bytes NoMemory fails = tt
read_place bytes (Malformed place) fails = ap fault_of (unrefused (document_at 128 (length bytes) bytes) place fails)
