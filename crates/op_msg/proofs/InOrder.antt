-- One after another: what is read is in order, what is in order is read, and a loop reads it.
use Rattle.std.proofs.Common.{◌≡◌, inl, inr, ℕ, zero, suc, ◌+◌, ◌-◌, ◌<◌, ◌≤◌, Bool, true, false, List, [], ◌∷◌, ◌++◌, length}
use Rattle.std.proofs.Common.{refl, sym, ap, subst, ◌∙◌, append_assoc, arith, length-append}
use Rattle.std.specs.Prelude.{Option, None, Some, Result, Ok, Err}
use Rattle.std.specs.Option.{option_or}
use Rattle.std.proofs.lemmas.List.{append-nil}
use Rattle.bson_wire.specs.declared.foreign.Foreign.{Foreign}
use Rattle.std_words.proofs.Bytes.{IsBytes, IsBytes-rest}
use Rattle.std_words.proofs.Faults.{bind_ok, at_found}
use Rattle.std_words.specs.Steps.{◌>>=◌}
use Rattle.op_msg.specs.Stream.{AreInOrder}
use Rattle.op_msg.specs.Reading.{Fault, Found, many_at}
use Rattle.op_msg.specs.Front.{Fails}
use Rattle.op_msg.specs.declared.refused.Refused.{Refused}
use Rattle.op_msg.specs.declared.refused.Refused.TheVariants as refused
use Rattle.std_words.proofs.Faults.{branch_ok}

or-none : (foreign : Option Foreign) → option_or foreign None ≡ foreign
or-none None = refl
or-none (Some it) = refl

or-assoc : (one other more : Option Foreign) → option_or one (option_or other more) ≡ option_or (option_or one other) more
or-assoc None other more = refl
or-assoc (Some it) other more = refl

module _ {A : Type 0} (goes_on : List ℕ → Bool) (one : List ℕ → Result (Found A) Fault) where
  -- where the bytes do not go on, nothing is read
  many-none : (most : ℕ) (rest : List ℕ) → goes_on rest ≡ false → many_at goes_on one most rest ≡ Ok ([], None, rest)
  unfolding many_at
  many-none zero rest none = refl
  many-none (suc most) rest none = rw none refl

  module _ (Is : ℕ → List ℕ → A → Option Foreign → Type 0) (end : ℕ) where
    -- what was read is in order, and the bytes do not go on behind it
    abbrev pub Ends : List ℕ → Found (List A) → Type 0
    Ends bytes found = (piece : List ℕ) × (bytes ≡ piece ++ found.2) × AreInOrder Is (end - length bytes) piece found.0 found.1
        × (goes_on found.2 ≡ false)

    -- what one reading found is one of them
    abbrev pub OneTaken : Type 0
    OneTaken = (bytes : List ℕ) (found : Found A) → IsBytes bytes → length bytes ≤ end → goes_on bytes ≡ true → one bytes ≡ Ok found
        → (piece : List ℕ) × (bytes ≡ piece ++ found.2) × Is (end - length bytes) piece found.0 found.1 × (0 < length piece)

    -- one of them is read
    abbrev pub OneAgain : Type 0
    OneAgain = (place : ℕ) (piece rest : List ℕ) (it : A) (own : Option Foreign) → Is place piece it own
        → place + length (piece ++ rest) ≡ end
        → (goes_on (piece ++ rest) ≡ true) × (one (piece ++ rest) ≡ Ok (it, own, rest)) × (0 < length piece)

    -- one, and the others behind it
    ends-more : (bytes piece : List ℕ) (first : Found A) (others found : Found (List A)) → length bytes ≤ end → bytes ≡ piece ++ first.2
        → Is (end - length bytes) piece first.0 first.1 → Ends first.2 others
        → ◌≡◌ {A = Result (Found (List A)) Fault} (Ok (first.0 ∷ others.0, option_or first.1 others.1, others.2)) (Ok found)
        → Ends bytes found
    ends-more bytes piece first others found near cut is rest made =
        let place : end - length first.2 ≡ end - length bytes + length piece =
        omega (arith, near, ap length cut, length-append piece first.2) in
        let behind = subst (λ (n : ℕ). AreInOrder Is n rest.0 others.0 others.1) place rest.2 in
        let whole : bytes ≡ (piece ++ rest.0) ++ others.2 = cut ∙ ap (λ (b : List ℕ). piece ++ b) rest.1
        ∙ sym (append_assoc piece rest.0 others.2) in
        at_found (Ends bytes) (first.0 ∷ others.0, option_or first.1 others.1, others.2) found made
        (piece ++ rest.0, whole, (piece, rest.0, first.1, others.1, refl, is, behind, refl), rest.3)

    pub many-takes : OneTaken → ((bytes : List ℕ) → length bytes ≡ 0 → goes_on bytes ≡ false)
        → (most : ℕ) (bytes : List ℕ) (found : Found (List A)) → IsBytes bytes → length bytes ≤ end → length bytes ≤ most
        → many_at goes_on one most bytes ≡ Ok found → Ends bytes found
    unfolding many_at
    many-takes taken stops zero bytes found fits near few is =
        at_found (Ends bytes) ([], None, bytes) found is ([], refl, (refl, refl), stops bytes (omega arith))
    many-takes taken stops (suc most) bytes found fits near few is =
        elim (branch_ok (goes_on bytes) (one bytes >>= λ it. many_at goes_on one most it.2
        >>= λ others. Ok (it.0 ∷ others.0, option_or it.1 others.1, others.2)) (Ok ([], None, bytes)) found is) [
          | inl goes ↦
              let first = bind_ok (one bytes) (λ it. many_at goes_on one most it.2
              >>= λ others. Ok (it.0 ∷ others.0, option_or it.1 others.1, others.2)) found goes.1 in
              let others = bind_ok (many_at goes_on one most first.0.2)
              (λ others. Ok (first.0.0 ∷ others.0, option_or first.0.1 others.1, others.2)) found first.2 in
              let it = taken bytes first.0 fits near goes.0 first.1 in
              let lengths : length bytes ≡ length it.0 + length first.0.2 = ap length it.1 ∙ length-append it.0 first.0.2 in
              let rest = many-takes taken stops most first.0.2 others.0 (IsBytes-rest it.0 first.0.2 bytes it.1 fits)
              (omega (arith, lengths, near)) (omega (arith, lengths, few, it.3)) others.1 in
              ends-more bytes it.0 first.0 others.0 found near it.1 it.2 rest others.2
          | inr none ↦ at_found (Ends bytes) ([], None, bytes) found none.1 ([], refl, (refl, refl), none.0)
        ]

    pub many-again : OneAgain → (all : List A) (most place : ℕ) (piece rest : List ℕ) (foreign : Option Foreign)
        → AreInOrder Is place piece all foreign → place + length (piece ++ rest) ≡ end → goes_on rest ≡ false → length piece ≤ most
        → many_at goes_on one most (piece ++ rest) ≡ Ok (all, foreign, rest)
    unfolding many_at
    many-again again [] most place piece rest foreign is at none few =
        ap (λ (b : List ℕ). many_at goes_on one most (b ++ rest)) is.0 ∙ many-none most rest none
        ∙ ap (λ (f : Option Foreign). Ok ([], f, rest)) (sym is.1)
    many-again again (it ∷ more) zero place piece rest foreign is at none few =
        let cut : piece ++ rest ≡ is.0 ++ (is.1 ++ rest) = ap (λ (b : List ℕ). b ++ rest) is.4 ∙ append_assoc is.0 is.1 rest in
        let read = again place is.0 (is.1 ++ rest) it is.2 is.5 (sym (ap (λ (b : List ℕ). place + length b) cut) ∙ at) in
        absurd (omega (arith, few, read.2, ap length is.4, length-append is.0 is.1))
    many-again again (it ∷ more) (suc most) place piece rest foreign is at none few =
        let cut : piece ++ rest ≡ is.0 ++ (is.1 ++ rest) = ap (λ (b : List ℕ). b ++ rest) is.4 ∙ append_assoc is.0 is.1 rest in
        let read = again place is.0 (is.1 ++ rest) it is.2 is.5 (sym (ap (λ (b : List ℕ). place + length b) cut) ∙ at) in
        let lengths : length piece ≡ length is.0 + length is.1 = ap length is.4 ∙ length-append is.0 is.1 in
        let behind : (place + length is.0) + length (is.1 ++ rest) ≡ end =
        omega (arith, at, ap length cut, length-append is.0 (is.1 ++ rest)) in
        let later = many-again again more most (place + length is.0) is.1 rest is.3 is.6 behind none
        (omega (arith, few, lengths, read.2)) in
        ap (many_at goes_on one (suc most)) cut
        ∙ rw (read.0, read.1, later) (ap (λ (f : Option Foreign). Ok (it ∷ more, f, rest)) (sym is.7))

  -- ---- a loop

  -- what was read before goes first
  abbrev pub behind : List A → Option Foreign → Result (Found (List A)) Fault → Result (Found (List A)) Fault
  behind before foreign found = found >>= λ others. Ok (before ++ others.0, option_or foreign others.1, others.2)

  behind-none : (found : Result (Found (List A)) Fault) → behind [] None found ≡ found
  behind-none (Err fault) = refl
  behind-none (Ok others) = refl

  behind-one : (before : List A) (foreign own : Option Foreign) (it : A) (found : Result (Found (List A)) Fault)
      → behind before foreign (found >>= λ others. Ok (it ∷ others.0, option_or own others.1, others.2)) ≡ behind (before ++ it ∷ [])
      (option_or foreign own) found
  behind-one before foreign own it (Err fault) = refl
  behind-one before foreign own it (Ok others) =
      ap (λ (all : List A). Ok (all, option_or foreign (option_or own others.1), others.2)) (sym (append_assoc before (it ∷ []) others.0))
      ∙ ap (λ (f : Option Foreign). Ok ((before ++ it ∷ []) ++ others.0, f, others.2)) (or-assoc foreign own others.1)

  -- some are read, and those that stand in the rest are all the others
  pub record Goes (bytes rest : List ℕ) (before : List A) (foreign : Option Foreign) : Type 0 where
    pub most : ℕ
    pub fuel : length rest ≤ most
    pub within : length rest ≤ length bytes
    pub all : behind before foreign (many_at goes_on one most rest) ≡ many_at goes_on one (length bytes) bytes

  pub goes-start : (bytes : List ℕ) → Goes bytes bytes [] None
  goes-start bytes = record {
    most = length bytes;
    fuel = omega arith;
    within = omega arith;
    all = behind-none (many_at goes_on one (length bytes) bytes);
  }

  pub goes-end : (bytes rest : List ℕ) (before : List A) (foreign : Option Foreign) → Goes bytes rest before foreign → goes_on rest ≡ false
      → many_at goes_on one (length bytes) bytes ≡ Ok (before, foreign, rest)
  goes-end bytes rest before foreign goes none =
      sym goes.all ∙ ap (behind before foreign) (many-none goes.most rest none)
      ∙ ap (λ (all : List A). Ok (all, option_or foreign None, rest)) (append-nil before)
      ∙ ap (λ (f : Option Foreign). Ok (before, f, rest)) (or-none foreign)

  many-more : (most : ℕ) (rest : List ℕ) → 0 < length rest → length rest ≤ most → goes_on rest ≡ true
      → (less : ℕ) × (length rest ≤ suc less)
      × (many_at goes_on one most rest ≡ (one rest >>= λ it. many_at goes_on one less it.2
      >>= λ others. Ok (it.0 ∷ others.0, option_or it.1 others.1, others.2)))
  unfolding many_at
  many-more zero rest some few goes = absurd (omega (arith, some, few))
  many-more (suc most) rest some few goes = (most, few, rw goes refl)

  goes-bad : (bytes rest : List ℕ) (before : List A) (foreign : Option Foreign) → Goes bytes rest before foreign → 0 < length rest
      → goes_on rest ≡ true → (fault : Fault) → one rest ≡ Err fault → many_at goes_on one (length bytes) bytes ≡ Err fault
  goes-bad bytes rest before foreign goes some on fault bad =
      let more = many-more goes.most rest some goes.fuel on in
      sym goes.all ∙ ap (behind before foreign) (more.2
      ∙ ap (λ (r : Result (Found A) Fault). r >>= λ it. many_at goes_on one more.0 it.2
      >>= λ others. Ok (it.0 ∷ others.0, option_or it.1 others.1, others.2)) bad)

  pub goes-fails : (bytes rest : List ℕ) (before : List A) (foreign : Option Foreign) → Goes bytes rest before foreign → 0 < length rest
      → goes_on rest ≡ true → (why : Refused) → Fails why (one rest) → Fails why (many_at goes_on one (length bytes) bytes)
  goes-fails bytes rest before foreign goes some on refused.NoMemory fails = tt
  goes-fails bytes rest before foreign goes some on (refused.Bad kind place) fails =
      goes-bad bytes rest before foreign goes some on (kind, place) fails

  pub goes-more : (bytes rest after : List ℕ) (before : List A) (foreign own : Option Foreign) (it : A) → Goes bytes rest before foreign
      → 0 < length rest → goes_on rest ≡ true → one rest ≡ Ok (it, own, after) → length after < length rest
      → Goes bytes after (before ++ it ∷ []) (option_or foreign own)
  goes-more bytes rest after before foreign own it goes some on is shorter =
      let more = many-more goes.most rest some goes.fuel on in
      let read = more.2 ∙ ap (λ (r : Result (Found A) Fault). r >>= λ it. many_at goes_on one more.0 it.2
      >>= λ others. Ok (it.0 ∷ others.0, option_or it.1 others.1, others.2)) is in
      record {
        most = more.0;
        fuel = omega (arith, more.1, shorter);
        within = omega (arith, shorter, goes.within);
        all = sym (behind-one before foreign own it (many_at goes_on one more.0 after)) ∙ sym (ap (behind before foreign) read) ∙ goes.all;
      }
