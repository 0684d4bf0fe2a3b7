-- What stands at the front of a stream: a message, a fault, or less than either.
use Rattle.std.proofs.Common.{◌≡◌, ◌⊎◌, inl, inr, ℕ, ◌≤◌, Bool, true, false, ltb, eqb, ◌||◌, List, ◌++◌, length, take, drop}
use Rattle.std.proofs.Common.{refl, sym, ap, subst, ◌∙◌, arith, length-append, length-drop}
use Rattle.std.specs.Prelude.{Option, None, Some, Ok, if◌then◌else◌}
use Rattle.std.specs.Option.{option_or}
use Rattle.std.proofs.lemmas.Bool.{ltb-false, lt-ltb, le-ltb, eqb-true}
use Rattle.std.proofs.lemmas.List.{take-append-drop, take-append-le, drop-append-le, take_at, length-take-le}
use Rattle.byteorder.specs.Endian.{little_number}
use Rattle.byteorder.specs.Numbers.{little_from-append}
use Rattle.std_words.proofs.Bytes.{IsBytes, IsBytes-front}
use Rattle.op_msg.specs.Limits.{MOST_MESSAGE}
use Rattle.op_msg.specs.declared.message.Message.{Message}
use Rattle.op_msg.specs.declared.message.BadKind.TheVariants.{Length, OpCode}
use Rattle.op_msg.specs.Stream.{InRange, message, BeginsNone}
use Rattle.op_msg.specs.Reading.{Fault, stated, early, short, message_at, fault}
use Rattle.std_words.specs.Steps.{fault_of}
use Rattle.op_msg.specs.Front.{Begins}
use Rattle.op_msg.proofs.Messages.{placed, message-again, message-takes}

-- `early`, by its five tests
abbrev early_by : Bool → Bool → Bool → Bool → Bool → Option Fault
early_by few low high less spoken =
    if few then None else if low then Some (Length, 0) else if high then Some
    (Length, 0) else if less then None else if spoken then None else Some (OpCode, 12)

same-some : (f g : Fault) → ◌≡◌ {A = Option Fault} (Some f) (Some g) → f ≡ g
same-some f g is = cc

not-both : (f : Fault) (found : Option Fault) → found ≡ None → found ≡ Some f → ⊥
not-both f None none some = absurd cc
not-both f (Some g) none some = absurd cc

-- an early fault stays, with more bytes
by-more : (few low high less less' spoken spoken' : Bool) (f : Fault) → early_by few low high less spoken ≡ Some f
    → (less ≡ false → (less' ≡ false) × (spoken' ≡ spoken)) → early_by false low high less' spoken' ≡ Some f
by-more true low high less less' spoken spoken' f is more = absurd cc
by-more false true high less less' spoken spoken' f is more = is
by-more false false true less less' spoken spoken' f is more = is
by-more false false false true less' spoken spoken' f is more = absurd cc
by-more false false false false less' spoken spoken' f is more =
    let same = more refl in
    ap (λ test. early_by false false false test spoken') same.0 ∙ ap (λ test. early_by false false false false test) same.1 ∙ is

some-not-few : (few low high less spoken : Bool) (f : Fault) → early_by few low high less spoken ≡ Some f → few ≡ false
some-not-few true low high less spoken f is = absurd cc
some-not-few false low high less spoken f is = refl

none-by : (low high spoken : Bool) → early_by false low high false spoken ≡ None → (low ≡ false) × (high ≡ false) × (spoken ≡ true)
none-by true high spoken is = absurd cc
none-by false true spoken is = absurd cc
none-by false false true is = (refl, refl, refl)
none-by false false false is = absurd cc

stated-append : (bytes more : List ℕ) → 4 ≤ length bytes → stated (bytes ++ more) ≡ stated bytes
unfolding stated
stated-append bytes more long = little_from-append 4 bytes more long

opcode-append : (bytes more : List ℕ) → 16 ≤ length bytes → little_number 4 (drop 12 (bytes ++ more)) ≡ little_number 4 (drop 12 bytes)
opcode-append bytes more long =
    ap (little_number 4) (drop-append-le 12 bytes more (omega arith))
    ∙ little_from-append 4 (drop 12 bytes) more (omega (arith, length-drop 12 bytes))

pub early-more : (bytes more : List ℕ) (f : Fault) → early bytes ≡ Some f → early (bytes ++ more) ≡ Some f
unfolding early
early-more bytes more f is =
    let few = some-not-few (ltb (length bytes) 4) (ltb (stated bytes) 16) (ltb MOST_MESSAGE (stated bytes)) (ltb (length bytes) 16)
    (eqb (little_number 4 (drop 12 bytes)) 2013) f is in
    let long : 4 ≤ length bytes = ltb-false _ _ few in
    let longer = length-append bytes more in
    let kept = by-more (ltb (length bytes) 4) (ltb (stated bytes) 16) (ltb MOST_MESSAGE (stated bytes)) (ltb (length bytes) 16)
    (ltb (length (bytes ++ more)) 16) (eqb (little_number 4 (drop 12 bytes)) 2013)
    (eqb (little_number 4 (drop 12 (bytes ++ more))) 2013) f is
    (λ all. (
      le-ltb _ _ (omega (arith, ltb-false (length bytes) 16 all, longer)),
      ap (λ n. eqb n 2013) (opcode-append bytes more (ltb-false (length bytes) 16 all)),
    )) in
    let still : ltb (length (bytes ++ more)) 4 ≡ false = le-ltb _ _ (omega (arith, long, longer)) in
    rw (still, stated-append bytes more long) kept

-- 16 bytes with no early fault are a header that is spoken
pub record Header (bytes : List ℕ) : Type 0 where
  pub in_range : InRange (stated bytes)
  pub opcode : little_number 4 (drop 12 bytes) ≡ 2013

pub early-none : (bytes : List ℕ) → 16 ≤ length bytes → early bytes ≡ None → Header bytes
unfolding early
early-none bytes long is =
    let few : ltb (length bytes) 4 ≡ false = le-ltb _ _ (omega arith) in
    let less : ltb (length bytes) 16 ≡ false = le-ltb _ _ long in
    let tests = none-by (ltb (stated bytes) 16) (ltb MOST_MESSAGE (stated bytes)) (eqb (little_number 4 (drop 12 bytes)) 2013)
    (rw (few, less) at is) in
    record { in_range = (ltb-false _ _ tests.0, ltb-false _ _ tests.1); opcode = eqb-true _ _ tests.2 }

none-early : (bytes : List ℕ) → 16 ≤ length bytes → Header bytes → early bytes ≡ None
unfolding early
none-early bytes long header =
    let few : ltb (length bytes) 4 ≡ false = le-ltb _ _ (omega arith) in
    let less : ltb (length bytes) 16 ≡ false = le-ltb _ _ long in
    let low : ltb (stated bytes) 16 ≡ false = le-ltb _ _ header.in_range.0 in
    let high : ltb MOST_MESSAGE (stated bytes) ≡ false = le-ltb _ _ header.in_range.1 in
    rw (few, low, high, less, header.opcode) refl

-- ---- a message at the front

module _ (bytes piece behind : List ℕ) (m : Message) (cut : bytes ≡ piece ++ behind) (is : message piece m) where
  pub states : stated bytes ≡ length piece
  states = ap stated cut ∙ stated-append piece behind (omega (arith, is.in_range.0)) ∙ (placed piece m is).size_is

  pub within : length piece ≤ length bytes
  within = omega (arith, ap length cut, length-append piece behind)

  pub message-front : piece ≡ take (stated bytes) bytes
  message-front = sym (take_at piece behind (stated bytes) (sym states)) ∙ ap (take (stated bytes)) (sym cut)

  pub message-early : early bytes ≡ None
  message-early =
      let opcode : little_number 4 (drop 12 bytes) ≡ 2013 = ap (λ b. little_number 4 (drop 12 b)) cut
      ∙ opcode-append piece behind is.in_range.0 ∙ (placed piece m is).opcode in
      none-early bytes (omega (arith, within, is.in_range.0))
      (record { in_range = (omega (arith, states, is.in_range.0), omega (arith, states, is.in_range.1)); opcode = opcode })

  pub message-not-short : short bytes → ⊥
  message-not-short low =
      elim low.1 [ inl few ↦ absurd (omega (arith, few, within, is.in_range.0)) | inr less ↦ absurd (omega (arith, less, within, states)) ]

  pub message-no-fault : fault bytes ≡ None
  unfolding fault
  message-no-fault =
      let few : ltb (length bytes) 16 ≡ false = le-ltb _ _ (omega (arith, within, is.in_range.0)) in
      let less : ltb (length bytes) (stated bytes) ≡ false = le-ltb _ _ (omega (arith, within, states)) in
      let read = message-again piece m is in
      rw (message-early, few, less, ← message-front, read) refl

pub fault-none : (bytes : List ℕ) (f : Fault) → fault bytes ≡ Some f → BeginsNone bytes
fault-none bytes f bad m piece behind cut is = not-both f (fault bytes) (message-no-fault bytes piece behind m cut is) bad

pub short-none : (bytes : List ℕ) → short bytes → BeginsNone bytes
short-none bytes low m piece behind cut is = message-not-short bytes piece behind m cut is low

either-less : (few less : Bool) (found : Option Fault) → (few ≡ true) ⊎ (less ≡ true) → (if few || less then None else found) ≡ None
either-less true less found one = refl
either-less false true found one = refl
either-less false false found one = elim one [ inl is ↦ absurd cc | inr is ↦ absurd cc ]

pub short-no-fault : (bytes : List ℕ) → short bytes → fault bytes ≡ None
unfolding fault
short-no-fault bytes low =
    let test : (ltb (length bytes) 16 ≡ true) ⊎ (ltb (length bytes) (stated bytes) ≡ true) =
    elim low.1 [ inl few ↦ inl (lt-ltb _ _ few) | inr less ↦ inr (lt-ltb _ _ less) ] in
    rw low.0 (either-less (ltb (length bytes) 16) (ltb (length bytes) (stated bytes))
    (fault_of (message_at (take (stated bytes) bytes))) test)

-- ---- a fault at the front

-- a fault that is not early is one of a whole message
late : (few less : Bool) (found : Option Fault) (f : Fault) → (if few || less then None else found) ≡ Some f
    → (few ≡ false) × (less ≡ false) × (found ≡ Some f)
late true less found f is = absurd cc
late false true found f is = absurd cc
late false false found f is = (refl, refl, is)

fault-later : (bytes more : List ℕ) (found : Option Fault) (f : Fault) → early bytes ≡ found
    → option_or found (if ltb (length bytes) 16 || ltb (length bytes) (stated bytes) then None else fault_of
    (message_at (take (stated bytes) bytes))) ≡ Some f → fault (bytes ++ more) ≡ Some f
unfolding fault
fault-later bytes more (Some g) f is bad = rw (early-more bytes more g is) bad
fault-later bytes more None f is bad =
    let tests = late (ltb (length bytes) 16) (ltb (length bytes) (stated bytes))
    (fault_of (message_at (take (stated bytes) bytes))) f bad in
    let long : 16 ≤ length bytes = ltb-false _ _ tests.0 in
    let all : stated bytes ≤ length bytes = ltb-false _ _ tests.1 in
    let longer = length-append bytes more in
    let same : stated (bytes ++ more) ≡ stated bytes = stated-append bytes more (omega (arith, long)) in
    let header = early-none bytes long is in
    let none : early (bytes ++ more) ≡ None =
    none-early (bytes ++ more) (omega (arith, long, longer))
    (record {
      in_range = (omega (arith, same, header.in_range.0), omega (arith, same, header.in_range.1));
      opcode = opcode-append bytes more long ∙ header.opcode;
    }) in
    let few : ltb (length (bytes ++ more)) 16 ≡ false = le-ltb _ _ (omega (arith, long, longer)) in
    let less : ltb (length (bytes ++ more)) (stated bytes) ≡ false = le-ltb _ _ (omega (arith, all, longer)) in
    rw (none, same, few, less, take-append-le (stated bytes) bytes more all) tests.2

-- a fault stays one, whatever follows
pub fault-more : (bytes more : List ℕ) (f : Fault) → fault bytes ≡ Some f → fault (bytes ++ more) ≡ Some f
unfolding fault
fault-more bytes more f bad = fault-later bytes more (early bytes) f refl bad

-- ---- what is read of a whole front is a message

module _ (bytes : List ℕ) (fits : IsBytes bytes) (long : 16 ≤ length bytes) (header : Header bytes) (all : stated bytes ≤ length bytes)
    (m : Message) (is : message_at (take (stated bytes) bytes) ≡ Ok m) where
  front : List ℕ
  front = take (stated bytes) bytes

  whole : bytes ≡ front ++ drop (stated bytes) bytes
  unfolding front
  whole = sym (take-append-drop (stated bytes) bytes)

  size : length front ≡ stated bytes
  unfolding front
  size = length-take-le (stated bytes) bytes all

  least : 16 ≤ length front
  least = omega (arith, size, header.in_range.0)

  pub front-begins : Begins bytes m (stated bytes)
  unfolding front
  front-begins =
      let same : stated front ≡ stated bytes =
      sym (ap stated whole ∙ stated-append front (drop (stated bytes) bytes) (omega (arith, least))) in
      let opcode : little_number 4 (drop 12 front) ≡ 2013 =
      sym (ap (λ b. little_number 4 (drop 12 b)) whole ∙ opcode-append front (drop (stated bytes) bytes) least) ∙ header.opcode in
      record {
        within = all;
        some = header.in_range.0;
        alone = message-takes front (IsBytes-front front (drop (stated bytes) bytes) bytes whole fits)
            (omega (arith, size, header.in_range.0), omega (arith, size, header.in_range.1)) (same ∙ sym size) opcode m is;
      }

-- the same with what `take` names
pub taken-whole : (bytes behind front : List ℕ) (used : ℕ) (m : Message) → IsBytes bytes → used ≡ stated bytes → 16 ≤ used
    → used ≤ MOST_MESSAGE → 16 ≤ length bytes → little_number 4 behind ≡ 2013 → behind ≡ drop 12 bytes → used ≤ length bytes
    → front ≡ take used bytes → message_at front ≡ Ok m
    → Begins bytes m used
taken-whole bytes behind front used m fits used_is low high long opcode behind_is all front_is is =
    let header : Header bytes = record {
      in_range = (omega (arith, used_is), omega (arith, used_is));
      opcode = ap (little_number 4) (sym behind_is) ∙ opcode;
    } in
    let whole : message_at (take (stated bytes) bytes) ≡ Ok m = ap message_at (ap (λ n. take n bytes) (sym used_is) ∙ sym front_is) ∙ is in
    subst (Begins bytes m) (sym used_is) (front-begins bytes fits long header (omega (arith, used_is, all)) m whole)

pub begins-alone : (bytes : List ℕ) (m : Message) (used : ℕ) → Begins bytes m used → (fault bytes ≡ None) × (short bytes → ⊥)
begins-alone bytes m used begins =
    let cut : bytes ≡ take used bytes ++ drop used bytes = sym (take-append-drop used bytes) in (
      message-no-fault bytes (take used bytes) (drop used bytes) m cut begins.alone,
      message-not-short bytes (take used bytes)
          (drop used bytes) m cut begins.alone,
    )
