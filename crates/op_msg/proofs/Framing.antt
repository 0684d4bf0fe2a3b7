-- A stream has one framing, however it is cut into pieces.
use Rattle.std.proofs.Common.{◌≡◌, ◌⊎◌, inl, inr, ℕ, ◌≤◌, List, [], ◌∷◌, ◌++◌, length, take, drop, refl, sym, ap, subst, ◌∙◌}
use Rattle.std.proofs.Common.{append_assoc, arith, length-append}
use Rattle.std.specs.Prelude.{Option, None, Some, Result, Ok, Err}
use Rattle.std.specs.List.{flat_map}
use Rattle.std.proofs.lemmas.Bool.{cases_lt, le-ltb}
use Rattle.std.proofs.lemmas.List.{append-nil, drop_at}
use Rattle.std_words.proofs.Bytes.{IsBytes}
use Rattle.std_words.proofs.Faults.{same_Ok}
use Rattle.op_msg.specs.declared.message.Message.{Message}
use Rattle.op_msg.specs.Stream.{message, in_order, frames, BeginsNone, TakenFrom}
use Rattle.op_msg.specs.Reading.{Fault, stated, early, short, message_at, fault}
use Rattle.op_msg.specs.Front.{Begins}
use Rattle.op_msg.proofs.Messages.{message-again}
use Rattle.op_msg.proofs.Fronts.{message-front, early-none, front-begins}

-- two messages at one front are the same, and so is what stands behind them
front-one : (bytes one behind other behind' : List ℕ) (m n : Message) → bytes ≡ one ++ behind → bytes ≡ other ++ behind' → message one m
    → message other n → (m ≡ n) × (behind ≡ behind')
front-one bytes one behind other behind' m n cut cut' is is' =
    let same : one ≡ other = message-front bytes one behind m cut is ∙ sym (message-front bytes other behind' n cut' is') in
    let rest : behind ≡ behind' = sym (drop_at one behind (length one) refl) ∙ ap (drop (length one)) (sym cut ∙ cut')
    ∙ drop_at other behind' (length one) (ap length (sym same)) in
    (same_Ok m n (sym (message-again one m is) ∙ ap message_at same ∙ message-again other n is'), rest)

frames-one : (bytes : List ℕ) (ms ns : List Message) (rest rest' : List ℕ) → in_order bytes ms rest → BeginsNone rest
    → in_order bytes ns rest' → BeginsNone rest' → (ms ≡ ns) × (rest ≡ rest')
frames-one bytes [] [] rest rest' one none other none' = (refl, sym one ∙ other)
frames-one bytes [] (n ∷ ns) rest rest' one none other none' = absurd (none n other.0 other.1 (sym one ∙ other.2) other.3)
frames-one bytes (m ∷ ms) [] rest rest' one none other none' = absurd (none' m one.0 one.1 (sym other ∙ one.2) one.3)
frames-one bytes (m ∷ ms) (n ∷ ns) rest rest' one none other none' =
    let front = front-one bytes one.0 one.1 other.0 other.1 m n one.2 other.2 one.3 other.3 in
    let behind = frames-one one.1 ms ns rest rest' one.4 none (subst (λ b. in_order b ns rest') (sym front.1) other.4) none' in
    (ap (λ x. x ∷ ms) front.0 ∙ ap (λ xs. n ∷ xs) behind.0, behind.1)

pub one-framing : (bytes : List ℕ) (ms ns : List Message) (rest rest' : List ℕ) → frames bytes ms rest → frames bytes ns rest'
    → (ms ≡ ns) × (rest ≡ rest')
one-framing bytes ms ns rest rest' one other = frames-one bytes ms ns rest rest' one.order one.none_more other.order other.none_more

pub none-empty : BeginsNone []
none-empty m piece behind cut is = absurd (omega (arith, ap length cut, length-append piece behind, is.in_range.0))

-- ---- a stream, longer

-- more bytes came
pub in_order-more : (bytes more rest : List ℕ) (ms : List Message) → in_order bytes ms rest → in_order (bytes ++ more) ms (rest ++ more)
in_order-more bytes more rest [] same = ap (λ b. b ++ more) same
in_order-more bytes more rest (m ∷ ms) found = (
  found.0,
  found.1 ++ more,
  ap (λ b. b ++ more) found.2
      ∙ append_assoc found.0 found.1 more,
  found.3,
  in_order-more found.1 more rest ms found.4,
)

-- the rest has messages of its own
pub in_order-append : (bytes middle rest : List ℕ) (ms ns : List Message) → in_order bytes ms middle → in_order middle ns rest
    → in_order bytes (ms ++ ns) rest
in_order-append bytes middle rest [] ns same more = subst (λ b. in_order b ns rest) (sym same) more
in_order-append bytes middle rest (m ∷ ms) ns found more =
    (found.0, found.1, found.2, found.3, in_order-append found.1 middle rest ms ns found.4 more)

-- the rest begins with a message
pub in_order-on : (bytes piece behind rest : List ℕ) (ms : List Message) (m : Message) → in_order bytes ms rest → rest ≡ piece ++ behind
    → message piece m → in_order bytes (ms ++ m ∷ []) behind
in_order-on bytes piece behind rest ms m found cut is = in_order-append bytes rest behind ms (m ∷ []) found (piece, behind, cut, is, refl)

taken : (kept : List ℕ) (pieces : List (List ℕ)) (ms : List Message) (rest : List ℕ) → BeginsNone kept → TakenFrom kept pieces ms rest
    → frames (kept ++ flat_map (λ (piece : List ℕ). piece) pieces) ms rest
taken kept [] ms rest none found =
    subst (λ ns. frames (kept ++ []) ns rest) (sym found.0)
    (record { order = append-nil kept ∙ found.1; none_more = subst BeginsNone found.1 none })
taken kept (piece ∷ pieces) ms rest none found =
    let others = flat_map (λ (it : List ℕ). it) pieces in
    let later = taken found.2 pieces found.1 rest found.4.none_more found.5 in
    let now : in_order ((kept ++ piece) ++ others) found.0 (found.2 ++ others) =
    in_order-more (kept ++ piece) others found.2 found.0 found.4.order in
    let all = in_order-append ((kept ++ piece) ++ others) (found.2 ++ others) rest found.0 found.1 now later.order in
    record {
      order = subst (λ ns. in_order (kept ++ (piece ++ others)) ns rest) (sym found.3)
          (subst (λ b. in_order b (found.0 ++ found.1) rest) (append_assoc kept piece others) all);
      none_more = later.none_more;
    }

pub cuts-not : (pieces : List (List ℕ)) (ms : List Message) (rest : List ℕ) → TakenFrom [] pieces ms rest
    → frames (flat_map (λ (piece : List ℕ). piece) pieces) ms rest
cuts-not pieces ms rest = taken [] pieces ms rest none-empty

-- ---- each front is one thing

abbrev pub OneOf : List ℕ → Type 0
OneOf bytes = short bytes ⊎ ((f : Fault) × (fault bytes ≡ Some f)) ⊎ ((m : Message) × (used : ℕ) × Begins bytes m used)

whole-is : (bytes : List ℕ) → IsBytes bytes → 16 ≤ length bytes → stated bytes ≤ length bytes → early bytes ≡ None
    → (found : Result Message Fault) → message_at (take (stated bytes) bytes) ≡ found → OneOf bytes
unfolding fault
whole-is bytes fits long all none (Ok m) is =
    inr (inr (m, stated bytes, front-begins bytes fits long (early-none bytes long none) all m is))
whole-is bytes fits long all none (Err f) is = inr (inl (f, rw (none, le-ltb _ _ long, le-ltb _ _ all, is) refl))

late-is : (bytes : List ℕ) → IsBytes bytes → early bytes ≡ None → OneOf bytes
late-is bytes fits none =
    elim (cases_lt (length bytes) 16) [
      | inl few ↦ inl (none, inl few)
      | inr long ↦ elim (cases_lt (length bytes) (stated bytes)) [
        | inl less ↦ inl (none, inr less)
        | inr all ↦ whole-is bytes fits long all none (message_at (take (stated bytes) bytes)) refl
      ]
    ]

early-is : (bytes : List ℕ) → IsBytes bytes → (found : Option Fault) → early bytes ≡ found → OneOf bytes
unfolding fault
early-is bytes fits None is = late-is bytes fits is
early-is bytes fits (Some f) is = inr (inl (f, rw is refl))

pub front-is : (bytes : List ℕ) → IsBytes bytes → OneOf bytes
front-is bytes fits = early-is bytes fits (early bytes) refl
