-- Messages: what is read is one, and each is read.
use Rattle.std.proofs.Common.{◌≡◌, ℕ, ℤ, ◌+◌, ◌-◌, ◌^◌, ◌<◌, ◌≤◌, false, ltb, eqb, cond, List, [], ◌∷◌, ◌++◌, length, get_or}
use Rattle.std.proofs.Common.{take, drop, refl, sym, ap, subst, ◌∙◌, append_assoc, arith, length-drop, length-take}
use Rattle.std.specs.Prelude.{Result, Ok, Err, FitsSigned}
use Rattle.std.specs.Int.{w32, cast_signed, cast_unsigned}
use Rattle.std.proofs.lemmas.Bool.{ltb-false, le-ltb, eqb-false}
use Rattle.std.proofs.lemmas.Int.{ints, to_z-of_z, of_z-to_z}
use Rattle.std.proofs.lemmas.List.{take-append-drop, drop-drop, drop_more}
use Rattle.byteorder.specs.Endian.{little_number}
use Rattle.byteorder.specs.Numbers.{little_from-lt, little_number-reads_back}
use Rattle.bson_wire.specs.Spelling.{int32}
use Rattle.std_words.proofs.Bytes.{IsBytes, IsBytes-rest}
use Rattle.std_words.proofs.Faults.{same_Ok, bind_ok, unless_ok}
use Rattle.op_msg.specs.declared.message.Message.{Message}
use Rattle.op_msg.specs.declared.message.BadKind.TheVariants.{Flags, Checksum, Section}
use Rattle.op_msg.specs.Stream.{InRange, AreSections, message}
use Rattle.op_msg.specs.Reading.{Fault, stated, sections_at, content_at, message_at}
use Rattle.op_msg.proofs.Parts.{cut-four}
use Rattle.op_msg.proofs.Contents.{content-takes, content-again}

-- ---- each message is read

-- what is read of a message at its places
pub record Placed (bytes : List ℕ) (size : ℕ) (request : ℤ) (sections : List ℕ) : Type 0 where
  pub long : length bytes ≡ 20 + length sections
  pub size_is : stated bytes ≡ size
  pub opcode : little_number 4 (drop 12 bytes) ≡ 2013
  pub flags : little_number 2 (drop 16 bytes) ≡ 0
  pub asked : cast_signed w32 (little_number 4 (drop 4 bytes)) ≡ request
  pub behind : drop 20 bytes ≡ sections

placed-cells : (size bits a b c d h k : ℕ) (sections : List ℕ) → size < 2 ^ 32 → bits < 2 ^ 32
    → Placed (int32 size ++ int32 bits ++ (a ∷ b ∷ c ∷ d ∷ []) ++ int32 2013 ++ (0 ∷ 0 ∷ []) ++ (h ∷ k ∷ []) ++ sections) size
    (cast_signed w32 bits) sections
unfolding stated
placed-cells size bits a b c d h k sections small below =
    let rest = (a ∷ b ∷ c ∷ d ∷ []) ++ int32 2013 ++ (0 ∷ 0 ∷ []) ++ (h ∷ k ∷ []) ++ sections in
    record {
      long = omega arith;
      size_is = little_number-reads_back 4 size (int32 bits ++ rest) small;
      opcode = refl;
      flags = refl;
      asked = ap (cast_signed w32) (little_number-reads_back 4 bits rest below);
      behind = refl;
    }

placed-two : (size bits a b c d : ℕ) (high sections : List ℕ) → length high ≡ 2 → size < 2 ^ 32 → bits < 2 ^ 32
    → Placed (int32 size ++ int32 bits ++ (a ∷ b ∷ c ∷ d ∷ []) ++ int32 2013 ++ (0 ∷ 0 ∷ []) ++ high ++ sections) size
    (cast_signed w32 bits) sections
placed-two size bits a b c d [] sections two small below = absurd (omega (arith, two))
placed-two size bits a b c d (h ∷ []) sections two small below = absurd (omega (arith, two))
placed-two size bits a b c d (h ∷ k ∷ []) sections two small below = placed-cells size bits a b c d h k sections small below
placed-two size bits a b c d (h ∷ k ∷ e ∷ more) sections two small below = absurd (omega (arith, two))

placed-four : (size bits : ℕ) (response_to high sections : List ℕ) → length response_to ≡ 4 → length high ≡ 2 → size < 2 ^ 32
    → bits < 2 ^ 32
    → Placed (int32 size ++ int32 bits ++ response_to ++ int32 2013 ++ (0 ∷ 0 ∷ []) ++ high ++ sections) size
    (cast_signed w32 bits) sections
placed-four size bits [] high sections four two small below = absurd (omega (arith, four))
placed-four size bits (a ∷ []) high sections four two small below = absurd (omega (arith, four))
placed-four size bits (a ∷ b ∷ []) high sections four two small below = absurd (omega (arith, four))
placed-four size bits (a ∷ b ∷ c ∷ []) high sections four two small below = absurd (omega (arith, four))
placed-four size bits (a ∷ b ∷ c ∷ d ∷ []) high sections four two small below = placed-two size bits a b c d high sections two small below
placed-four size bits (a ∷ b ∷ c ∷ d ∷ e ∷ more) high sections four two small below = absurd (omega (arith, four))

pub placed : (bytes : List ℕ) (m : Message) → (is : message bytes m) → Placed bytes (length bytes) m.request is.sections
placed bytes m is =
    let bits = cast_unsigned w32 m.request in
    let back : cast_signed w32 bits ≡ m.request = to_z-of_z w32 m.request is.request in
    let there = placed-four (length bytes) bits is.response_to is.high_flags is.sections is.four is.two (omega (arith, is.in_range.1))
    (omega (arith, ints)) in
    subst (λ r. Placed bytes (length bytes) r is.sections) back
    (subst (λ b. Placed b (length bytes) (cast_signed w32 bits) is.sections) (sym is.whole) there)

pub message-again : (bytes : List ℕ) (m : Message) → message bytes m → message_at bytes ≡ Ok m
unfolding message_at sections_at
message-again bytes m is =
    let at = placed bytes m is in
    let long : ltb (length bytes) 20 ≡ false = le-ltb _ _ (omega (arith, at.long)) in
    let content = content-again (length bytes) 20 is.sections m is.in_range.1 is.are (omega (arith, at.long)) in
    rw (long, at.flags, at.behind, at.asked) content

-- ---- what is read is a message

bytes-behind : (n : ℕ) (bytes : List ℕ) → IsBytes bytes → IsBytes (drop n bytes)
bytes-behind n bytes fits = IsBytes-rest (take n bytes) (drop n bytes) bytes (sym (take-append-drop n bytes)) fits

-- four bytes at a place, which are those of a number
cut-at : (place : ℕ) (number : ℕ) (bytes : List ℕ) → IsBytes bytes → place + 4 ≤ length bytes → little_number 4 (drop place bytes) ≡ number
    → drop place bytes ≡ int32 number ++ drop (place + 4) bytes
cut-at place number bytes fits long is =
    let cut = cut-four (drop place bytes) (bytes-behind place bytes fits) (omega (arith, length-drop place bytes)) in
    cut ∙ ap (λ n. int32 n ++ drop 4 (drop place bytes)) is ∙ ap (λ rest. int32 number ++ rest) (drop-drop 4 place bytes)

five-parts : (a b c d e : List ℕ) → a ++ (b ++ (c ++ (d ++ e))) ≡ a ++ b ++ c ++ d ++ e
five-parts a b c d e = sym (append_assoc a b (c ++ (d ++ e))) ∙ sym (append_assoc (a ++ b) c (d ++ e))
    ∙ sym (append_assoc (a ++ b ++ c) d e)

-- two bytes that make the number 0
cut-two : (bytes : List ℕ) → 2 ≤ length bytes → little_number 2 bytes ≡ 0 → bytes ≡ 0 ∷ 0 ∷ drop 2 bytes
cut-two bytes long is =
    let one : get_or bytes 0 0 ≡ 0 = omega (arith, is) in
    let other : get_or bytes 1 0 ≡ 0 = omega (arith, is) in
    drop_more bytes 0 0 (omega arith) ∙ ap (λ byte. byte ∷ drop 1 bytes) one
    ∙ ap (λ rest. 0 ∷ rest) (drop_more bytes 1 0 (omega arith) ∙ ap (λ byte. byte ∷ drop 2 bytes) other)

sections-are : (bytes sections : List ℕ) → sections_at bytes ≡ Ok sections → (20 ≤ length bytes) × (little_number 2 (drop 16 bytes) ≡ 0)
    × (drop 20 bytes ≡ sections)
unfolding sections_at
sections-are bytes sections is =
    let low = little_number 2 (drop 16 bytes) in
    let behind : Result (List ℕ) Fault = cond (eqb low 1) (Err (Checksum, 16)) (Ok (drop 20 bytes)) in
    let long = unless_ok (ltb (length bytes) 20) (Section, 16) (cond (ltb 1 low) (Err (Flags, 16)) behind) sections is in
    let few = unless_ok (ltb 1 low) (Flags, 16) behind sections long.1 in
    let none = unless_ok (eqb low 1) (Checksum, 16) (Ok (drop 20 bytes)) sections few.1 in
    let at_most : low ≤ 1 = ltb-false _ _ few.0 in
    (ltb-false _ _ long.0, omega (arith, at_most, eqb-false _ _ none.0), same_Ok _ _ none.1)

-- what a message has at its fixed places
record Fixed (bytes : List ℕ) (m : Message) : Type 0 where
  pub long : 20 ≤ length bytes
  pub flags : little_number 2 (drop 16 bytes) ≡ 0
  pub request : m.request ≡ cast_signed w32 (little_number 4 (drop 4 bytes))
  pub are : AreSections 20 (drop 20 bytes) m

message-fixed : (bytes : List ℕ) (m : Message) → IsBytes bytes → message_at bytes ≡ Ok m → Fixed bytes m
unfolding message_at
message-fixed bytes m fits is =
    let request = cast_signed w32 (little_number 4 (drop 4 bytes)) in
    let found = bind_ok (sections_at bytes) (λ sections. content_at request (length bytes) sections) m is in
    let places = sections-are bytes found.0 found.1 in
    let content : content_at request (length bytes) (drop 20 bytes) ≡ Ok m = ap (content_at request (length bytes)) places.2 ∙ found.2 in
    let lengths = length-drop 20 bytes in
    let taken = content-takes request (length bytes) (drop 20 bytes) m (bytes-behind 20 bytes fits) (omega (arith, lengths)) content in
    let place : length bytes - length (drop 20 bytes) ≡ 20 = omega (arith, lengths, places.0) in
    record { long = places.0; flags = places.1; request = taken.0; are = subst (λ (n : ℕ). AreSections n (drop 20 bytes) m) place taken.1 }

module _ (bytes : List ℕ) (fits : IsBytes bytes) (in_range : InRange (length bytes)) (stated_is : stated bytes ≡ length bytes)
    (opcode_is : little_number 4 (drop 12 bytes) ≡ 2013) (m : Message) (is : message_at bytes ≡ Ok m) where
  at : Fixed bytes m
  at = message-fixed bytes m fits is

  bits : ℕ
  bits = little_number 4 (drop 4 bytes)

  below : bits < 2 ^ 32
  unfolding bits
  below = little_from-lt 0 4 (drop 4 bytes) (bytes-behind 4 bytes fits)

  unsigned : cast_unsigned w32 m.request ≡ bits
  unfolding bits
  unsigned = ap (cast_unsigned w32) at.request ∙ of_z-to_z w32 bits below

  whole-cut : bytes ≡ int32 (length bytes) ++ int32 bits ++ take 4 (drop 8 bytes) ++ int32 2013 ++ (0 ∷ 0 ∷ []) ++ take 2 (drop 18 bytes)
      ++ drop 20 bytes
  unfolding stated bits
  whole-cut =
      let size : bytes ≡ int32 (length bytes) ++ drop 4 bytes = cut-four bytes fits (omega (arith, at.long))
      ∙ ap (λ n. int32 n ++ drop 4 bytes) stated_is in
      let asked : drop 4 bytes ≡ int32 bits ++ drop 8 bytes = cut-at 4 bits bytes fits (omega (arith, at.long)) refl in
      let answered : drop 8 bytes ≡ take 4 (drop 8 bytes) ++ drop 12 bytes = sym (take-append-drop 4 (drop 8 bytes))
      ∙ ap (λ rest. take 4 (drop 8 bytes) ++ rest) (drop-drop 4 8 bytes) in
      let opcode : drop 12 bytes ≡ int32 2013 ++ drop 16 bytes = cut-at 12 2013 bytes fits (omega (arith, at.long)) opcode_is in
      let low : drop 16 bytes ≡ 0 ∷ 0 ∷ drop 18 bytes = cut-two (drop 16 bytes) (omega (arith, at.long, length-drop 16 bytes)) at.flags
      ∙ ap (λ rest. 0 ∷ 0 ∷ rest) (drop-drop 2 16 bytes) in
      let high : drop 18 bytes ≡ take 2 (drop 18 bytes) ++ drop 20 bytes = sym (take-append-drop 2 (drop 18 bytes))
      ∙ ap (λ rest. take 2 (drop 18 bytes) ++ rest) (drop-drop 2 18 bytes) in
      let from16 : drop 16 bytes ≡ (0 ∷ 0 ∷ []) ++ take 2 (drop 18 bytes) ++ drop 20 bytes = low ∙ ap (λ rest. 0 ∷ 0 ∷ rest) high in
      let from12 : drop 12 bytes ≡ int32 2013 ++ (0 ∷ 0 ∷ []) ++ take 2 (drop 18 bytes) ++ drop 20 bytes = opcode
      ∙ ap (λ rest. int32 2013 ++ rest) from16 in
      let from8 : drop 8 bytes ≡ take 4 (drop 8 bytes) ++ int32 2013 ++ (0 ∷ 0 ∷ []) ++ take 2 (drop 18 bytes) ++ drop 20 bytes = answered
      ∙ ap (λ rest. take 4 (drop 8 bytes) ++ rest) from12
      ∙ five-parts (take 4 (drop 8 bytes)) (int32 2013) (0 ∷ 0 ∷ []) (take 2 (drop 18 bytes)) (drop 20 bytes) in
      let from4 : drop 4 bytes ≡ int32 bits ++ take 4 (drop 8 bytes) ++ int32 2013 ++ (0 ∷ 0 ∷ []) ++ take 2 (drop 18 bytes)
      ++ drop 20 bytes = asked ∙ ap (λ rest. int32 bits ++ rest) from8 in
      size ∙ ap (λ rest. int32 (length bytes) ++ rest) from4

  pub message-takes : message bytes m
  message-takes = record {
    response_to = take 4 (drop 8 bytes);
    high_flags = take 2 (drop 18 bytes);
    sections = drop 20 bytes;
    in_range = in_range;
    request = subst (λ r. FitsSigned w32 r) (sym at.request) (omega (arith, ints));
    four = omega (arith, at.long, length-take 4 (drop 8 bytes), length-drop 8 bytes);
    two = omega (arith, at.long, length-take 2 (drop 18 bytes), length-drop 18 bytes);
    whole = whole-cut ∙ ap (λ b. int32 (length bytes) ++ int32 b ++ take 4 (drop 8 bytes) ++ int32 2013 ++ (0 ∷ 0 ∷ []) ++ take 2
        (drop 18 bytes) ++ drop 20 bytes) (sym unsigned);
    are = at.are;
  }
