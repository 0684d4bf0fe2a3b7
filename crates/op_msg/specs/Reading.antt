-- What stands at the front of a stream, read from the left, or the first fault there: its kind, and its place from the front.
use Rattle.std.specs.Prelude.{ℕ, ℤ, zero, suc, ◌≡◌, ◌⊎◌, ◌+◌, ◌-◌, ◌<◌, ◌==◌, ◌||◌, Bool, nat_lt, if◌then◌else◌}
use Rattle.std.specs.Prelude.{List, [], ◌∷◌, ◌++◌, length, take, drop, slice_index, Option, None, Some, Result, Ok, Err}
use Rattle.std.specs.Int.{w32, cast_signed}
use Rattle.std.specs.Option.{option_or}
use Rattle.byteorder.specs.Endian.{little_number}
use Rattle.bson_values.specs.declared.pairs.Pair.{Pair}
use Rattle.bson_values.specs.declared.value.Value.{Value}
use Rattle.bson_wire.specs.declared.foreign.Foreign.{Foreign}
use Rattle.std_words.specs.Steps.{◌>>=◌, fault_of}
use Rattle.bson_wire.specs.Grammar.{MOST_NESTED}
use Rattle.bson_wire.specs.Reading.{document_at, name_at, first}
use Rattle.op_msg.specs.Limits.{LEAST_MESSAGE, MOST_MESSAGE, OP_MSG}
use Rattle.op_msg.specs.Stream.{moved}
use Rattle.op_msg.specs.declared.message.Message.{Message}
use Rattle.op_msg.specs.declared.message.Sequence.{Sequence}
use Rattle.op_msg.specs.declared.message.BadKind.{BadKind}
use Rattle.op_msg.specs.declared.message.BadKind.TheVariants.{Length, OpCode, Flags, Checksum, Section, Body, Document}

-- a kind of fault, and a place
abbrev pub Fault : Type 0
Fault = BadKind × ℕ

-- what four bytes or more state as their messageLength
unfoldable pub stated : List ℕ → ℕ
stated bytes = little_number 4 bytes

-- The fault that shows before a message is whole: with 4 bytes that of the messageLength, with 16 that of the opCode.
unfoldable pub early : List ℕ → Option Fault
early bytes =
    if nat_lt (length bytes) 4 then None
    else if nat_lt (stated bytes) LEAST_MESSAGE then Some (Length, 0)
    else if nat_lt MOST_MESSAGE (stated bytes) then Some (Length, 0)
    else if nat_lt (length bytes) LEAST_MESSAGE then None
    else if little_number 4 (drop 12 bytes) == OP_MSG then None
    else Some (OpCode, 12)

-- not all of a message yet, and no early fault: fewer bytes than a header has, or fewer than they state
abbrev pub short : List ℕ → Type 0
short bytes = (early bytes ≡ None) × ((length bytes < LEAST_MESSAGE) ⊎ (length bytes < stated bytes))

-- the sections of a whole message, behind its flags
unfoldable pub sections_at : List ℕ → Result (List ℕ) Fault
sections_at bytes =
    if nat_lt (length bytes) 20 then Err (Section, 16)
    else if nat_lt 1 (little_number 2 (drop 16 bytes)) then Err (Flags, 16)
    else if little_number 2 (drop 16 bytes) == 1 then Err (Checksum, 16)
    else Ok (drop 20 bytes)

-- what was read at the front: a value, the first foreign element in it, and the bytes behind it
abbrev pub Found : Type 0 → Type 0
Found A = A × Option Foreign × List ℕ

-- a document that was read at this place, with its first foreign element or its fault at places of the message
abbrev pub in_message : ℕ → Result (List (Pair Value) × List Foreign × List ℕ) ℕ → Result (Found (List (Pair Value))) Fault
in_message place (Ok found) = Ok (found.0, moved place (first found.1), found.2)
in_message place (Err at) = Err (Document, place + at)

-- a document at a place, in the section whose kind byte stands at `section`: a fault of that section, where not even a length is there
unfoldable pub document_in : ℕ → ℕ → List ℕ → Result (Found (List (Pair Value))) Fault
document_in section place bytes =
    if nat_lt (length bytes) 4 then Err (Section, section)
    else in_message place (document_at MOST_NESTED (length bytes) bytes)

module _ {A : Type 0} (goes_on : List ℕ → Bool) (one : List ℕ → Result (Found A) Fault) where
  -- one after another, as long as the bytes go on with one; `most` bounds how many
  unfoldable pub many_at : ℕ → List ℕ → Result (Found (List A)) Fault
  many_at zero bytes = Ok ([], None, bytes)
  many_at (suc most) bytes =
      if goes_on bytes
      then (one bytes >>= λ it. many_at most it.2 >>= λ others. Ok (it.0 ∷ others.0, option_or it.1 others.1, others.2))
      else Ok ([], None, bytes)

-- documents that fill the bytes, which end at `end`
abbrev pub documents_at : ℕ → ℕ → List ℕ → Result (Found (List (List (Pair Value)))) Fault
documents_at end section bytes =
    many_at (λ rest. nat_lt 0 (length rest)) (λ rest. document_in section (end - length rest) rest) (length bytes) bytes

-- what stands within a size, which counts itself and at least the 00 of an identifier, and the bytes behind that
unfoldable pub sized_at : ℕ → List ℕ → Result (List ℕ × List ℕ) Fault
sized_at section bytes =
    if nat_lt (length bytes) 4 then Err (Section, section)
    else if nat_lt (little_number 4 bytes) 5 then Err (Section, section)
    else if nat_lt (length bytes) (little_number 4 bytes) then Err (Section, section)
    else Ok (drop 4 (take (little_number 4 bytes) bytes), drop (little_number 4 bytes) bytes)

-- an identifier, and the bytes behind it
abbrev pub identifier_at : ℕ → Result (List ℕ × List ℕ) ℕ → Result (List ℕ × List ℕ) Fault
identifier_at section (Ok found) = Ok found
identifier_at section (Err place) = Err (Section, section)

-- a section of kind 1, behind its kind byte: its size, and within that its identifier and its documents
unfoldable pub sequence_at : ℕ → ℕ → List ℕ → Result (Found Sequence) Fault
sequence_at end section bytes =
    sized_at section bytes >>= λ part.
    identifier_at section (name_at section part.0) >>= λ name.
    documents_at (end - length part.1) section name.1 >>= λ docs.
    Ok (record { name = name.0; docs = docs.0 }, docs.1, part.1)

-- sections of kind 1, up to one of another kind or to the end
abbrev pub sequences_at : ℕ → List ℕ → Result (Found (List Sequence)) Fault
sequences_at end bytes =
    many_at (λ rest. slice_index rest 0 == 1) (λ rest. sequence_at end (end - length rest) (drop 1 rest)) (length bytes) bytes

-- the same, behind those that were read before
abbrev pub behind_those : List Sequence → Result (Found (List Sequence)) Fault → Result (Found (List Sequence)) Fault
behind_those before found = found >>= λ it. Ok (before ++ it.0, it.1, it.2)

-- the section of kind 0 at the front
unfoldable pub body_at : ℕ → List ℕ → Result (Found (List (Pair Value))) Fault
body_at end bytes =
    if length bytes == 0 then Err (Body, end)
    else if slice_index bytes 0 == 0 then document_in (end - length bytes) (end - length bytes + 1) (drop 1 bytes)
    else Err (Section, end - length bytes)

-- nothing is left: another section of kind 0 is a second body
unfoldable pub end_at : ℕ → List ℕ → Result (Unit {0}) Fault
end_at end bytes = if length bytes == 0 then Ok tt else body_at end bytes >>= λ second. Err (Body, end - length bytes)

-- the message with that requestID whose sections these are, which end at `end`
unfoldable pub content_at : ℤ → ℕ → List ℕ → Result Message Fault
content_at request end bytes =
    sequences_at end bytes >>= λ before.
    body_at end before.2 >>= λ body.
    sequences_at end body.2 >>= λ after.
    end_at end after.2 >>= λ none.
    Ok (record {
      request = request;
      body = body.0;
      sequences = before.0 ++ after.0;
      foreign = option_or before.1 (option_or body.1 after.1);
    })

-- the message that all these bytes are
unfoldable pub message_at : List ℕ → Result Message Fault
message_at bytes =
    sections_at bytes >>= λ sections. content_at (cast_signed w32 (little_number 4 (drop 4 bytes))) (length bytes) sections

-- the first fault, in the order in which faults are looked at; none where a message stands at the front, or a part of one
unfoldable pub fault : List ℕ → Option Fault
fault bytes = option_or (early bytes)
    (if nat_lt (length bytes) LEAST_MESSAGE || nat_lt (length bytes) (stated bytes) then None
    else fault_of (message_at (take (stated bytes) bytes)))
