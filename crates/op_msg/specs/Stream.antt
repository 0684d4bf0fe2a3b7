-- A stream as messages: OP_MSG of the Wire Protocol, in the part that is built: no moreToCome.
use Rattle.std.specs.Prelude.{ℕ, ◌≡◌, ◌≤◌, ◌+◌, ◌-◌, Option, None, Some, List, [], ◌∷◌, ◌++◌, length, FitsSigned}
use Rattle.std.specs.Int.{w32, cast_unsigned}
use Rattle.std.specs.Option.{option_or}
use Rattle.bson_values.specs.declared.pairs.Pair.{Pair}
use Rattle.bson_values.specs.declared.value.Value.{Value}
use Rattle.bson_wire.specs.Spelling.{int32, cstring}
use Rattle.bson_wire.specs.declared.foreign.Foreign.{Foreign}
use Rattle.bson_wire.specs.Grammar.{IsName, spells}
use Rattle.bson_wire.specs.Reading.{first}
use Rattle.op_msg.specs.Limits.{LEAST_MESSAGE, MOST_MESSAGE, OP_MSG}
use Rattle.op_msg.specs.declared.message.Sequence.{Sequence}
use Rattle.op_msg.specs.declared.message.Message.{Message}

-- a messageLength that a message may state
abbrev pub InRange : ℕ → Type 0
InRange size = (LEAST_MESSAGE ≤ size) × (size ≤ MOST_MESSAGE)

-- a foreign element of a document that stands at this place of a message
abbrev pub moved : ℕ → Option Foreign → Option Foreign
moved place None = None
moved place (Some it) = Some (record { code = it.code; place = place + it.place })

-- What follows is said of bytes whose first stands at `place` of a message, and of the first foreign element in them.

-- the bytes spell the document
abbrev pub IsDocument : ℕ → List ℕ → List (Pair Value) → Option Foreign → Type 0
IsDocument place bytes doc foreign = (all : List Foreign) × spells bytes doc all × (foreign ≡ moved place (first all))

module _ {A : Type 0} (Is : ℕ → List ℕ → A → Option Foreign → Type 0) where
  -- one after another
  abbrev pub AreInOrder : ℕ → List ℕ → List A → Option Foreign → Type 0
  AreInOrder place bytes [] foreign = (bytes ≡ []) × (foreign ≡ None)
  AreInOrder place bytes (it ∷ more) foreign =
      (piece : List ℕ) × (rest : List ℕ) × (own : Option Foreign) × (others : Option Foreign) × (bytes ≡ piece ++ rest)
      × Is place piece it own × AreInOrder (place + length piece) rest more others × (foreign ≡ option_or own others)

-- a section of kind 1: a size, which counts the bytes behind the kind byte, an identifier, and documents
pub record IsSequence (place : ℕ) (bytes : List ℕ) (it : Sequence) (foreign : Option Foreign) : Type 0 where
  pub documents : List ℕ
  pub whole : bytes ≡ 1 ∷ int32 (length bytes - 1) ++ cstring it.name ++ documents
  pub name : IsName it.name
  pub docs : AreInOrder IsDocument (place + (6 + length it.name)) documents it.docs foreign

-- the sections of a message: one, the body, is of kind 0, and those before and behind it are of kind 1
pub record AreSections (place : ℕ) (bytes : List ℕ) (m : Message) : Type 0 where
  pub before : List ℕ
  pub document : List ℕ
  pub after : List ℕ
  pub front : List Sequence
  pub back : List Sequence
  pub ahead : Option Foreign
  pub own : Option Foreign
  pub behind : Option Foreign
  pub whole : bytes ≡ before ++ (0 ∷ document ++ after)
  pub front_is : AreInOrder IsSequence place before front ahead
  pub body : IsDocument (place + length before + 1) document m.body own
  pub back_is : AreInOrder IsSequence (place + length before + 1 + length document) after back behind
  pub sequences : m.sequences ≡ front ++ back
  pub foreign : m.foreign ≡ option_or ahead (option_or own behind)

-- These bytes, all of them, are this message: messageLength, requestID, responseTo, opCode, flagBits, sections.
-- Of the flags the bits 0 to 15 are 0, and the others are not looked at.
pub record message (bytes : List ℕ) (m : Message) : Type 0 where
  pub response_to : List ℕ
  pub high_flags : List ℕ
  pub sections : List ℕ
  pub in_range : InRange (length bytes)
  pub request : FitsSigned w32 m.request
  pub four : length response_to ≡ 4
  pub two : length high_flags ≡ 2
  pub whole : bytes ≡ int32 (length bytes) ++ int32 (cast_unsigned w32 m.request) ++ response_to ++ int32 OP_MSG
      ++ (0 ∷ 0 ∷ []) ++ high_flags ++ sections
  pub are : AreSections 20 sections m

-- the messages one after another, then the rest
abbrev pub in_order : List ℕ → List Message → List ℕ → Type 0
in_order bytes [] rest = bytes ≡ rest
in_order bytes (m ∷ ms) rest =
    (piece : List ℕ) × (behind : List ℕ) × (bytes ≡ piece ++ behind) × message piece m × in_order behind ms rest

-- no message stands at the front
abbrev pub BeginsNone : List ℕ → Type 0
BeginsNone rest = (m : Message) (piece behind : List ℕ) → rest ≡ piece ++ behind → message piece m → ⊥

-- a whole stream: the messages in order, then a rest that no message begins
pub record frames (bytes : List ℕ) (ms : List Message) (rest : List ℕ) : Type 0 where
  pub order : in_order bytes ms rest
  pub none_more : BeginsNone rest

-- A stream that comes in pieces: behind each piece all whole messages are taken, and the bytes behind them are kept.
abbrev pub TakenFrom : List ℕ → List (List ℕ) → List Message → List ℕ → Type 0
TakenFrom kept [] ms rest = (ms ≡ []) × (kept ≡ rest)
TakenFrom kept (piece ∷ pieces) ms rest =
    (now : List Message) × (later : List Message) × (behind : List ℕ) × (ms ≡ now ++ later)
    × frames (kept ++ piece) now behind × TakenFrom behind pieces later rest
