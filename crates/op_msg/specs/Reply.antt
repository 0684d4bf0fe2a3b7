-- The bytes of a reply: OP_MSG of the Wire Protocol, with no flags and one section, of kind 0.
use Rattle.std.specs.Prelude.{ℕ, ℤ, ◌+◌, List, [], ◌∷◌, ◌++◌, length}
use Rattle.std.specs.Int.{w32, cast_unsigned}
use Rattle.bson_values.specs.declared.pairs.Pair.{Pair}
use Rattle.bson_values.specs.declared.value.Value.{Value}
use Rattle.bson_wire.specs.Spelling.{int32, spell}
use Rattle.op_msg.specs.Limits.{OP_MSG}

-- what stands before a document of that size: messageLength, requestID, responseTo, opCode, flagBits, and the section's kind
abbrev pub header : ℤ → ℤ → ℕ → List ℕ
header number request size =
    int32 (size + 21) ++ int32 (cast_unsigned w32 number) ++ int32 (cast_unsigned w32 request)
    ++ int32 OP_MSG ++ int32 0 ++ 0 ∷ []

-- the same and the document
abbrev pub reply : ℤ → ℤ → List (Pair Value) → List ℕ
reply number request doc = header number request (length (spell doc)) ++ spell doc
