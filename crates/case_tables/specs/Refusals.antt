-- The kinds of refusals, and what is told of each: an error code, its name, and a sentence.
use Prim.Native.String.{String}
use Rattle.std.specs.Prelude.{ℕ, ◌==◌, List, [], ◌∷◌, if◌then◌else◌, map, codes}
use Rattle.case_tables.specs.declared.kinds.Coded.{Coded}
use Rattle.case_tables.specs.declared.kinds.TheConstants.{INTERNAL_ERROR, UNSUPPORTED_TYPE, UNKNOWN_OPERATOR, BAD_OPERAND}
use Rattle.case_tables.specs.declared.kinds.TheConstants.{BAD_ID, NOT_STORABLE, NUMBER_OUT_OF_RANGE, FIELD_OUT_OF_RANGE}
use Rattle.case_tables.specs.declared.kinds.TheConstants.{BAD_PATH, WRONG_OPERAND_TYPE, BAD_PROJECTION, UNKNOWN_FIELD}
use Rattle.case_tables.specs.declared.kinds.TheConstants.{FIELD_GIVEN_TWICE, FIELD_MISSING, BAD_UPDATE, FOREIGN_CURSOR}
use Rattle.case_tables.specs.declared.kinds.TheConstants.{WRONG_TYPE, NOT_A_WHOLE_NUMBER, NAMESPACE_NOT_FOUND}
use Rattle.case_tables.specs.declared.kinds.TheConstants.{NAMESPACE_EXISTS, PATH_NOT_VIABLE, PATHS_CONFLICT, CURSOR_NOT_FOUND}
use Rattle.case_tables.specs.declared.kinds.TheConstants.{OUT_OF_MEMORY, NO_SUCH_COMMAND, ID_CANNOT_CHANGE, INVALID_NAMESPACE}
use Rattle.case_tables.specs.declared.kinds.TheConstants.{RESERVED, NOT_SUPPORTED, DOCUMENT_TOO_LARGE, DUPLICATE_KEY}
use Rattle.case_tables.specs.declared.kinds.TheConstants.{TOO_MANY_CURSORS, NUMBERS_SPENT, TOO_MANY_COLLECTIONS}

-- a constant of the code, the kind that it is, and what is told of that kind
pub record Listed : Type 0 where
  pub constant : ℕ
  pub kind : ℕ
  pub code : ℕ
  pub name : List ℕ
  pub text : List ℕ

abbrev pub row : ℕ → ℕ → ℕ → String → String → Listed
row constant kind code name text =
    record { constant = constant; kind = kind; code = code; name = codes name; text = codes text }

-- all of them
abbrev pub listed : List Listed
listed =
    row INTERNAL_ERROR 1 1 "InternalError" "the store could not keep the change" ∷
    row UNSUPPORTED_TYPE 2 2 "BadValue" "unsupported BSON type" ∷
    row UNKNOWN_OPERATOR 3 2 "BadValue" "unknown operator" ∷
    row BAD_OPERAND 4 2 "BadValue" "bad operand" ∷
    row BAD_ID 5 2 "BadValue" "value cannot be an _id" ∷
    row NOT_STORABLE 6 2 "BadValue" "document cannot be stored" ∷
    row NUMBER_OUT_OF_RANGE 7 2 "BadValue" "number out of range" ∷
    row FIELD_OUT_OF_RANGE 8 2 "BadValue" "field value out of range" ∷
    row BAD_PATH 9 2 "BadValue" "bad path" ∷
    row WRONG_OPERAND_TYPE 10 2 "BadValue" "operator does not apply to the value" ∷
    row BAD_PROJECTION 11 2 "BadValue" "bad projection" ∷
    row UNKNOWN_FIELD 12 9 "FailedToParse" "unknown field" ∷
    row FIELD_GIVEN_TWICE 13 9 "FailedToParse" "field given twice" ∷
    row FIELD_MISSING 14 9 "FailedToParse" "field missing" ∷
    row BAD_UPDATE 15 9 "FailedToParse" "bad update" ∷
    row FOREIGN_CURSOR 16 13 "Unauthorized" "cursor belongs to another namespace" ∷
    row WRONG_TYPE 17 14 "TypeMismatch" "field has the wrong type" ∷
    row NOT_A_WHOLE_NUMBER 18 14 "TypeMismatch" "value is not a whole number" ∷
    row NAMESPACE_NOT_FOUND 19 26 "NamespaceNotFound" "ns not found" ∷
    row NAMESPACE_EXISTS 20 48 "NamespaceExists" "collection exists" ∷
    row PATH_NOT_VIABLE 21 28 "PathNotViable" "path cannot be created" ∷
    row PATHS_CONFLICT 22 40 "ConflictingUpdateOperators" "update paths conflict" ∷
    row CURSOR_NOT_FOUND 23 43 "CursorNotFound" "cursor not found" ∷
    row OUT_OF_MEMORY 24 146 "ExceededMemoryLimit" "out of memory" ∷
    row NO_SUCH_COMMAND 25 59 "CommandNotFound" "no such command" ∷
    row ID_CANNOT_CHANGE 26 66 "ImmutableField" "_id cannot change" ∷
    row INVALID_NAMESPACE 27 73 "InvalidNamespace" "invalid namespace" ∷
    row RESERVED 28 10334 "BSONObjectTooLarge" "reserved, same as 30" ∷
    row NOT_SUPPORTED 29 238 "NotImplemented" "not supported" ∷
    row DOCUMENT_TOO_LARGE 30 10334 "BSONObjectTooLarge" "document too large" ∷
    row DUPLICATE_KEY 31 11000 "DuplicateKey" "duplicate key" ∷
    row TOO_MANY_CURSORS 32 20001 "TooManyCursors" "too many cursors" ∷
    row NUMBERS_SPENT 33 20002 "NumbersSpent" "store numbers are spent" ∷
    row TOO_MANY_COLLECTIONS 34 20003 "TooManyCollections" "too many collections" ∷
    []

-- MongoDB's error codes and their names; those from 20001 on are the server's own
abbrev pub error_codes : List (ℕ × List ℕ)
error_codes =
    (1, codes "InternalError") ∷
    (2, codes "BadValue") ∷
    (9, codes "FailedToParse") ∷
    (13, codes "Unauthorized") ∷
    (14, codes "TypeMismatch") ∷
    (26, codes "NamespaceNotFound") ∷
    (28, codes "PathNotViable") ∷
    (40, codes "ConflictingUpdateOperators") ∷
    (43, codes "CursorNotFound") ∷
    (48, codes "NamespaceExists") ∷
    (59, codes "CommandNotFound") ∷
    (66, codes "ImmutableField") ∷
    (73, codes "InvalidNamespace") ∷
    (146, codes "ExceededMemoryLimit") ∷
    (238, codes "NotImplemented") ∷
    (10334, codes "BSONObjectTooLarge") ∷
    (11000, codes "DuplicateKey") ∷
    (20001, codes "TooManyCursors") ∷
    (20002, codes "NumbersSpent") ∷
    (20003, codes "TooManyCollections") ∷
    []

-- the kinds and their codes
abbrev pub kind_codes : List (ℕ × ℕ)
kind_codes = map (λ (it : Listed). (it.kind, it.code)) listed

-- the kinds and their sentences
abbrev pub kind_texts : List (ℕ × List ℕ)
kind_texts = map (λ (it : Listed). (it.kind, it.text)) listed

-- what stands beside the number in the first row of that number, or what stands for no row
abbrev pub beside : {A : Type 0} → A → ℕ → List (ℕ × A) → A
beside none number [] = none
beside none number (one ∷ rows) = if one.0 == number then one.1 else beside none number rows

-- the kind and the code of each row
abbrev pub coded : List Coded → List (ℕ × ℕ)
coded rows = map (λ (it : Coded). (it.kind, it.code)) rows

-- the error code of a kind; 0 where it is no kind
unfoldable pub code_of : ℕ → ℕ
code_of kind = beside 0 kind kind_codes

-- the code name of a kind; empty where it is no kind
unfoldable pub code_name_of : ℕ → List ℕ
code_name_of kind = beside [] (code_of kind) error_codes

-- the sentence of a kind; empty where it is no kind
unfoldable pub text_of : ℕ → List ℕ
text_of kind = beside [] kind kind_texts
