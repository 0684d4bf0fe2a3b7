-- The names of the types of BSON 1.1, as MongoDB's `$type` has them.
use Rattle.std.specs.Prelude.{ℕ, List, [], ◌∷◌, codes}
use Rattle.case_tables.specs.Refusals.{beside}

-- the type byte and the name of each type
abbrev pub types : List (ℕ × List ℕ)
types =
    (1, codes "double") ∷
    (2, codes "string") ∷
    (3, codes "object") ∷
    (4, codes "array") ∷
    (5, codes "binData") ∷
    (6, codes "undefined") ∷
    (7, codes "objectId") ∷
    (8, codes "bool") ∷
    (9, codes "date") ∷
    (10, codes "null") ∷
    (11, codes "regex") ∷
    (12, codes "dbPointer") ∷
    (13, codes "javascript") ∷
    (14, codes "symbol") ∷
    (15, codes "javascriptWithScope") ∷
    (16, codes "int") ∷
    (17, codes "timestamp") ∷
    (18, codes "long") ∷
    (19, codes "decimal") ∷
    (255, codes "minKey") ∷
    (127, codes "maxKey") ∷
    []

-- the name of a type byte; empty where it is no type's
unfoldable pub type_name_of : ℕ → List ℕ
type_name_of code = beside [] code types
