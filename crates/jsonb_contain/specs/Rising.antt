-- Fields: named values whose names rise by their bytes.
use Rattle.std.specs.Prelude.{ℕ, suc, ◌&&◌, Bool, true, false, if◌then◌else◌, Option, None, Some, List, [], ◌∷◌}
use Rattle.std.specs.Str.{bytes_eq}
use Rattle.std.specs.Ordering.{nat_cmp, is_lt, match_ordering}
use Rattle.std.specs.Cmp.Lexicographic.{slice_cmp}
use Rattle.bson_values.specs.declared.pairs.Pair.{Pair}

-- one name is below another, byte by byte
abbrev pub is_below : List ℕ → List ℕ → Bool
is_below one other = is_lt (slice_cmp nat_cmp one other)

-- each name is below the next one
abbrev pub is_rising : List (List ℕ) → Bool
is_rising [] = true
is_rising (one ∷ []) = true
is_rising (one ∷ other ∷ more) = is_below one other && is_rising (other ∷ more)

-- the pairs, with this value at this name
abbrev pub put : {V : Type 0} → List ℕ → V → List (Pair V) → List (Pair V)
put name value [] = (record { name = name; value = value }) ∷ []
put name value (pair ∷ pairs) =
    match_ordering (slice_cmp nat_cmp name pair.name)
    ((record { name = name; value = value }) ∷ pair ∷ pairs)
    ((record { name = name; value = value }) ∷ pairs)
    (pair ∷ put name value pairs)

-- more pairs put among those before, one after another
abbrev pub put_all : {V : Type 0} → List (Pair V) → List (Pair V) → List (Pair V)
put_all so_far [] = so_far
put_all so_far (pair ∷ pairs) = put_all (put pair.name pair.value so_far) pairs

-- the value at a name, among names that rise
abbrev pub value_at : {V : Type 0} → List ℕ → List (Pair V) → Option V
value_at name [] = None
value_at name (pair ∷ pairs) = match_ordering (slice_cmp nat_cmp name pair.name) None (Some pair.value) (value_at name pairs)

-- ---- a search

-- how many pairs stand before the place of a name
abbrev pub place_of : {V : Type 0} → List ℕ → List (Pair V) → ℕ
place_of name [] = 0
place_of name (pair ∷ pairs) = if is_below pair.name name then suc (place_of name pairs) else 0

-- there is a pair, and it has this name
abbrev pub has_name : {V : Type 0} → List ℕ → Option (Pair V) → Bool
has_name name None = false
has_name name (Some pair) = bytes_eq pair.name name

-- the value of a pair that has this name
abbrev pub value_if : {V : Type 0} → List ℕ → Option (Pair V) → Option V
value_if name None = None
value_if name (Some pair) = if bytes_eq pair.name name then Some pair.value else None
