-- Paths of which one is another, or begins another.
use Rattle.std.specs.Prelude.{ℕ, Bool, true, false, ◌&&◌, ◌||◌, List, [], ◌∷◌}
use Rattle.std.specs.List.{list_any}
use Rattle.std.specs.Str.{bytes_eq}
use Rattle.std.specs.Ordering.{nat_cmp}
use Rattle.std.specs.declared.cmp.Ordering.{Ordering}
use Rattle.std.specs.Cmp.Lexicographic.{slice_cmp}

-- a path: its parts
abbrev pub Parts : Type 0
Parts = List (List ℕ)

-- the first is the second, or begins it
abbrev pub is_prefix : Parts → Parts → Bool
is_prefix [] other = true
is_prefix (part ∷ parts) [] = false
is_prefix (part ∷ parts) (first ∷ others) = bytes_eq part first && is_prefix parts others

abbrev pub clash : Parts → Parts → Bool
clash one other = is_prefix one other || is_prefix other one

-- two of them clash
abbrev pub any_clash : List Parts → Bool
any_clash [] = false
any_clash (one ∷ paths) = list_any (clash one) paths || any_clash paths

-- ---- how the code tells it: in the order of their parts, a path stands before those that it begins, and no stranger between

-- part by part, and byte by byte within one
abbrev pub parts_cmp : Parts → Parts → Ordering
parts_cmp = slice_cmp (slice_cmp nat_cmp)

-- two neighbours clash
abbrev pub neighbours_clash : List Parts → Bool
neighbours_clash [] = false
neighbours_clash (one ∷ []) = false
neighbours_clash (one ∷ next ∷ paths) = clash one next || neighbours_clash (next ∷ paths)
