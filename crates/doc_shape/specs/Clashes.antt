-- Paths of which one is equal to or a prefix of another.
use Rattle.std.specs.Prelude.{ℕ, Bool, true, false, ◌&&◌, ◌||◌, not, List, [], ◌∷◌}
use Rattle.std.specs.List.{list_any}
use Rattle.std.specs.Str.{bytes_eq}
use Rattle.std.specs.Ordering.{nat_cmp, is_lt}
use Rattle.std.specs.declared.cmp.Ordering.{Ordering}
use Rattle.std.specs.Cmp.Lexicographic.{slice_cmp}

abbrev pub Parts : Type 0
Parts = List (List ℕ)

-- it is the other, or begins it
abbrev pub is_prefix : Parts → Parts → Bool
is_prefix [] other = true
is_prefix (part ∷ parts) [] = false
is_prefix (part ∷ parts) (first ∷ others) = bytes_eq part first && is_prefix parts others

abbrev pub clash : Parts → Parts → Bool
clash one other = is_prefix one other || is_prefix other one

-- two of them clash
abbrev pub any_clash : List Parts → Bool
any_clash [] = false
any_clash (one ∷ paths) = list_any (clash one) paths || any_clash paths

-- part by part, and byte by byte within one
abbrev pub parts_cmp : Parts → Parts → Ordering
parts_cmp = slice_cmp (slice_cmp nat_cmp)

-- two neighbours clash
abbrev pub neighbours_clash : List Parts → Bool
neighbours_clash [] = false
neighbours_clash (one ∷ []) = false
neighbours_clash (one ∷ next ∷ paths) = clash one next || neighbours_clash (next ∷ paths)

abbrev pub path_below : Parts → Parts → Bool
path_below one other = is_lt (parts_cmp one other)

-- none is below one before it
abbrev pub rises : List Parts → Bool
rises [] = true
rises (one ∷ paths) = not (list_any (λ other. path_below other one) paths) && rises paths
