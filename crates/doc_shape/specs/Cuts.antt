-- What is left of paths that stand side by side, and where a name stands among their parts.
use Rattle.std.specs.Prelude.{ℕ, Bool, true, not, List, [], ◌∷◌, map, drop}
use Rattle.std.specs.Ordering.{is_lt, nat_cmp}
use Rattle.std.specs.Cmp.Lexicographic.{slice_cmp}
use Rattle.std.specs.List.{list_any}
use Rattle.doc_shape.specs.Clashes.{Parts}

abbrev pub tails : ℕ → List Parts → List Parts
tails depth paths = map (drop depth) paths

-- it ends here, or its part stands before the name, or not behind it
abbrev pub before : List ℕ → Parts → Bool
before name [] = true
before name (part ∷ rest) = is_lt (slice_cmp nat_cmp part name)

abbrev pub up_to : List ℕ → Parts → Bool
up_to name [] = true
up_to name (part ∷ rest) = not (is_lt (slice_cmp nat_cmp name part))

abbrev pub none_before : List ℕ → List Parts → Bool
none_before name paths = not (list_any (before name) paths)
