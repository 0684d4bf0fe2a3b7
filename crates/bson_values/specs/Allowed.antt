-- Which documents may be stored, said without places.
use Rattle.std.specs.Prelude.{ℕ, ◌≡◌, ◌++◌, ◌&&◌, ◌||◌, not, Bool, true, nat_le, List, [], ◌∷◌, is_ok}
use Rattle.std.specs.List.{list_all}
use Rattle.bson_values.specs.declared.pairs.Pair.{Pair}
use Rattle.bson_values.specs.declared.value.Value.{Value}
use Rattle.bson_values.specs.declared.value.Value.TheOpen.{Value-F}
use Rattle.bson_values.specs.declared.value.Value.TheFolds.{fold-Value}
use Rattle.bson_values.specs.declared.value.Value.TheVariants as value
use Rattle.bson_values.specs.Measures.{depth, size}
use Rattle.bson_values.specs.Names.{names}
use Rattle.bson_values.specs.Storable.{MOST_BYTES, MOST_LEVELS, begins, has, stands, storable}

-- the name does not begin with `$` (36), and has no dot (46) and no U+0000
abbrev pub is_allowed : List ℕ → Bool
is_allowed name = not (begins 36 name || has 46 name || has 0 name)

-- each of the names is allowed, and is none of these and none of those before it
abbrev pub are_allowed : List (List ℕ) → List (List ℕ) → Bool
are_allowed before [] = true
are_allowed before (name ∷ names) = not (stands before name) && is_allowed name && are_allowed (before ++ name ∷ []) names

-- a value's names are allowed and its texts have no U+0000, where that is so of the values within
abbrev pub sound_in : Value-F Bool → Bool
sound_in (Value-F.Doc pairs) = are_allowed [] (names pairs) && list_all (λ (pair : Pair Bool). pair.value) pairs
sound_in (Value-F.Arr items) = list_all (λ is_sound. is_sound) items
sound_in (Value-F.Str text) = not (has 0 text)
sound_in (Value-F.Regex regex) = not (has 0 regex.pattern || has 0 regex.options)
sound_in layer = true

-- a value with allowed names and texts at every depth
abbrev pub is_sound : Value → Bool
is_sound = fold-Value Bool sound_in

-- a document of not too many bytes and levels, with allowed names and texts
abbrev pub can_be_stored : List (Pair Value) → Bool
can_be_stored doc = nat_le (size doc) MOST_BYTES && nat_le (depth doc) MOST_LEVELS && is_sound (value.Doc doc)

-- a document is storable exactly where it can be stored
abbrev pub StorableWhereAllowed : Type 0
StorableWhereAllowed = (doc : List (Pair Value)) → is_ok (storable doc) ≡ can_be_stored doc
