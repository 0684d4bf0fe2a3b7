-- What the code keeps of keys on its way along a path, for each tail of the path: what is left of it behind its first parts.
use Rattle.std.specs.Prelude.{ℕ, suc, ◌≡◌, ◌<◌, ◌^◌, Bool, true, false, ◌&&◌, if◌then◌else◌, List, [], ◌∷◌, drop, length}
use Rattle.std.specs.Prelude.{Option, Some, None, nat_eq, slice_index_or}
use Rattle.std.specs.Str.Parse.{digits_value}
use Rattle.std.specs.List.{flat_map}
use Rattle.bson_values.specs.declared.value.Value.{Value, out-Value}
use Rattle.bson_values.specs.declared.value.Value.TheOpen.{Value-F}
use Rattle.bson_values.specs.declared.value.Value.TheVariants as value
use Rattle.doc_paths.specs.Reach.{is_index, reached, behind_field}
use Rattle.doc_shape.specs.Keys.{Way, keys_of, first_key, sooner}
use Rattle.doc_shape.specs.declared.bests.Best.{Best}
use Rattle.doc_shape.specs.declared.bests.Best.TheVariants.{Unasked, Nothing, Missing, Empty, At}

-- the key that is kept
abbrev pub kept : Best → Option (Option Value)
kept Unasked = None
kept Nothing = None
kept Missing = Some (Some value.Null)
kept Empty = Some None
kept (At it) = Some (Some it.now)

-- it without the Option, where there is one
abbrev pub key_kept : Best → Option Value
key_kept Unasked = None
key_kept Nothing = None
key_kept Missing = Some value.Null
key_kept Empty = None
key_kept (At it) = Some it.now

abbrev pub best_at : List Best → ℕ → Best
best_at all k = slice_index_or all k Unasked

abbrev pub is_unasked : Best → Bool
is_unasked Unasked = true
is_unasked it = false

-- the first of the keys that a tail of the path reaches, from a value or from one that may be missing
unfoldable pub told : Way → Value → ℕ → Option (Option Value)
told way it k = first_key way.1 (flat_map keys_of (reached (drop k way.0) it))

unfoldable pub told_behind : Way → Option Value → ℕ → Option (Option Value)
told_behind way it k = first_key way.1 (flat_map keys_of (behind_field (reached (drop k way.0)) it))

-- ---- places

abbrev pub part_at : List (List ℕ) → ℕ → List ℕ
part_at parts k = slice_index_or parts k []

-- a part tells a place
abbrev pub tells : List ℕ → ℕ → Bool
tells part place = is_index part && nat_eq (digits_value 10 part) place

abbrev pub is_at : Option ℕ → ℕ → Bool
is_at None place = false
is_at (Some found) place = nat_eq found place

-- the places that the parts tell
abbrev pub ArePlaces : List (Option ℕ) → List (List ℕ) → Type 0
ArePlaces places parts = (k : ℕ) → k < length parts → (place : ℕ) → place < 2 ^ 64
    → is_at (slice_index_or places k None) place ≡ tells (part_at parts k) place

-- ---- elements of an array, the first of which stands at `place`

-- those whose place passes
abbrev pub told_where : Bool → (ℕ → Bool) → (Value → Option (Option Value)) → ℕ → List Value → Option (Option Value)
told_where ascends test find place [] = None
told_where ascends test find place (item ∷ items) =
    sooner ascends (if test place then find item else None) (told_where ascends test find (suc place) items)

-- those whose place the tail's first part tells
abbrev pub told_here : Way → ℕ → ℕ → List Value → Option (Option Value)
told_here way k place items = told_where way.1 (tells (part_at way.0 k)) (λ item. told way item (suc k)) place items

abbrev pub is_doc : Value-F Value → Bool
is_doc (Value-F.Doc pairs) = true
is_doc layer = false

-- those that are documents
abbrev pub told_in_docs : Way → ℕ → List Value → Option (Option Value)
told_in_docs way k [] = None
told_in_docs way k (item ∷ items) = sooner way.1 (if is_doc (out-Value item) then told way item k else None) (told_in_docs way k items)
