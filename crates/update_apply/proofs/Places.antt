-- The fields before and behind a first field are those without it.
use Rattle.std.proofs.Common.{◌≡◌, ℕ, ◌+◌, List, [], ◌∷◌, ◌++◌, Some, None, slice_get, option_map, take, drop, refl, sym}
use Rattle.bson_values.specs.Names.{first_place, names}
use Rattle.bson_values.specs.declared.pairs.Pair.{Pair}
use Rattle.bson_values.specs.declared.value.Value.{Value}
use Rattle.std.specs.declared.result.Result.TheVariants.{Ok}
use Rattle.doc_paths.specs.Changes.{left, taken}
use Rattle.doc_paths.proofs.Levels.{field_removed, left_fields_absent}

pub without_first : (part : List ℕ) (pairs : List (Pair Value)) (place : ℕ) → Some place ≡ first_place part (names pairs)
    → take place pairs ++ drop (place + 1) pairs ≡ taken (part ∷ []) pairs
without_first part pairs place at =
    (field_removed (Ok (option_map
    (λ (pair : Pair Value). pair.value) (slice_get pairs place))) part [] pairs _ place refl at (refl, refl)).0

pub without_none : (part : List ℕ) (pairs : List (Pair Value)) → None ≡ first_place part (names pairs) → pairs ≡ taken (part ∷ []) pairs
without_none part pairs at = sym (left_fields_absent part (left []) pairs at)
