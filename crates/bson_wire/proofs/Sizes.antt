-- How long a spelling is that is built pair by pair.
use Rattle.std.proofs.Common.{◌≡◌, ℕ, ◌+◌, List, [], ◌∷◌, ◌++◌, length, ap, ◌∙◌, arith}
use Rattle.std.specs.List.{flat_map}
use Rattle.std.proofs.lemmas.Grind.{flat_map-append}
use Rattle.std.proofs.lemmas.List.{length-append, append-nil}
use Rattle.bson_values.specs.declared.pairs.Pair.{Pair}
use Rattle.bson_values.specs.declared.value.Value.{Value}
use Rattle.bson_spelling.specs.declared.form.Form.TheVariants.{Bson}
use Rattle.bson_spelling.specs.Spelling.{spell, held, element}
use Rattle.bson_spelling.proofs.Sizes.{length-enclosed, length-element_of}

-- a pair more makes the spelling longer by its element
pub spell-push : (doc : List (Pair Value)) (name : List ℕ) (it : Value)
    → length (spell (doc ++ record { name = name; value = it } ∷ [])) ≡ length (spell doc) + length name + length (held Bson it).1 + 2
spell-push doc name it =
    let pair : Pair Value = record { name = name; value = it } in
    let inside = flat_map (element Bson) doc in
    let more : flat_map (element Bson) (doc ++ pair ∷ []) ≡ inside ++ element Bson pair = flat_map-append (element Bson) doc (pair ∷ [])
    ∙ ap (λ (last : List ℕ). inside ++ last) (append-nil (element Bson pair)) in
    omega (
      arith,
      ap length more,
      length-append inside (element Bson pair),
      length-element_of name (held Bson it),
      length-enclosed Bson (flat_map (element Bson) (doc ++ pair ∷ [])),
      length-enclosed Bson inside,
    )
