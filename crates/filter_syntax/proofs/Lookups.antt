-- A look-up in a table of the code is one in the definitions' table.
use Rattle.std.proofs.Common.{◌≡◌, ℕ, Bool, true, false, cond, List, [], ◌∷◌, map, refl, ap, ◌∙◌}
use Rattle.std.specs.Prelude.{Option, Some, None, find, option_map}
use Rattle.std.specs.Str.{bytes_eq}
use Rattle.filter_syntax.specs.Operators.{named}

-- what is found among things as they are shown is what is shown of the one found
pub found_shown : {X Y Z : Type 0} (shown : X → Y) (test : Y → Bool) (part : Y → Z) (rows : List X)
    → option_map (λ row. part (shown row)) (find (λ row. test (shown row)) rows) ≡ option_map part (find test (map shown rows))
found_shown shown test part [] = refl
found_shown {X} shown test part (row ∷ rows) =
    elim (test (shown row)) as (λ is.
    option_map (λ (it : X). part (shown it)) (cond is (Some row) (find (λ (it : X). test (shown it)) rows))
    ≡ option_map part (cond is (Some (shown row)) (find test (map shown rows))))
    [ true ↦ refl | false ↦ found_shown shown test part rows ]

-- a part of what is found, and then what is told of it
told_of : {X Y Z : Type 0} (part : X → Y) (told : Y → Z) (found : Option X)
    → option_map told (option_map part found) ≡ option_map (λ it. told (part it)) found
told_of part told (Some it) = refl
told_of part told None = refl

-- rows of a name and a thing, beside rows of the same name and what is told of the thing
pub named_told : {X T A : Type 0} (name_of : X → List ℕ) (part : X → T) (told : T → A) (rows : List X)
    (all : List (List ℕ × A)) (name : List ℕ)
    → map (λ row. (name_of row, told (part row))) rows ≡ all
    → option_map told (option_map part (find (λ row. bytes_eq (name_of row) name) rows)) ≡ named name all
named_told {X} {T} {A} name_of part told rows all name is =
    told_of part told (find (λ row. bytes_eq (name_of row) name) rows)
    ∙ found_shown (λ (row : X). (name_of row, told (part row))) (λ (it : List ℕ × A). bytes_eq it.0 name) (λ (it : List ℕ × A). it.1) rows
    ∙ ap (λ (them : List (List ℕ × A)). named name them) is
