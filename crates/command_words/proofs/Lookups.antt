-- Look-ups in the code's tables are look-ups in the definitions'.
use Rattle.std.proofs.Common.{◌≡◌, ◌≤◌, ℕ, Bool, true, false, cond, List, [], ◌∷◌, map, length, get_or, refl, ap, ◌∙◌, arith}
use Rattle.std.specs.Prelude.{Option, find, option_map, Some}
use Rattle.std.specs.Option.{unwrap_or}
use Rattle.std.specs.Str.{bytes_eq}
use Rattle.bson_values.specs.declared.pairs.Pair.{Pair}
use Rattle.bson_values.specs.declared.value.Value.{Value}
use Rattle.command_words.specs.declared.takes.Takes.{Takes}
use Rattle.command_words.specs.declared.takes.Takes.TheVariants.{Unknown}
use Rattle.command_words.specs.declared.tables.Name.{Name}
use Rattle.command_words.specs.declared.tables.Row.{Row}
use Rattle.command_words.specs.declared.word.Word.{Word}
use Rattle.command_words.specs.Tables.{Field, commands}
use Rattle.command_words.specs.Told.{told}
use Rattle.command_words.specs.Body.{word_in}
use Rattle.command_words.specs.Refusal.{takes_among}

-- what is found among things as they are shown is what is shown of the one found
found_shown : {X Y Z : Type 0} (shown : X → Y) (test : Y → Bool) (part : Y → Z) (rows : List X)
    → option_map (λ row. part (shown row)) (find (λ row. test (shown row)) rows) ≡ option_map part (find test (map shown rows))
found_shown shown test part [] = refl
found_shown {X} shown test part (row ∷ rows) =
    elim (test (shown row)) as (λ is.
    option_map (λ (it : X). part (shown it)) (cond is (Some row) (find (λ (it : X). test (shown it)) rows))
    ≡ option_map part (cond is (Some (shown row)) (find test (map shown rows))))
    [ true ↦ refl | false ↦ found_shown shown test part rows ]

-- what the code's row of that name has
abbrev pub row_of : List Row → List ℕ → Option Takes
row_of rows name = option_map (λ (row : Row). row.takes) (find (λ (row : Row). bytes_eq row.name.now name) rows)

-- what a field takes among what is told of rows
pub takes_told : (rows : List Row) (name : List ℕ) → unwrap_or (row_of rows name) Unknown ≡ takes_among (map told rows) name
takes_told rows name = rw (found_shown told (λ (it : Field). bytes_eq it.name name) (λ (it : Field). it.takes) rows) refl

-- the command of that name, as the code finds it, and as the definitions do
abbrev pub word_of : List Name → List ℕ → Option Word
word_of rows name = option_map (λ (row : Name). row.word) (find (λ (row : Name). bytes_eq row.name.now name) rows)

abbrev pub among : List (List ℕ × Word) → List ℕ → Option Word
among rows name = option_map (λ (it : List ℕ × Word). it.1) (find (λ (it : List ℕ × Word). bytes_eq it.0 name) rows)

abbrev pub shown : Name → List ℕ × Word
shown row = (row.name.now, row.word)

pub word_told : (rows : List Name) (name : List ℕ) → map shown rows ≡ commands → word_of rows name ≡ among commands name
word_told rows name is =
    found_shown shown (λ (it : List ℕ × Word). bytes_eq it.0 name) (λ (it : List ℕ × Word). it.1) rows ∙ ap (λ all. among all name) is

-- the command of the first field
pub word_first : (fields : List (Pair Value)) (it : Pair Value) (text : List ℕ) → 1 ≤ length fields → it ≡ get_or fields 0 it
    → text ≡ it.name
    → among commands text ≡ word_in fields
word_first [] it text within is reads = absurd (omega arith)
word_first (field ∷ fields) it text within is reads = ap (λ name. among commands name) (reads ∙ ap (λ (one : Pair Value). one.name) is)
