-- The operators of an update, and the step that each makes of a path and the operand beside it: MongoDB manual, "Update Operators".
-- 4 is an operand that the operator does not take, 18 one that is no whole number, 29 one that is left out.
use Rattle.std.specs.Prelude.{ℕ, if◌then◌else◌, List, [], ◌∷◌, Result, Ok, Err}
use Rattle.std.specs.List.{list_any}
use Rattle.std_words.specs.Steps.{◌>>=◌}
use Rattle.bson_values.specs.declared.value.Value.{Value, out-Value}
use Rattle.doc_paths.specs.Paths as paths
use Rattle.doc_paths.specs.declared.path.PathRefused.{PathRefused}
use Rattle.filter_syntax.specs.Operands.{found_or, has_dollar}
use Rattle.filter_syntax.specs.Operators.{row}
use Rattle.update_syntax.specs.Conflicts.{Parts}
use Rattle.update_syntax.specs.Operands.{text_in, number_in, end_in, items_in, more_in, asks_more, moment_in, bits_in}
use Rattle.update_syntax.specs.declared.update.BitKind.{BitKind}
use Rattle.update_syntax.specs.declared.update.Number.{Number}
use Rattle.update_syntax.specs.declared.update.Step.{Step}
use Rattle.update_syntax.specs.declared.update.Step.TheVariants as step

-- a path, of which no part begins with `$`; 9 is a text that is no path
abbrev pub parts_allowed : Result Parts PathRefused → Result Parts ℕ
parts_allowed (Err why) = Err 9
parts_allowed (Ok parts) = if list_any has_dollar parts then Err 29 else Ok parts

abbrev pub path_of : List ℕ → Result Parts ℕ
path_of name = parts_allowed (paths.read name)

-- what an operator makes of a path and an operand
abbrev pub Takes : Type 0
Takes = Parts → Value → Result Step ℕ

-- a value, whatever it is
abbrev pub value : (Parts → Value → Step) → Takes
value make path it = Ok (make path it)

abbrev pub removal : Takes
removal path it = Ok (step.Unset path)

-- a whole number
abbrev pub number : (Parts → Number → Step) → Takes
number make path it = found_or 18 (number_in (out-Value it)) >>= λ number. Ok (make path number)

-- a second path
abbrev pub target : Takes
target path it = found_or 4 (text_in (out-Value it)) >>= λ text. path_of text >>= λ to. Ok (step.Rename path to)

-- a value, or modifiers
abbrev pub items : (Parts → List Value → Step) → Takes
items make path it = more_in it (out-Value it) >>= λ all. Ok (make path all)

-- an end of an array
abbrev pub one_end : Takes
one_end path it = found_or 4 (end_in (out-Value it)) >>= λ last. Ok (step.Pop path last)

-- a value that asks for no operators
abbrev pub pulled : Takes
pulled path it = if asks_more (out-Value it) then Err 29 else Ok (step.Pull path it)

-- an array
abbrev pub all_pulled : Takes
all_pulled path it = found_or 4 (items_in (out-Value it)) >>= λ all. Ok (step.PullAll path all)

-- a moment's type
abbrev pub moment : Takes
moment path it = found_or 4 (moment_in (out-Value it)) >>= λ date. Ok (step.CurrentDate path date)

-- an operation on bits, and a whole number
abbrev pub bits : Takes
bits path it = found_or 4 (bits_in (out-Value it)) >>= λ (told : BitKind × Number). Ok (step.Bit path told.0 told.1)

unfoldable pub operators : List (List ℕ × Takes)
operators =
    row "$set" (value step.Set) ∷
    row "$setOnInsert" (value step.SetOnInsert) ∷
    row "$unset" removal ∷
    row "$inc" (number step.Inc) ∷
    row "$mul" (number step.Mul) ∷
    row "$min" (value step.Min) ∷
    row "$max" (value step.Max) ∷
    row "$rename" target ∷
    row "$push" (items step.Push) ∷
    row "$addToSet" (items step.AddToSet) ∷
    row "$pop" one_end ∷
    row "$pull" pulled ∷
    row "$pullAll" all_pulled ∷
    row "$currentDate" moment ∷
    row "$bit" bits ∷
    []
