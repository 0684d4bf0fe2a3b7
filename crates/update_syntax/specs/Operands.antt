-- What a value is beside an operator of an update, where it is what the operator takes.
use Rattle.std.specs.Prelude.{ℕ, ℤ, pos, negsuc, Bool, true, false, ◌&&◌, ◌||◌, not, if◌then◌else◌, List, [], ◌∷◌, codes}
use Rattle.std.specs.Prelude.{Option, Some, None, option_map, Result, Ok, Err}
use Rattle.std.specs.Option.{option_and_then}
use Rattle.std.specs.Ordering.{int_eq}
use Rattle.std.specs.List.{list_any}
use Rattle.std.specs.Str.{bytes_eq}
use Rattle.std_words.specs.Steps.{◌>>=◌}
use Rattle.bson_values.specs.declared.pairs.Pair.{Pair}
use Rattle.bson_values.specs.declared.value.Value.{Value, out-Value}
use Rattle.bson_values.specs.declared.value.Value.TheOpen.{Value-F}
use Rattle.filter_syntax.specs.Candidates.{number_of}
use Rattle.filter_syntax.specs.Operands.{found_or, first_name, has_dollar}
use Rattle.update_syntax.specs.declared.update.Number.{Number}
use Rattle.update_syntax.specs.declared.update.Number.TheVariants.{Int, Long}
use Rattle.update_syntax.specs.declared.update.BitKind.{BitKind}
use Rattle.update_syntax.specs.declared.update.BitKind.TheVariants.{And, Or, Xor}

-- ---- names and texts

abbrev pub text_in : Value-F Value → Option (List ℕ)
text_in (Value-F.Str text) = Some text
text_in layer = None

-- a document whose first name begins with `$`
abbrev pub has_operators : Value-F Value → Bool
has_operators (Value-F.Doc pairs) = has_dollar (first_name pairs)
has_operators layer = false

-- such a document, or one with such a document as a value
abbrev pub asks_more : Value-F Value → Bool
asks_more (Value-F.Doc pairs) =
    has_dollar (first_name pairs) || list_any (λ (pair : Pair Value). has_operators (out-Value pair.value)) pairs
asks_more layer = false

-- ---- numbers

abbrev pub number_in : Value-F Value → Option Number
number_in (Value-F.Int number) = Some (Int number)
number_in (Value-F.Long number) = Some (Long number)
number_in layer = None

-- 1 tells the last item, -1 the first
abbrev pub end_told : ℤ → Option Bool
end_told number = if int_eq number (pos 1) then Some true else if int_eq number (negsuc 0) then Some false else None

abbrev pub end_in : Value-F Value → Option Bool
end_in layer = option_and_then end_told (number_of layer)

-- ---- items

abbrev pub items_in : Value-F Value → Option (List Value)
items_in (Value-F.Arr items) = Some items
items_in layer = None

-- behind `$each` no field stands: 29 is another modifier, 4 are a second `$each` and a plain name
abbrev pub none_behind : List (Pair Value) → Result (Unit {0}) ℕ
none_behind [] = Ok tt
none_behind (pair ∷ more) = if has_dollar pair.name && not (bytes_eq pair.name (codes "$each")) then Err 29 else Err 4

-- modifiers: the items beside `$each`
abbrev pub each_in : List (Pair Value) → Result (List Value) ℕ
each_in [] = Err 4
each_in (pair ∷ more) =
    if bytes_eq pair.name (codes "$each") then
    (found_or 4 (items_in (out-Value pair.value)) >>= λ items. none_behind more >>= λ done. Ok items)
    else Err 29

-- what is added: the items of modifiers, where it is a document whose first name begins with `$`; else the value itself
abbrev pub more_in : Value → Value-F Value → Result (List Value) ℕ
more_in it (Value-F.Doc pairs) = if has_dollar (first_name pairs) then each_in pairs else Ok (it ∷ [])
more_in it layer = Ok (it ∷ [])

-- ---- a moment's type

-- the date's, or the timestamp's
abbrev pub type_told : List ℕ → Option Bool
type_told name =
    if bytes_eq name (codes "date") then Some true else if bytes_eq name (codes "timestamp") then Some false else None

abbrev pub type_in : List (Pair Value) → Option Bool
type_in (pair ∷ []) =
    if bytes_eq pair.name (codes "$type") then option_and_then type_told (text_in (out-Value pair.value)) else None
type_in pairs = None

-- true tells the date's
abbrev pub moment_in : Value-F Value → Option Bool
moment_in (Value-F.Bool truth) = if truth then Some true else None
moment_in (Value-F.Doc pairs) = type_in pairs
moment_in layer = None

-- ---- bits

abbrev pub bits_named : List ℕ → Option BitKind
bits_named name =
    if bytes_eq name (codes "and") then Some And
    else if bytes_eq name (codes "or") then Some Or
    else if bytes_eq name (codes "xor") then Some Xor
    else None

-- one name, and a whole number
abbrev pub bits_of : List (Pair Value) → Option (BitKind × Number)
bits_of (pair ∷ []) =
    option_and_then (λ (kind : BitKind). option_map (λ (number : Number). (kind, number)) (number_in (out-Value pair.value)))
    (bits_named pair.name)
bits_of pairs = None

abbrev pub bits_in : Value-F Value → Option (BitKind × Number)
bits_in (Value-F.Doc pairs) = bits_of pairs
bits_in layer = None
