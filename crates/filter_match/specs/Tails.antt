-- Tails of a path: what is left of it behind its first parts. Those that are still to be followed from a value are marked as open.
use Rattle.std.specs.Prelude.{ℕ, zero, suc, ◌≡◌, ◌<◌, ◌^◌, Bool, true, false, ◌&&◌, ◌||◌, List, [], ◌∷◌, length, drop, Option, Some}
use Rattle.std.specs.Prelude.{None, nat_eq, slice_index_or}
use Rattle.std.specs.Str.Parse.{digits_value}
use Rattle.std.specs.List.{list_any}
use Rattle.bson_values.specs.declared.value.Value.{Value, out-Value}
use Rattle.doc_paths.specs.Reach.{is_index, reached, behind_field, in_element}
use Rattle.filter_match.specs.Asking.{asked}
use Rattle.filter_match.specs.declared.asking.Ask.{Ask}

abbrev pub is_open : List Bool → ℕ → Bool
is_open marks place = slice_index_or marks place false

-- a number below `n` passes
abbrev pub any_below : ℕ → (ℕ → Bool) → Bool
any_below zero test = false
any_below (suc n) test = any_below n test || test n

-- an open tail below `n` passes
unfoldable pub some_open : List Bool → ℕ → (ℕ → Bool) → Bool
some_open marks n passes = any_below n (λ place. is_open marks place && passes place)

-- whether a value that a tail reaches answers: from a value, from one that may be missing
unfoldable pub answers : Ask → List (List ℕ) → Value → ℕ → Bool
answers ask parts value place = list_any (asked ask) (reached (drop place parts) value)

unfoldable pub answers_behind : Ask → List (List ℕ) → Option Value → ℕ → Bool
answers_behind ask parts value place = list_any (asked ask) (behind_field (reached (drop place parts)) value)

-- the open tails, and what is left of others behind their first part
abbrev pub joined_at : List Bool → List Bool → ℕ → Bool
joined_at marks others zero = is_open marks 0
joined_at marks others (suc k) = is_open marks (suc k) || is_open others k

-- a part tells a place
abbrev pub tells : List ℕ → ℕ → Bool
tells part place = is_index part && nat_eq (digits_value 10 part) place

abbrev pub is_at : Option ℕ → ℕ → Bool
is_at None place = false
is_at (Some found) place = nat_eq found place

abbrev pub part_at : List (List ℕ) → ℕ → List ℕ
part_at parts place = slice_index_or parts place []

-- the places that the open tails' parts tell
abbrev pub ArePlaces : List (Option ℕ) → List Bool → List (List ℕ) → Type 0
ArePlaces places marks parts = (k : ℕ) → k < length parts → is_open marks k ≡ true → (place : ℕ) → place < 2 ^ 64
    → is_at (slice_index_or places k None) place ≡ tells (part_at parts k) place

-- what a tail asks of an element: behind its part where that tells the element's place, and the element itself where it is a document
unfoldable pub answers_in : Ask → List (List ℕ) → ℕ → Value → ℕ → Bool
answers_in ask parts place item k =
    (tells (part_at parts k) place && answers ask parts item (suc k))
    || list_any (asked ask) (in_element (part_at parts k) (reached (drop (suc k) parts)) (out-Value item))

-- an element at its place passes, where the first stands at `place`
abbrev pub any_from : (ℕ → Value → Bool) → ℕ → List Value → Bool
any_from test place [] = false
any_from test place (item ∷ items) = test place item || any_from test (suc place) items

unfoldable pub element_answers : Ask → List (List ℕ) → List Bool → ℕ → Value → Bool
element_answers ask parts marks place item = some_open marks (length parts) (answers_in ask parts place item)
