-- What the calls that change a document answer and leave.
use Rattle.std.specs.Prelude.{ℕ, ◌≡◌, ⊤, List, [], ◌∷◌, ◌++◌, Option, Result, Ok, Err}
use Rattle.std_words.specs.Steps.{◌>>=◌}
use Rattle.bson_values.specs.declared.pairs.Pair.{Pair}
use Rattle.bson_values.specs.declared.value.Value.{Value}
use Rattle.bson_values.specs.declared.memory.NoMemory.{NoMemory as NoRoom}
use Rattle.doc_paths.specs.declared.refused.PutRefused.{PutRefused}
use Rattle.doc_paths.specs.declared.refused.PutRefused.TheVariants.{NotViable, TooFar, NoMemory}

-- it is refused so; want of memory tells nothing
abbrev pub Refuses : {A : Type 0} → PutRefused → Result A PutRefused → Type 0
Refuses NotViable found = found ≡ Err NotViable
Refuses TooFar found = found ≡ Err TooFar
Refuses NoMemory found = ⊤

-- it becomes what was to be made, or it is refused and stays
abbrev pub Puts : {A : Type 0} → Result (Unit {0}) PutRefused → Result A PutRefused → A → A → Type 0
Puts (Ok done) found old new = found ≡ Ok new
Puts (Err why) found old new = Refuses why found × (new ≡ old)

-- what was found is given, and what is left stays; or all stays
abbrev pub Takes : {A : Type 0} → Result (Option Value) NoRoom → A → Option Value → A → A → Type 0
Takes (Ok it) kept found old new = (new ≡ kept) × (it ≡ found)
Takes (Err why) kept found old new = new ≡ old

-- the pairs with a field behind all others, where there is a value for it
abbrev pub last_field : List ℕ → Result Value PutRefused → List (Pair Value) → Result (List (Pair Value)) PutRefused
last_field part found pairs = found >>= λ it. Ok (pairs ++ record { name = part; value = it } ∷ [])
