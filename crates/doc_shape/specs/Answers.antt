-- What the functions of the code answer, beside what is to be read. Want of memory tells nothing of it.
use Rattle.std.specs.Prelude.{ℕ, ◌≡◌, ⊤, List, ◌++◌, Result, Ok, Err}
use Rattle.std_words.specs.Steps.{◌>>=◌}
use Rattle.doc_shape.specs.declared.refused.ShapeRefused.{ShapeRefused}
use Rattle.doc_shape.specs.declared.refused.ShapeRefused.TheVariants.{Refused, NoMemory}

-- it is refused so
abbrev pub Fails : {Y : Type 0} → ShapeRefused → Result Y ℕ → Type 0
Fails (Refused kind) found = found ≡ Err kind
Fails NoMemory found = ⊤

-- it is read, or refused, so
abbrev pub Gives : {Y : Type 0} → Result Y ShapeRefused → Result Y ℕ → Type 0
Gives (Ok it) found = found ≡ Ok it
Gives (Err why) found = Fails why found

-- what was read before, and then what is read
abbrev pub joined : {Y : Type 0} → List Y → Result (List Y) ℕ → Result (List Y) ℕ
joined old found = found >>= λ more. Ok (old ++ more)

-- what is read is added, or refused, so
abbrev pub Adds : {Y : Type 0} → List Y → List Y → Result (Unit {0}) ShapeRefused → Result (List Y) ℕ → Type 0
Adds old new (Ok done) found = joined old found ≡ Ok new
Adds old new (Err why) found = Fails why found
