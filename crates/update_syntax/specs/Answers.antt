-- What the functions of the code answer, beside what is to be read. Want of memory tells nothing of it.
use Rattle.std.specs.Prelude.{ℕ, ◌≡◌, ⊤, List, Result, Ok, Err}
use Rattle.filter_syntax.specs.Answers.{joined}
use Rattle.update_syntax.specs.declared.refused.UpdateRefused.{UpdateRefused}
use Rattle.update_syntax.specs.declared.refused.UpdateRefused.TheVariants.{Refused, NoMemory}

-- it is refused so
abbrev pub Fails : {Y : Type 0} → UpdateRefused → Result Y ℕ → Type 0
Fails (Refused kind) found = found ≡ Err kind
Fails NoMemory found = ⊤

-- it is read, or refused, so
abbrev pub Gives : {Y : Type 0} → Result Y UpdateRefused → Result Y ℕ → Type 0
Gives (Ok it) found = found ≡ Ok it
Gives (Err why) found = Fails why found

-- what is read is added, or refused, so
abbrev pub Adds : {Y : Type 0} → List Y → List Y → Result (Unit {0}) UpdateRefused → Result (List Y) ℕ → Type 0
Adds old new (Ok done) found = joined old found ≡ Ok new
Adds old new (Err why) found = Fails why found
