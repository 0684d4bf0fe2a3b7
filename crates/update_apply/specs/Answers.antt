-- What the functions of the code answer, beside what is to be made. Want of memory tells nothing of it.
use Rattle.std.specs.Prelude.{ℕ, ◌≡◌, ⊤, Result, Ok, Err}
use Rattle.update_apply.specs.declared.refused.ApplyRefused.{ApplyRefused}
use Rattle.update_apply.specs.declared.refused.ApplyRefused.TheVariants.{Refused, NoMemory}

-- it is refused so
abbrev pub Fails : {Y : Type 0} → ApplyRefused → Result Y ℕ → Type 0
Fails (Refused kind) found = found ≡ Err kind
Fails NoMemory found = ⊤

-- it is made, or refused, so
abbrev pub Gives : {Y : Type 0} → Result Y ApplyRefused → Result Y ℕ → Type 0
Gives (Ok it) found = found ≡ Ok it
Gives (Err why) found = Fails why found

-- what there is becomes so, or it is refused so; a refusal may leave anything
abbrev pub Changes : {Y : Type 0} → Result (Unit {0}) ApplyRefused → Result Y ℕ → Y → Type 0
Changes (Ok done) found new = found ≡ Ok new
Changes (Err why) found new = Fails why found
