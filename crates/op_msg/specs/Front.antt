-- What `take` answers of a front, and what its parts answer.
use Rattle.std.specs.Prelude.{ℕ, ◌≡◌, ◌≤◌, List, length, take, Some, Result, Ok, Err}
use Rattle.op_msg.specs.Limits.{LEAST_MESSAGE}
use Rattle.op_msg.specs.Stream.{message}
use Rattle.op_msg.specs.Reading.{Fault, short, fault}
use Rattle.op_msg.specs.declared.message.Message.{Message}
use Rattle.op_msg.specs.declared.message.Taken.{Taken}
use Rattle.op_msg.specs.declared.message.Taken.TheVariants.{Whole, Short, Bad, NoMemory}
use Rattle.op_msg.specs.declared.refused.Refused.{Refused}
use Rattle.op_msg.specs.declared.refused.Refused.TheVariants as refused

-- the first bytes are the message
pub record Begins (bytes : List ℕ) (m : Message) (used : ℕ) : Type 0 where
  pub within : used ≤ length bytes
  pub some : LEAST_MESSAGE ≤ used
  pub alone : message (take used bytes) m

-- what was taken is what stands at the front
abbrev pub Takes : Taken → List ℕ → Type 0
Takes (Whole m used) bytes = Begins bytes m used
Takes Short bytes = short bytes
Takes (Bad kind place) bytes = fault bytes ≡ Some (kind, place)
Takes NoMemory bytes = Unit {0}

-- the fault is the one that stands there, unless memory ran out
abbrev pub Fails : {Y : Type 0} → Refused → Result Y Fault → Type 0
Fails refused.NoMemory found = Unit {0}
Fails (refused.Bad kind place) found = found ≡ Err (kind, place)

-- what was read, seen by `view`, is what stands there
abbrev pub Gives : {X Y : Type 0} → (X → Y) → Result X Refused → Result Y Fault → Type 0
Gives view (Ok value) found = found ≡ Ok (view value)
Gives view (Err refused) found = Fails refused found
