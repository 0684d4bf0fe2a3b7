-- How a connection ended, as its bytes show.
use Rattle.std.specs.Prelude.{ℕ, ◌≡◌, ◌≢◌, ◌<◌, ◌^◌, List, [], length, Option, Some}
use Rattle.outside.specs.Told.{Grows, Shrinks, Tells}
use Rattle.op_msg.specs.declared.message.Message.{Message}
use Rattle.op_msg.specs.Reading.{short, fault}
use Rattle.doc_server.specs.declared.why.Why.{Why}
use Rattle.doc_server.specs.declared.why.Why.TheVariants.{Closed, Truncated, BadFrame, ReadFault, Long}
use Rattle.doc_server.specs.Talk.{Scene, Framed}

-- the most bytes that are read of one connection
abbrev pub MOST_READ : ℕ
MOST_READ = 2 ^ 40

-- the end is as all the bytes that came show, those behind their messages, and what is left; a failed write or want of memory shows in none
abbrev pub Ends : Why → List ℕ → List ℕ → Option (List ℕ) → Type 0
Ends Closed all rest left = (rest ≡ []) × (length all < MOST_READ) × Tells left []
Ends (Truncated size) all rest left = (size ≡ length rest) × (rest ≢ []) × short rest × (length all < MOST_READ) × Tells left []
Ends (BadFrame kind place) all rest left = fault rest ≡ Some (kind, place)
Ends ReadFault all rest left = short rest × (length all < MOST_READ)
Ends Long all rest left = short rest × (length all ≡ MOST_READ)
Ends why all rest left = Unit {0}

-- A connection from where it began to its end: what came are messages and a rest, and it ended as these show.
abbrev pub Ending : Scene → Scene → Why → Type 0
Ending old new why =
    (all : List ℕ) × (ms : List Message) × (rest : List ℕ)
    × Grows old.took new.took all × Shrinks old.left new.left all × Framed why all ms rest × Ends why all rest new.left
