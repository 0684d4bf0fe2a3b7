-- Limits of messages, and the numbers of the Wire Protocol's layout.
use Rattle.std.specs.Prelude.{ℕ}

-- the fewest bytes of a message, which are its header
abbrev pub LEAST_MESSAGE : ℕ
LEAST_MESSAGE = 16

-- the most bytes of a message
abbrev pub MOST_MESSAGE : ℕ
MOST_MESSAGE = 48000000

-- the most bytes of a reply's document
abbrev pub MOST_REPLY : ℕ
MOST_REPLY = 47999000

-- the opCode of OP_MSG
abbrev pub OP_MSG : ℕ
OP_MSG = 2013
