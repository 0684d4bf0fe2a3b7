use Rattle.std.proofs.Common.{◌≡◌, false, take}
use Rattle.bson_values.specs.Names.{names}
use Rattle.command_words.specs.Body.{has_twice}
use Rattle.command_words.proofs.names.body_has_twice.Given as goal

abbrev pub invariant-loop-place : goal.invariant-loop-place
invariant-loop-place l = has_twice (take l.place (names l.body)) ≡ false
