use Rattle.std.proofs.Common.{◌≡◌, ◌++◌, false, map, take}
use Rattle.bson_values.specs.Names.{names}
use Rattle.op_msg.specs.declared.message.Sequence.{Sequence}
use Rattle.command_words.specs.Body.{has_twice}
use Rattle.command_words.proofs.names.sequences_have_twice.Given as goal

abbrev pub invariant-loop-place : goal.invariant-loop-place
invariant-loop-place l = record {
  seen : names l.seen ≡ take l.place (map (λ (it : Sequence). it.name) l.sequences);
  none : has_twice (names l.body ++ take l.place (map (λ (it : Sequence). it.name) l.sequences)) ≡ false;
}
