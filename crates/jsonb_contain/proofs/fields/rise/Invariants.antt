use Rattle.std.proofs.Common.{◌≡◌, length}
use Rattle.bson_values.specs.Names.{names}
use Rattle.jsonb_contain.specs.Rising.{is_rising}
use Rattle.jsonb_contain.proofs.fields.rise.Given as goal

abbrev pub invariant-loop-rest : goal.invariant-loop-rest
invariant-loop-rest g l = is_rising (names l.rest) ≡ is_rising (names l.pairs)

abbrev pub decreases-loop-rest : goal.decreases-loop-rest
decreases-loop-rest g l = length l.rest
