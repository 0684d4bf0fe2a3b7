use Rattle.std.proofs.Common.{◌+◌, ◌*◌}
use denote.Text.{Utf8}
use denote.Shadow.{shadow}
use Rattle.notation.proofs.reading.+reading.Given as goal

abbrev pub decreases-front : goal.decreases-front
decreases-front l = 3 * l.levels

abbrev pub decreases-push_pair : goal.decreases-push_pair
decreases-push_pair l = 3 * l.levels + 1

abbrev pub decreases-push_item : goal.decreases-push_item
decreases-push_item l = 3 * l.levels + 1

abbrev pub decreases-pairs : goal.decreases-pairs
decreases-pairs l = 3 * l.levels + 2

abbrev pub decreases-items : goal.decreases-items
decreases-items l = 3 * l.levels + 2

abbrev pub invariant-pairs-loop : goal.invariant-pairs-loop
invariant-pairs-loop l = shadow (Utf8 l.rest)

abbrev pub invariant-items-loop : goal.invariant-items-loop
invariant-items-loop l = shadow (Utf8 l.rest)
