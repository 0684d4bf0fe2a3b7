use Rattle.std.proofs.Common.{map}
use Rattle.std.specs.Vec.Iter.{into_iter_items, into_iter_len}
use Rattle.outside.specs.Tables.{kept_tables, change_of}
use Rattle.outside.proofs.Rooms.{Making}
use Rattle.outside.proofs.tables.make_all.Given as goal

abbrev pub invariant-loop-step : goal.invariant-loop-step
invariant-loop-step l =
    Making (map change_of (into_iter_items l.initial.steps)) (kept_tables l.initial.tables.items) l.tables (into_iter_items l.steps)

abbrev pub decreases-loop-step : goal.decreases-loop-step
decreases-loop-step l = into_iter_len l.steps
