use Rattle.std.proofs.Common.{◌≡◌, take}
use Rattle.outside.specs.Rows.{entries_of}
use Rattle.outside.proofs.index.index_of.Given as goal

abbrev pub invariant-loop-row : goal.invariant-loop-row
invariant-loop-row l = l.index ≡ entries_of (take l.row-index l.rows)
