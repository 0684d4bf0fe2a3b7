use Rattle.std.proofs.Common.{◌≡◌, take}
use Rattle.outside.specs.Tables.{kept_tables}
use Rattle.outside.proofs.archive.Archive.copy.Given as goal

abbrev pub invariant-loop-table : goal.invariant-loop-table
invariant-loop-table l = l.tables ≡ kept_tables (take l.table-index l.table-items)
