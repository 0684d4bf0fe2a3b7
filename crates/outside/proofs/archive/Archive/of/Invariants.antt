use Rattle.std.proofs.Common.{◌≡◌}
use Rattle.outside.specs.Tables.{kept_tables}
use Rattle.outside.proofs.archive.Archive.of.Given as goal

abbrev pub invariant-loop-table : goal.invariant-loop-table
invariant-loop-table l = kept_tables l.tables.items ≡ l.yielded
