use Rattle.std.proofs.Common.{◌≡◌, ◌++◌}
use Rattle.table_rows.specs.Kept.{placed}
use Rattle.table_rows.specs.Rows.{selected}
use Rattle.table_rows.proofs.selecting.select_all.Given as goal

-- what is chosen, and then what the others give, is all
abbrev pub invariant-loop-kept : goal.invariant-loop-kept
invariant-loop-kept l = l.chosen ++ selected l.cond (placed l.kept-iterator) ≡ selected l.cond (placed l.rows)
