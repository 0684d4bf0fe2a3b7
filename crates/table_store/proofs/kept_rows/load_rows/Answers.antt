use Rattle.std.proofs.Common.{refl}
use Rattle.table_store.proofs.Behind.{left-rest, left-go}
use Rattle.table_store.proofs.RowLoads.{rows-above, rows-go, rows-stop}
use Rattle.table_store.proofs.kept_rows.load_rows.Goals as goal

pub add_row-requires : goal.add_row-requires
add_row-requires c = rows-above _ _ _ _ c.loop-row.invariant.has

pub loop-row-preserved : goal.loop-row-preserved
loop-row-preserved c = record {
  left = left-go _ _ _ _ _ _ _ c.loop-row.invariant.left c.in-Some.ensures.steps.0 c.in-Some.ensures.steps.1;
  has = rows-go _ _ c.in-Some.row _ _ _ c.loop-row.invariant.has c.in-Ok.ensures.ok;
}

pub returns-in-Err-NotRow-clause-err : goal.returns-in-Err-NotRow-clause-err
returns-in-Err-NotRow-clause-err c =
    let are = left-rest _ _ _ _ _ _ c.loop-row.invariant.left c.in-Some.ensures.steps.0 in
    let bad = c.in-Err-NotRow.ensures.err c.in-Err-NotRow.field-0-is in
    (refl, rows-stop _ _ _ _ c.in-Some.row _ _ c.loop-row.invariant.has are bad)
