use Rattle.std.proofs.lemmas.Result.{err_from_is_err_and}
use Rattle.table_store.proofs.Behind.{left-rest, left-go}
use Rattle.table_store.proofs.TableLoads.{tables-go, tables-stop}
use Rattle.table_store.proofs.loading.load_tables.Goals as goal

pub loop-table-preserved : goal.loop-table-preserved
loop-table-preserved c = record {
  left = left-go _ _ _ _ _ _ _ c.loop-table.invariant.left c.in-Some.ensures.steps.0 c.in-Some.ensures.steps.1;
  so = tables-go _ c.in-Some.table _ _ c.loop-table.invariant.so c.in_ok-add_table.ensures.ok;
}

pub returns-in_err-add_table-clause-err : goal.returns-in_err-add_table-clause-err
returns-in_err-add_table-clause-err c =
    let back = err_from_is_err_and c.from_residual.result c.from_residual.ensures.1 in
    let are = left-rest _ _ _ _ _ _ c.loop-table.invariant.left c.in-Some.ensures.steps.0 in
    rw (back.1, back.2) (tables-stop _ _ _ c.in-Some.table _ _ c.loop-table.invariant.so are c.in_err-add_table.ensures.err)
