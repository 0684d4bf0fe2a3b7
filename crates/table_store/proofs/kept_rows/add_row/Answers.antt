use Rattle.std.proofs.Common.{sym, ◌∙◌}
use Rattle.std.proofs.lemmas.Result.{err_from_is_err_and}
use Rattle.table_store.proofs.RowLoads.{absent-key, above-row, row-added}
use Rattle.table_store.proofs.kept_rows.add_row.Goals as goal

pub returns-in_err-row-clause-err : goal.returns-in_err-row-clause-err
returns-in_err-row-clause-err c =
    let back = err_from_is_err_and c.from_residual.result c.from_residual.ensures.1 in
    rw (back.1, back.2) (λ is may. c.in_err-row.ensures.err is)

pub insert-requires-clause-absent : goal.insert-requires-clause-absent
insert-requires-clause-absent c =
    absent-key _ c.args.kept _ _ (sym c.may_stand.ensures ∙ c.if-not-may_stand.false) c.in_ok-row.ensures.ok.under

pub insert-requires-clause-above : goal.insert-requires-clause-above
insert-requires-clause-above c = above-row _ c.args.kept _ (sym c.may_stand.ensures ∙ c.if-not-may_stand.false) c.requires

pub returns-in-Ok-clause-ok : goal.returns-in-Ok-clause-ok
returns-in-Ok-clause-ok c =
    let may = sym c.may_stand.ensures ∙ c.if-not-may_stand.false in
    row-added _ c.args.kept _ _ _ _ may c.in_ok-row.ensures.ok c.in-Ok.ensures.ok c.set_stamp.ensures
