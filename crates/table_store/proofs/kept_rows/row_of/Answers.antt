use Rattle.std.proofs.Common.{sym, ◌∙◌}
use Rattle.table_store.proofs.RowLoads.{not-keyed, row-read}
use Rattle.table_store.proofs.kept_rows.row_of.Goals as goal

pub returns-then-not-branch-clause-err : goal.returns-then-not-branch-clause-err
returns-then-not-branch-clause-err c = λ _. not-keyed _ _ _ _ c.in_ok-json.ensures.ok
    (record { typed = c.in_ok-doc.ensures.typed; stored = c.in_ok-doc.ensures.storable; row_is = c.in_ok-doc.ensures.read })
    (sym c.in_ok-is_key_of.ensures ∙ c.if-not-branch.true)

pub returns-clause-ok : goal.returns-clause-ok
returns-clause-ok c = row-read _ _ _ _ _ c.in_ok-json.ensures.ok
    (record { typed = c.in_ok-doc.ensures.typed; stored = c.in_ok-doc.ensures.storable; row_is = c.in_ok-doc.ensures.read })
    (sym c.in_ok-is_key_of.ensures ∙ c.if-not-branch.false) c.in_ok-row.ensures.key c.in_ok-row.ensures.json c.in_ok-row.ensures.text
