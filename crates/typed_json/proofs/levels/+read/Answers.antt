use Rattle.std.proofs.Common.{◌≡◌, ◌∙◌, ◌-◌, ◌+◌, ◌==◌, suc, length, true, Some, sym, ap, arith}
use Rattle.std.proofs.lemmas.Bool.{eq-eqb}
use Rattle.std.proofs.lemmas.Result.{err_from_is_err_and, IfOk-weaker}
use Rattle.typed_json.specs.Reading.{doc_at, items_at, value_within, schema_parts}
use Rattle.typed_json.proofs.Left.{doc_given, items_given, items_stop, items_end, err_weaker}
use Rattle.typed_json.proofs.levels.+read.Goals as goal

pub doc_at-returns-clause-ok : goal.doc_at-returns-clause-ok
doc_at-returns-clause-ok t c =
    let schema = c.args.schema.now in
    let fields = c.args.fields.now in
    let others = c.args.others in
    let names = c.in-Some.field-0.names.now in
    let kinds = c.in-Some.field-0.kinds.now in
    let deeper : c.args.levels ≡ suc (c.args.levels - 1) = omega arith in
    let parts : schema_parts schema ≡ Some (names, kinds) = sym c.in-Some.ensures in
    let as_many : (length names == length kinds) ≡ true = eq-eqb _ _ (omega arith) in
    let fields_as_many : (length fields == length names + others) ≡ true = eq-eqb _ _ (omega arith) in
    let given = ap (λ n. doc_at n schema fields others) deeper
    ∙ doc_given (c.args.levels - 1) schema fields others names kinds parts as_many fields_as_many c.as_slice-kinds.ensures.rising
    c.as_slice-fields.ensures.rising in
    IfOk-weaker c.pairs_of.result _ _ (λ it h. given ∙ h) c.pairs_of.ensures.ok

pub doc_at-returns-clause-err : goal.doc_at-returns-clause-err
doc_at-returns-clause-err t c =
    let schema = c.args.schema.now in
    let fields = c.args.fields.now in
    let others = c.args.others in
    let names = c.in-Some.field-0.names.now in
    let kinds = c.in-Some.field-0.kinds.now in
    let deeper : c.args.levels ≡ suc (c.args.levels - 1) = omega arith in
    let parts : schema_parts schema ≡ Some (names, kinds) = sym c.in-Some.ensures in
    let as_many : (length names == length kinds) ≡ true = eq-eqb _ _ (omega arith) in
    let fields_as_many : (length fields == length names + others) ≡ true = eq-eqb _ _ (omega arith) in
    let given = ap (λ n. doc_at n schema fields others) deeper
    ∙ doc_given (c.args.levels - 1) schema fields others names kinds parts as_many fields_as_many c.as_slice-kinds.ensures.rising
    c.as_slice-fields.ensures.rising in
    err_weaker c.pairs_of.result _ _ (λ e h not. given ∙ h not) c.pairs_of.ensures.err

pub items_at-returns-clause-ok : goal.items_at-returns-clause-ok
items_at-returns-clause-ok t c =
    let kinds = c.as_slice-kinds.result.now in
    let plains = c.as_slice-plains.result.now in
    let levels = c.args.levels - 1 in
    let deeper : c.args.levels ≡ suc (c.args.levels - 1) = omega arith in
    let as_many : (length kinds == length plains) ≡ true = eq-eqb _ _ (omega arith) in
    let all = items_end (value_within levels) kinds plains c.loop-index.items c.loop-index.index c.loop-index.invariant (omega arith)
    (omega arith) in
    rw (← c.as_slice-kinds.ensures, ← c.as_slice-plains.ensures) (ap (λ n. items_at n kinds plains) deeper
    ∙ items_given levels kinds plains as_many ∙ all)

pub items_at-returns-in_err-value-clause-err : goal.items_at-returns-in_err-value-clause-err
items_at-returns-in_err-value-clause-err t c =
    let kinds = c.as_slice-kinds.result.now in
    let plains = c.as_slice-plains.result.now in
    let levels = c.args.levels - 1 in
    let deeper : c.args.levels ≡ suc (c.args.levels - 1) = omega arith in
    let as_many : (length kinds == length plains) ≡ true = eq-eqb _ _ (omega arith) in
    let back = err_from_is_err_and c.from_residual-in_err-value.result c.from_residual-in_err-value.ensures.1 in
    rw back.1 (λ not.
    let none = c.in_err-value.ensures.err (sym back.2 ∙ not) in
    let all = items_stop (value_within levels) kinds plains c.loop-index.items c.loop-index.index c.index-kinds-index.result
    c.index-plains-index.result c.loop-index.invariant
    c.loop-index-test.true c.index-kinds-index.is (omega arith) c.index-plains-index.is none in
    rw (← c.as_slice-kinds.ensures, ← c.as_slice-plains.ensures) (ap (λ n. items_at n kinds plains) deeper
    ∙ items_given levels kinds plains as_many ∙ all))
