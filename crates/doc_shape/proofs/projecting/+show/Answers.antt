use Rattle.std.proofs.Common.{◌≡◌, ◌∙◌, true, IfOk, length, sym, ap, subst, arith}
use Rattle.doc_shape.specs.Clashes.{rises}
use Rattle.doc_shape.specs.Cuts.{tails}
use Rattle.doc_shape.specs.Shown.{shown_at, shown_value}
use Rattle.doc_shape.proofs.Layers.{none_lead, one_ends, all_lead}
use Rattle.doc_shape.proofs.projecting.+show.Goals as goal

pub shown_under-returns-in-None : goal.shown_under-returns-in-None
shown_under-returns-in-None t c =
    subst (λ found. IfOk c.value_if.result (λ it. it ≡ found)) (sym
    (none_lead c.args.includes c.args.depth c.args.paths.now c.args.value.now c.in-None.ensures.cases))
    c.value_if.ensures

pub shown_under-returns-then-parts-depth : goal.shown_under-returns-then-parts-depth
shown_under-returns-then-parts-depth t c =
    subst (λ found. IfOk c.value_if-then-parts-depth.result (λ it. it ≡ found))
    (sym (ap (λ paths. shown_at c.args.includes (tails c.args.depth paths)
    (shown_value c.args.includes c.args.value.now)) c.in-Some.ensures.cases.0
    ∙ one_ends c.args.includes c.args.depth c.in-Some.path.now c.in-Some.field-0-1.now c.args.value.now (omega
    (arith, c.if-parts-depth.true, ap length c.parts.ensures.same))))
    c.value_if-then-parts-depth.ensures

pub shown_under-returns-else-parts-depth : goal.shown_under-returns-else-parts-depth
shown_under-returns-else-parts-depth t c =
    subst (λ found. IfOk c.shown_by.result (λ it. it ≡ found))
    (sym (ap (λ paths. shown_at c.args.includes (tails c.args.depth paths)
    (shown_value c.args.includes c.args.value.now)) c.in-Some.ensures.cases.0
    ∙ all_lead c.args.includes c.args.depth c.in-Some.path.now c.in-Some.field-0-1.now c.args.value.now (omega
    (arith, c.if-parts-depth.false, ap length c.parts.ensures.same))
    (subst (λ paths. rises (tails c.args.depth paths) ≡ true) c.in-Some.ensures.cases.0 c.requires)
    ∙ ap (λ paths. (shown_value c.args.includes c.args.value.now).by (tails c.args.depth paths)) (sym c.in-Some.ensures.cases.0)))
    c.shown_by.ensures
