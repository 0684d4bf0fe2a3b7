use Rattle.std.proofs.Common.{All, ap, sym, subst, ◌∙◌}
use Rattle.doc_shape.specs.Sorted.{sorted}
use Rattle.doc_effects.specs.Rows.{IsStored}
use Rattle.doc_effects.proofs.Firsts.{sorted_stored}
use Rattle.doc_effects.proofs.edits.first_sorted.Goals as goal

pub first_in-requires : goal.first_in-requires
first_in-requires c =
    let are = c.as_slice.ensures ∙ c.in_ok-sort_stably.ensures.ok ∙ ap (sorted c.args.order.now) c.in_ok-docs.ensures in
    subst (All IsStored) (sym are) (sorted_stored c.args.order.now c.args.filter.now c.args.rows.now c.requires)
