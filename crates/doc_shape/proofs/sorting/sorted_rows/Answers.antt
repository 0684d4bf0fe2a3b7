use Rattle.std.proofs.Common.{rules, ◌∙◌, ap}
use Rattle.std.proofs.lemmas.Fn.{always_returns_same}
use Rattle.doc_shape.specs.Sorted.{stably_sorted}
use Rattle.doc_shape.specs.Rows.{row_below}
use Rattle.doc_shape.proofs.Orders.{row_ranks}
use Rattle.doc_shape.proofs.Stable.{sorts_stably}
use Rattle.doc_shape.proofs.sorting.sorted_rows.Goals as goal

pub returns-in-Ok : goal.returns-in-Ok
returns-in-Ok c =
    sorts_stably row_below row_ranks c.into_vec-rows.result.items c.sort_by.new.self.items
    (c.in-Ok.ensures.sorted row_below row_ranks (always_returns_same _ _ _ (λ a r f h. search rules)))
    (c.in-Ok.ensures.stable row_below row_ranks (always_returns_same _ _ _ (λ a r f h. search rules)))
    ∙ ap (stably_sorted row_below) c.into_vec-rows.ensures
