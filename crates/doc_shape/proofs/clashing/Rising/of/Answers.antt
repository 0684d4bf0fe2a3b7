use Rattle.std.proofs.Common.{rules, ◌≡◌, ◌∙◌, true, sym, ap, subst}
use Rattle.std.proofs.lemmas.Fn.{always_returns_same}
use Rattle.doc_shape.specs.Clashes.{path_below, rises}
use Rattle.doc_shape.specs.Sorted.{stably_sorted}
use Rattle.doc_shape.proofs.Neighbours.{below_ranks, sorted_rises}
use Rattle.doc_shape.proofs.Stable.{sorts_stably}
use Rattle.doc_shape.proofs.clashing.Rising.of.Goals as goal

pub returns-in-Ok : goal.returns-in-Ok
returns-in-Ok c =
    c.from_vec.ensures
    ∙ sorts_stably path_below below_ranks c.into_vec-paths.result.items c.sort_by.new.self.items
    (c.in-Ok.ensures.sorted path_below below_ranks (always_returns_same _ _ _ (λ a r f h. search rules)))
    (c.in-Ok.ensures.stable path_below below_ranks (always_returns_same _ _ _ (λ a r f h. search rules)))
    ∙ ap (stably_sorted path_below) c.into_vec-paths.ensures

pub invariant_of-result : goal.invariant_of-result
invariant_of-result c =
    subst (λ paths. rises paths ≡ true) (sym (c.from_vec.ensures
    ∙ sorts_stably path_below below_ranks c.into_vec-paths.result.items c.sort_by.new.self.items
    (c.in-Ok.ensures.sorted path_below below_ranks (always_returns_same _ _ _ (λ a r f h. search rules)))
    (c.in-Ok.ensures.stable path_below below_ranks (always_returns_same _ _ _ (λ a r f h. search rules)))
    ∙ ap (stably_sorted path_below) c.into_vec-paths.ensures)) (sorted_rises c.args.paths)
