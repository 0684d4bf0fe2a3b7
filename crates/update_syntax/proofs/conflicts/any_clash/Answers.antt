use Rattle.std.proofs.Common.{rules, ◌∙◌, ap}
use Rattle.std.proofs.lemmas.Fn.{always_returns_same}
use Rattle.update_syntax.specs.Conflicts.{any_clash, neighbours_clash}
use Rattle.update_syntax.proofs.Neighbours.{below, below_ranks, sorted_tells}
use Rattle.update_syntax.proofs.conflicts.any_clash.Goals as goal

pub returns : goal.returns
returns c =
    c.neighbours_clash.ensures ∙ ap neighbours_clash c.as_slice.ensures.value
    ∙ sorted_tells _ _ c.sort_unstable_by.ensures.permutation
    (c.sort_unstable_by.ensures.sorted below below_ranks (always_returns_same _ _ _ (λ a r f h. search rules)))
    ∙ ap any_clash c.into_vec-paths.ensures
