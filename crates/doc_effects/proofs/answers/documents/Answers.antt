use Rattle.std.proofs.Common.{ap, map, ◌∙◌}
use Rattle.doc_shape.specs.Shown.{shown}
use Rattle.doc_model.specs.Step.{cut_to, limited}
use Rattle.doc_effects.proofs.Displaying.{enough_displayed}
use Rattle.doc_effects.proofs.answers.documents.Goals as goal

pub returns : goal.returns
returns c =
    let show = c.args.show.now in
    let rest = c.in_ok-docs-2.ensures ∙ ap (limited show.skip show.limit) c.in_ok-sort_stably.ensures.ok in
    let all = c.in_ok-docs-3.ensures ∙ ap (map (shown show.shape)) rest in
    c.cut_to.ensures ∙ ap (cut_to show.cut) all ∙ enough_displayed show _ _ _ c.enough.ensures c.in_ok-docs.ensures
