use Rattle.std.proofs.Common.{rules, of_calls, ◌∙◌, drop, ap}
use Rattle.std.proofs.lemmas.Fn.{always_returns_same}
use Rattle.doc_shape.specs.Clashes.{rises}
use Rattle.doc_shape.specs.Cuts.{before, none_before, tails}
use Rattle.doc_shape.specs.Shown.{behind}
use Rattle.doc_shape.proofs.Cutting.{before_falls, falls_along, behind_rest, none_left, rises_behind}
use Rattle.doc_shape.proofs.projecting.from_name.Goals as goal

pub returns-clause-behind : goal.returns-clause-behind
returns-clause-behind c =
    let name = c.args.name.now in
    let depth = c.args.depth in
    let point = c.partition_point-low.ensures.partitioned (λ path. before name (drop depth path)) (always_returns_same _ _ _
    (λ a r f k. search (rules, of_calls)))
    (falls_along (before name) (before_falls name) depth c.args.paths.now c.requires) in
    ap (λ rest. behind name (tails depth rest)) c.split_at.ensures.back
    ∙ behind_rest name depth c.args.paths.now c.partition_point-low.result point.0

pub returns-clause-rising : goal.returns-clause-rising
returns-clause-rising c =
    ap (λ rest. rises (tails c.args.depth rest)) c.split_at.ensures.back
    ∙ rises_behind c.args.depth c.args.paths.now c.partition_point-low.result c.requires

pub returns-clause-none : goal.returns-clause-none
returns-clause-none c =
    let name = c.args.name.now in
    let depth = c.args.depth in
    let point = c.partition_point-low.ensures.partitioned (λ path. before name (drop depth path)) (always_returns_same _ _ _
    (λ a r f k. search (rules, of_calls)))
    (falls_along (before name) (before_falls name) depth c.args.paths.now c.requires) in
    ap (λ rest. none_before name (tails depth rest)) c.split_at.ensures.back
    ∙ none_left name depth c.args.paths.now c.partition_point-low.result point.1
