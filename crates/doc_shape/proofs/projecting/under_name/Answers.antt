use Rattle.std.proofs.Common.{rules, of_calls, ◌+◌, ◌∙◌, drop, ap}
use Rattle.std.proofs.lemmas.Fn.{always_returns_same}
use Rattle.doc_shape.specs.Clashes.{rises}
use Rattle.doc_shape.specs.Cuts.{up_to, tails}
use Rattle.doc_shape.proofs.Cutting.{up_to_falls, falls_along, behind_front, behind_rises}
use Rattle.doc_shape.proofs.projecting.under_name.Goals as goal

pub returns-clause-behind : goal.returns-clause-behind
returns-clause-behind c =
    let name = c.args.name.now in
    let depth = c.args.depth in
    let rest = c.from_name-rest.result.now in
    let point = c.partition_point-high.ensures.partitioned (λ path. up_to name (drop depth path)) (always_returns_same _ _ _
    (λ a r f k. search (rules, of_calls)))
    (falls_along (up_to name) (up_to_falls name) depth rest c.from_name-rest.ensures.rising) in
    ap (tails (depth + 1)) c.split_at.ensures.front
    ∙ behind_front name depth rest c.partition_point-high.result c.from_name-rest.ensures.none point.0 point.1
    ∙ c.from_name-rest.ensures.behind

pub returns-clause-rising : goal.returns-clause-rising
returns-clause-rising c =
    let name = c.args.name.now in
    let depth = c.args.depth in
    let rest = c.from_name-rest.result.now in
    let point = c.partition_point-high.ensures.partitioned (λ path. up_to name (drop depth path)) (always_returns_same _ _ _
    (λ a r f k. search (rules, of_calls)))
    (falls_along (up_to name) (up_to_falls name) depth rest c.from_name-rest.ensures.rising) in
    ap rises (ap (tails (depth + 1)) c.split_at.ensures.front
    ∙ behind_front name depth rest c.partition_point-high.result c.from_name-rest.ensures.none point.0 point.1
    ∙ c.from_name-rest.ensures.behind) ∙ behind_rises name (tails depth c.args.paths.now) c.requires
