use Rattle.std.proofs.Common.{◌≡◌, drop}
use Rattle.std.specs.List.{list_any, list_all}
use Rattle.jsonb_contain.specs.Containment.{met}
use Rattle.jsonb_contain.specs.declared.cond.Cond.{Cond}
use Rattle.jsonb_contain.proofs.meeting.+meets.Given as goal

abbrev pub invariant-any_meets-loop-cond : goal.invariant-any_meets-loop-cond
invariant-any_meets-loop-cond l =
    let test = λ (cond : Cond). met cond l.key l.row in
    list_any test l.conds ≡ list_any test (drop l.cond-index l.conds)

abbrev pub invariant-all_meet-loop-cond : goal.invariant-all_meet-loop-cond
invariant-all_meet-loop-cond l =
    let test = λ (cond : Cond). met cond l.key l.row in
    list_all test l.conds ≡ list_all test (drop l.cond-index l.conds)
