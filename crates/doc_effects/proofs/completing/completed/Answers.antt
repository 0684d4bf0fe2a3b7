use Rattle.std.proofs.Common.{◌≡◌, subst}
use Rattle.std.specs.Prelude.{IfOk}
use Rattle.filter_syntax.specs.Meaning.{Doc}
use Rattle.doc_effects.proofs.Completed.{with_later}
use Rattle.doc_effects.proofs.completing.completed.Goals as goal

pub returns-in_ok-field-in-Some : goal.returns-in_ok-field-in-Some
returns-in_ok-field-in-Some c =
    subst (λ (whole : Doc). IfOk c.with_id.result (λ it. it ≡ whole))
    (with_later c.args.who c.args.now c.args.doc _ c.in-Some.place _ c.in-Some.ensures.value c.in_ok-field-in-Some.ensures.value
    c.in_ok-field-in-Some.ensures.pairs) c.with_id.ensures
