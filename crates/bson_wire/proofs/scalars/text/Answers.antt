use Rattle.std.proofs.Common.{sym, ◌∙◌, ap}
use Rattle.std.specs.Prelude.{Ok}
use Rattle.bson_wire.proofs.Texts.{text_again, text_refused}
use Rattle.bson_wire.proofs.scalars.text.Goals as goal

pub returns-in-Ok-clause-value : goal.returns-in-Ok-clause-value
returns-in-Ok-clause-value c = text_again _ _ c.in-Ok.ensures.cases.1 ∙ ap (λ it. Ok it) (sym c.in-Ok.ensures.cases.0)

pub returns-in-Err-clause-value : goal.returns-in-Err-clause-value
returns-in-Err-clause-value c = text_refused _ _ c.in-Err.ensures.cases.0
