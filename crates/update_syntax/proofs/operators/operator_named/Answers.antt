use Rattle.std.proofs.Common.{◌∙◌, ap}
use Rattle.std.specs.Prelude.{option_map}
use Rattle.update_syntax.specs.Told.{told}
use Rattle.filter_syntax.proofs.Lookups.{named_told}
use Rattle.update_syntax.proofs.operators.operator_named.Goals as goal

pub returns : goal.returns
returns c =
    ap (λ found. option_map told found) c.find_operator.ensures
    ∙ named_told (λ row. row.name.now) (λ row. row.it) told _ _ _ c.operators.ensures
