use Rattle.std.proofs.Common.{◌∙◌, ap}
use Rattle.std.specs.Prelude.{option_map}
use Rattle.filter_syntax.specs.Told.{told_top_level}
use Rattle.filter_syntax.proofs.Lookups.{named_told}
use Rattle.filter_syntax.proofs.operators.top_level_named.Goals as goal

pub returns : goal.returns
returns c =
    ap (λ found. option_map told_top_level found) c.find_top_level.ensures
    ∙ named_told (λ row. row.name.now) (λ row. row.it) told_top_level _ _ _ c.top_level.ensures
