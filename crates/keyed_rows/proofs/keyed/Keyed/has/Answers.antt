use Rattle.std.proofs.Common.{◌∙◌, ap}
use Rattle.std.specs.Prelude.{is_some}
use Rattle.keyed_rows.proofs.Kept.{opened, has}
use Rattle.keyed_rows.proofs.keyed.Keyed.has.Goals as goal

pub returns : goal.returns
returns g c =
    c.is_some.ensures ∙ ap is_some c.place_of.ensures
    ∙ has (opened c.self.invariant c.self.view_is) c.args.key.now
