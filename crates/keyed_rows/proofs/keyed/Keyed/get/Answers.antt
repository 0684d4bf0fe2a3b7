use Rattle.std.proofs.Common.{◌∙◌, sym}
use Rattle.keyed_rows.proofs.Kept.{opened, looked}
use Rattle.keyed_rows.proofs.keyed.Keyed.get.Goals as goal

pub returns-clause-found : goal.returns-clause-found
returns-clause-found g c =
    let keyed = opened c.self.invariant c.self.view_is in
    c.get.ensures.value
    ∙ looked keyed c.args.key.now c.in_ok-place.place
    (sym c.place_of.ensures ∙ c.in_ok-place.was)
