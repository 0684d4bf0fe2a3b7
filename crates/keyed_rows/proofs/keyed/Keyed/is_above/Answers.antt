use Rattle.keyed_rows.proofs.Kept.{opened, above_by}
use Rattle.keyed_rows.proofs.keyed.Keyed.is_above.Goals as goal

pub returns-in-Some : goal.returns-in-Some
returns-in-Some g c =
    let keyed = opened c.self.invariant c.self.view_is in
    above_by keyed c.in-Some.last.now c.args.place c.in-Some.field-0-1.now
    c.in-Some.ensures.value c.in-Some.ensures.greatest
