use Rattle.outside.specs.Changes.{has_key}
use Rattle.outside.proofs.Places.{firsts}
use Rattle.outside.proofs.rows.Rows.place.Goals as goal

pub returns-in-None : goal.returns-in-None
returns-in-None c =
    let is = rw c.deref-in-None.ensures.value at c.place_among.ensures in
    rw (← c.self.view_is) (firsts (has_key c.args.key.now) c.self.inside.rows.items c.place_among.result is)
