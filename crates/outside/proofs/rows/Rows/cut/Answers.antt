use Rattle.std.proofs.Common.{sym, ap, ◌∙◌}
use Rattle.outside.specs.Rows.{entries_of}
use Rattle.outside.proofs.Places.{cut_there}
use Rattle.outside.proofs.rows.Rows.cut.Goals as goal

pub invariant_of-self : goal.invariant_of-self
invariant_of-self c = λ index is.
    let rows = c.self.inside.rows.items in
    let first = rw (← c.self.view_is) at c.in-Some.ensures in
    c.take_out.ensures rows c.self.invariant index is
    ∙ ap entries_of (sym (c.remove.ensures.items ∙ cut_there c.args.key.now rows c.in-Some.place first))
