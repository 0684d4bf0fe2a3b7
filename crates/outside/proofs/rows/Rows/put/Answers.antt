use Rattle.std.proofs.Common.{sym, ◌∙◌}
use Rattle.outside.proofs.Finding.{other_text}
use Rattle.outside.proofs.rows.Rows.put.Goals as goal

pub invariant_of-self : goal.invariant_of-self
invariant_of-self c = λ index is.
    let old = c.index_mut-old in
    c.self.invariant index is
    ∙ sym (other_text c.self.inside.rows.items c.in-Some.place old.result.now c.args.row.text old.ensures.value)
