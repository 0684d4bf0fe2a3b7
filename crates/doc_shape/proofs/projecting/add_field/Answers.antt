use Rattle.std.proofs.Common.{◌≡◌, ◌++◌, ◌∙◌, OnOk, sym, subst}
use Rattle.doc_shape.proofs.Layers.{field_leads}
use Rattle.doc_shape.proofs.projecting.add_field.Goals as goal

pub returns : goal.returns
returns c =
    subst (λ more. OnOk c.add_pair.result (c.add_pair.new.out ≡ c.args.out.now ++ more))
    (field_leads c.args.shape.now c.args.pair.now c.as_slice-paths.result.now c.as_slice-paths.ensures.same
    (sym c.hides.ensures ∙ c.if-hides.false) (sym c.keeps_whole.ensures ∙ c.if-keeps_whole.false))
    c.add_pair.ensures
