use Rattle.std.proofs.Common.{◌≡◌, ◌++◌, codes, subst, ◌∙◌}
use Rattle.std.specs.Prelude.{OnOk}
use Rattle.update_apply.proofs.Places.{without_first, without_none}
use Rattle.update_apply.proofs.ids.add_others.Goals as goal

pub returns-in-Some : goal.returns-in-Some
returns-in-Some c =
    subst (λ more. OnOk c.add_around.result (c.add_around.new.out ≡ c.args.out.now ++ more))
    (without_first (codes "_id") c.args.doc.now c.in-Some.place c.in-Some.ensures.value) c.add_around.ensures

pub returns-in-None : goal.returns-in-None
returns-in-None c =
    subst (λ more. OnOk c.add_pairs.result (c.add_pairs.new.out ≡ c.args.out.now ++ more))
    (c.as_slice.ensures ∙ without_none (codes "_id") c.args.doc.now c.in-None.ensures.value) c.add_pairs.ensures
