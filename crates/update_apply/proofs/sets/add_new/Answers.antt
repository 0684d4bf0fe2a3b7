use Rattle.std.proofs.Common.{◌++◌, ◌∷◌, [], subst, sym}
use Rattle.bson_values.specs.declared.value.Value.{Value}
use Rattle.update_apply.specs.Ranks.{Tells}
use Rattle.update_apply.proofs.Noted.{tells_more, told_on}
use Rattle.update_apply.proofs.sets.add_new.Goals as goal

pub returns-clause-tells : goal.returns-clause-tells
returns-clause-tells c =
    told_on c.add.result c.note.new.seen (c.args.all.now ++ c.in_ok-it.it ∷ []) c.add.new.self
    (subst (λ (it : Value). Tells c.note.new.seen (c.args.all.now ++ it ∷ [])) (sym c.in_ok-it.ensures)
    (tells_more c.args.seen.now c.note.new.seen c.args.all.now c.args.it.now c.requires c.in_ok-note.ensures))
    c.add.ensures.ok
