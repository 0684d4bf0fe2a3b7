use Rattle.std.proofs.Common.{◌≡◌, ◌∷◌, rules}
use Rattle.std.specs.Vec.Iter.{into_iter_items}
use Rattle.outside.proofs.Rooms.{made_one}
use Rattle.outside.proofs.tables.make_all.Goals as goal

pub loop-step-preserved : goal.loop-step-preserved
loop-step-preserved c =
    let next : into_iter_items c.loop-step.steps ≡ c.in-Some.step ∷ into_iter_items c.next.new.self = search rules in
    let making = rw next at c.loop-step.invariant in
    made_one _ _ c.loop-step.tables c.in-Some.step (into_iter_items c.next.new.self) making
    c.make.new.tables c.make.ensures.tables c.make.ensures.room
