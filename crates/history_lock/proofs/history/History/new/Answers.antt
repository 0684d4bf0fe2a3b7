use Rattle.std.proofs.Common.{ap, ◌≡◌, [], ◌∷◌, rules, arith}
use Rattle.history_lock.specs.declared.rule.Held.TheVariants.{Here}
use Rattle.history_lock.proofs.Closes.{opens}
use Rattle.history_lock.proofs.history.History.new.Goals as goal

pub new-requires : goal.new-requires
new-requires g c =
    let items : c.push.new.self.items ≡ Here c.args.object ∷ [] = search rules in
    rw items (opens _ _ c.args.object (ap g.O.Object.state c.of.ensures) (ap g.O.Object.faults c.of.ensures) (omega arith))
