use Rattle.std.proofs.Common.{rules}
use Rattle.history_lock.specs.declared.rule.Held.TheVariants.{Here}
use Rattle.history_lock.proofs.steps.take_object.Goals as goal

pub exchange-requires : goal.exchange-requires
exchange-requires g c = let o = c.requires.slot in (c.requires.table, (Here o.0, search rules))
