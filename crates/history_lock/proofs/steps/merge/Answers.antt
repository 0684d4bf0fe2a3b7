use Rattle.std.proofs.Common.{rules, arith}
use Rattle.history_lock.proofs.Keeping.{learns-allowed}
use Rattle.history_lock.proofs.Parting.{joins-allowed}
use Rattle.history_lock.proofs.steps.merge.Goals as goal

pub join_seat-requires : goal.join_seat-requires
join_seat-requires g c = (
  search rules,
  search rules,
  search rules,
  omega arith,
  joins-allowed _ _ _ _ _ _ c.requires.free.0 c.requires.other_free.0,
)

pub load-requires : goal.load-requires
load-requires g c = (search rules, omega arith, learns-allowed _ _ _ _ _)
