use Rattle.std.proofs.Common.{rules, arith}
use Rattle.history_lock.proofs.Keeping.{offers-allowed, exchange-same}
use Rattle.history_lock.proofs.Joining.{may-split}
use Rattle.history_lock.proofs.steps.cut.Goals as goal

pub compare_exchange-requires : goal.compare_exchange-requires
compare_exchange-requires g c = (search rules, omega arith, offers-allowed _ _ _ _ c.args.parts _ _ (λ k. exchange-same k c.args.parts))

pub split_seat-requires : goal.split_seat-requires
split_seat-requires g c = (
  search rules,
  omega arith,
  may-split _ _ _ c.args.place.now.me c.compare_exchange.new.seat.me c.args.parts c.compare_exchange.ensures.2 c.requires.free.0
      c.requires.parts.0 c.requires.parts.1,
)
