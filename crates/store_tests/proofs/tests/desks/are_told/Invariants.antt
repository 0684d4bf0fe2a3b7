use Rattle.std.proofs.Common.{◌≡◌}
use Rattle.store_tests.proofs.tests.desks.are_told.Given as goal

abbrev pub invariant-loop-line : goal.invariant-loop-line
invariant-loop-line g l = g.D.TableDesk.held l.desk ≡ g.D.TableDesk.held l.initial.desk
