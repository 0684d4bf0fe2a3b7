use Rattle.history_lock.specs.Places.{Each}
use Rattle.cursor_core.specs.Sound.{IsItem}
use Rattle.history_tests.proofs.tests.asks.items.Given as goal

abbrev pub invariant-loop-number : goal.invariant-loop-number
invariant-loop-number l = Each IsItem l.items
