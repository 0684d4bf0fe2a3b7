use Rattle.table_words.specs.Sound.{SoundEdits}
use Rattle.store_tests.proofs.tests.asks.edits.Given as goal

abbrev pub invariant-loop-change : goal.invariant-loop-change
invariant-loop-change l = SoundEdits l.edits
