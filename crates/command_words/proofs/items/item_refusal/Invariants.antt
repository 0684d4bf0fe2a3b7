use Rattle.std.proofs.Common.{◌≡◌, length}
use Rattle.command_words.specs.Refusal.{item_refusal}
use Rattle.command_words.proofs.items.item_refusal.Given as goal

abbrev pub invariant-loop-rest : goal.invariant-loop-rest
invariant-loop-rest l = item_refusal l.item l.rest ≡ item_refusal l.item l.fields

abbrev pub decreases-loop-rest : goal.decreases-loop-rest
decreases-loop-rest l = length l.rest
