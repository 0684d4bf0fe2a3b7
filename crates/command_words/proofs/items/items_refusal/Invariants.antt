use Rattle.std.proofs.Common.{◌≡◌, length}
use Rattle.std_words.specs.Reasons.{first_of_all}
use Rattle.command_words.specs.Refusal.{item_refusal}
use Rattle.command_words.specs.Told.{items_told}
use Rattle.command_words.proofs.items.items_refusal.Given as goal

abbrev pub invariant-loop-fields : goal.invariant-loop-fields
invariant-loop-fields l = first_of_all (item_refusal l.item) (items_told l.rest) ≡ first_of_all (item_refusal l.item) (items_told l.items)

abbrev pub decreases-loop-fields : goal.decreases-loop-fields
decreases-loop-fields l = length (items_told l.rest)
