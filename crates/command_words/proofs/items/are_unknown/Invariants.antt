use Rattle.std.proofs.Common.{◌≡◌, length}
use Rattle.std.specs.List.{list_any}
use Rattle.command_words.specs.Refusal.{item_has_unknown}
use Rattle.command_words.specs.Told.{items_told}
use Rattle.command_words.proofs.items.are_unknown.Given as goal

abbrev pub invariant-loop-fields : goal.invariant-loop-fields
invariant-loop-fields l = list_any (item_has_unknown l.item) (items_told l.rest) ≡ list_any (item_has_unknown l.item) (items_told l.items)

abbrev pub decreases-loop-fields : goal.decreases-loop-fields
decreases-loop-fields l = length (items_told l.rest)
