use Rattle.std.proofs.Common.{◌≡◌, length}
use Rattle.jsonb_contain.proofs.Wholes.{ItemsLeft, MembersLeft}
use Rattle.jsonb_contain.proofs.reading.+whole.Given as goal

abbrev pub invariant-whole_items-loop-item : goal.invariant-whole_items-loop-item
invariant-whole_items-loop-item l =
    ItemsLeft l.fn.items.items l.list l.item-iterator.rest.items × (l.item-iterator.rest.len ≡ length l.item-iterator.rest.items)

abbrev pub invariant-whole_members-loop-name : goal.invariant-whole_members-loop-name
invariant-whole_members-loop-name l = MembersLeft l.fn.members.entries l.pairs l.name-iterator
