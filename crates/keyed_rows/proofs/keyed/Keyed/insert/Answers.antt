use Rattle.std.proofs.Common.{ℕ, List, Some, None, ap, subst}
use Rattle.keyed_rows.proofs.Kept.{Turns, opened, closed, seen, added, kept, undone}
use Rattle.keyed_rows.proofs.keyed.Keyed.insert.Goals as goal

pub invariant_of-self-in-Ok-insert : goal.invariant_of-self-in-Ok-insert
invariant_of-self-in-Ok-insert g c =
    let keyed = opened c.self.invariant c.self.view_is in
    closed (added keyed c.insert.new.self c.add.new.index
    (record { place = c.args.place; key = c.args.key; value = c.args.value }) c.requires.absent c.requires.above
    c.in-Ok-insert.ensures.entries c.in-Ok.ensures.ok)

pub returns-in-Ok-insert-clause-ok : goal.returns-in-Ok-insert-clause-ok
returns-in-Ok-insert-clause-ok g c =
    let keyed = opened c.self.invariant c.self.view_is in
    seen (added keyed c.insert.new.self c.add.new.index
    (record { place = c.args.place; key = c.args.key; value = c.args.value }) c.requires.absent c.requires.above
    c.in-Ok-insert.ensures.entries c.in-Ok.ensures.ok)

pub invariant_of-self-in-Err : goal.invariant_of-self-in-Err
invariant_of-self-in-Err g c =
    let keyed = opened c.self.invariant c.self.view_is in
    let forgets = subst (λ (key : List ℕ). Turns key None c.add.new.index c.forget.new.index)
    (ap (λ back. back.1.key) c.in-Err.ensures.value_returned) c.forget.ensures.others in
    closed (kept keyed c.insert.new.self c.forget.new.index c.in-Err.ensures.err
    (undone keyed c.args.key (Some c.args.place) c.add.new.index c.forget.new.index
    c.requires.absent c.in-Ok.ensures.ok forgets))
