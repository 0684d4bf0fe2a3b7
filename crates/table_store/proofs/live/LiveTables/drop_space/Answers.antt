use Rattle.std.proofs.Common.{ap, ◌∙◌}
use Rattle.table_store.specs.Found.{all_shown}
use Rattle.table_store.proofs.Calls.{told-kept}
use Rattle.table_store.proofs.Drops.{drop-ran, drop-tells, drop-refused, found-both}
use Rattle.table_store.proofs.live.LiveTables.drop_space.Goals as goal

pub unreachable-requires : goal.unreachable-requires
unreachable-requires g c = found-both c.args.self.now.live.items _ _ _ c.requires.ready.sound
    (rw c.deref.ensures.value at c.in-Some.ensures) (rw c.deref-2.ensures.value at c.in_default-place_of.ensures)

pub returns-in-Ok-clause-ran : goal.returns-in-Ok-clause-ran
returns-in-Ok-clause-ran g c =
    let at = rw c.deref-2.ensures.value at c.in-Some-place_of.ensures in
    drop-ran c.args.self.now.live.items _ _ _ _ _ _ (rw c.deref.ensures.value at c.in-Some.ensures)
    (ap all_shown c.leave_out.ensures ∙ at.out) c.in-Ok.ensures.cause.kept

pub returns-in-Ok-clause-told : goal.returns-in-Ok-clause-told
returns-in-Ok-clause-told g c =
    let at = rw c.deref-2.ensures.value at c.in-Some-place_of.ensures in
    drop-tells c.args.self.now.live.items _ _ _ _ _ _ (ap all_shown c.leave_out.ensures ∙ at.out) c.in-Ok.ensures.told
    c.requires.ready.tells
