use Rattle.std.proofs.Common.{◌≤◌, subst, sym}
use Rattle.std.proofs.Math.Nat.{le-max_right}
use Rattle.cursor_core.proofs.Finds.{falls-later}
use Rattle.cursor_core.proofs.live.LiveCursors.awake.Goals as goal

pub drop_idle-requires : goal.drop_idle-requires
drop_idle-requires c =
    falls-later c.args.self.now.latest c.max-self.result c.args.self.now.held
    (subst (λ n. c.args.self.now.latest ≤ n) (sym c.max-self.ensures) (le-max_right c.args.now c.args.self.now.latest)) c.requires.falls
