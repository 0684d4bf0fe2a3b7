use Rattle.std.proofs.Common.{◌≡◌, ◌∙◌, ap, subst, sym}
use Rattle.cursor_core.specs.declared.call.CursorCall.{CursorCall}
use Rattle.cursor_core.specs.Held.{Cursors}
use Rattle.cursor_core.specs.Ran.{Ran, state_of}
use Rattle.cursor_core.specs.Sound.{Sound}
use Rattle.cursor_core.specs.Step.{awake, meant, moment}
use Rattle.cursor_core.proofs.Goes.{sound-awake}
use Rattle.cursor_core.proofs.live.LiveCursors.run.Goals as goal

pub start-requires : goal.start-requires
start-requires c =
    subst (λ (s : Cursors). Sound s) (sym c.awake.ensures) (sound-awake c.moment.result (state_of c.args.self.now) c.requires)

pub returns-in-More : goal.returns-in-More
returns-in-More c =
    let up : state_of c.awake.new.self ≡ awake (moment c.args.asked) (state_of c.args.self.now) =
    c.awake.ensures ∙ ap (λ now. awake now (state_of c.args.self.now)) c.moment.ensures in
    subst (λ (s : Cursors). Ran (meant s c.args.asked) s (state_of c.more.new.self) c.more.result) up
    (subst (λ (call : CursorCall). Ran (meant (state_of c.awake.new.self) call) (state_of c.awake.new.self) (state_of c.more.new.self)
    c.more.result) (sym c.in-More.is) c.more.ensures)
