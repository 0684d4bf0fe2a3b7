use Rattle.std.proofs.Common.{refl, subst, sym}
use Rattle.cursor_core.specs.Held.{Cursors}
use Rattle.cursor_core.specs.Ran.{state_of}
use Rattle.cursor_core.specs.Sound.{Sound}
use Rattle.cursor_core.proofs.Goes.{sound-after}
use Rattle.cursor_core.proofs.cursors.CursorsObject.run.Goals as goal

pub invariant_of-self : goal.invariant_of-self
invariant_of-self c =
    subst (λ (s : Cursors). Sound s) (sym c.run.ensures.after)
    (sound-after (state_of c.self.inside.live) c.args.call c.run.result c.self.invariant c.requires)

pub returns-clause-allowed : goal.returns-clause-allowed
returns-clause-allowed c = rw (← c.self.view_is) (record { may = c.requires; replied = c.run.ensures.replied; faults = refl })

pub returns-clause-after : goal.returns-clause-after
returns-clause-after c = rw (← c.self.view_is) c.run.ensures.after
