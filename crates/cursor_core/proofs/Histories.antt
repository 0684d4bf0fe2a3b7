-- From sound cursors every history leads to sound ones.
use Rattle.std.proofs.Common.{[], ◌∷◌}
use Rattle.cursor_core.specs.Step.{cursors_after}
use Rattle.cursor_core.specs.Batches.{SoundAfter}
use Rattle.cursor_core.proofs.Goes.{sound-after}

pub sound_after : SoundAfter
sound_after s faults [] sound lawful = sound
sound_after s faults (e ∷ es) sound lawful =
    sound_after (cursors_after s e.call e.reply) e.after es (sound-after s e.call e.reply sound (lawful.1).may) lawful.2
