use Rattle.cursor_core.specs.Sound.{SoundCursor}
use Rattle.cursor_core.proofs.Finds.{none-above}
use Rattle.cursor_core.proofs.live.LiveCursors.start.Goals as goal

pub add-requires : goal.add-requires
add-requires c =
    none-above (SoundCursor c.args.self.now.next) c.args.self.now.next c.args.self.now.held (λ cursor is. (is.id).1) c.requires.each
