-- Sound edits, one more.
use Rattle.std.proofs.Common.{List, [], ◌∷◌, ◌++◌}
use Rattle.table_words.specs.declared.call.Edit.{Edit}
use Rattle.table_words.specs.declared.call.Edit.TheVariants.{Replace, Remove}
use Rattle.table_words.specs.Sound.{SoundEdits}

pub sound_added : (es : List Edit) (e : Edit) → SoundEdits es → SoundEdits (e ∷ []) → SoundEdits (es ++ e ∷ [])
sound_added [] e sound one = one
sound_added (Replace row ∷ es) e sound one = (sound.0, sound_added es e sound.1 one)
sound_added (Remove key ∷ es) e sound one = sound_added es e sound one
