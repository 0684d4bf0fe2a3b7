-- What a refusal tells of the words.
use Rattle.std.proofs.Common.{◌≡◌, ⊎_elim, Bool, true, false, true≢false, ap, refl, sym, ◌∙◌, [], ◌∷◌}
use Rattle.clap.specs.Kinds.{HasKind, Kinds}
use Rattle.clap.specs.Values.{kind_of}
use Rattle.clap.specs.declared.error.Error.{Error}
use Rattle.clap.specs.declared.error.kind.ErrorKind.TheVariants.{OutOfMemory}
use Rattle.cli_words.specs.declared.words.WordsRefused.{WordsRefused}
use Rattle.cli_words.specs.declared.words.WordsRefused.TheVariants.{BadWords, NoMemory}
use Rattle.cli_words.specs.Commands.{are_none}

abbrev is_memory : WordsRefused → Bool
is_memory NoMemory = true
is_memory BadWords = false

-- what was refused for another cause than memory has a cause
pub has_cause : (kinds : Kinds) (error : Error) (why : WordsRefused) → HasKind kinds error → (kind_of error ≡ OutOfMemory → why ≡ NoMemory)
    → why ≡ BadWords → are_none kinds ≡ false
has_cause [] error why has memory bad = ⊎_elim (λ it. absurd (true≢false (ap is_memory (sym (memory it) ∙ bad)))) (λ none. absurd none) has
has_cause (kind ∷ kinds) error why has memory bad = refl
