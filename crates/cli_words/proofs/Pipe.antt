-- What `clap` takes behind `pipe`: no option and no positional, so `--` alone.
use Rattle.std.proofs.Common.{◌≡◌, ◌∙◌, ◌&&◌, ℕ, Bool, true, false, true≢false, refl, sym, ap, codes, length}
use Rattle.std.proofs.Common.{List, [], ◌∷◌, Option, Some, None}
use Rattle.std.specs.Prelude.{slice_get, option_and_then, if◌then◌else◌}
use Rattle.std.specs.Option.{option_map_or}
use Rattle.std.specs.Str.{bytes_eq, chars}
use Rattle.clap.specs.Lexer.{long_of, short_of}
use Rattle.clap.specs.Kinds.{Kinds, or_else}
use Rattle.clap.specs.Walk.{Held, Outcome, Text, after_flag, bundle_met, bundle_step, idle, long_or_other, nothing_held, plain}
use Rattle.clap.specs.Walk.{short_or_plain, walk_from, walked}
use Rattle.clap.specs.Simple.{Shape, built}
use Rattle.clap.specs.Faults.{bundle_fault, bundle_step_fault, defaults_fault, flag_word_fault, flags_fault, step_fault}
use Rattle.clap.specs.Faults.{turn_fault, walk_fault}
use Rattle.cli_words.specs.declared.words.Words.TheVariants.{Pipe}
use Rattle.cli_words.specs.Commands.{PipeIsAll, app_of_form, are_none, asked_of, is_end, is_taken, pipe}

-- `pipe` as `clap` builds it
abbrev shape : Shape
shape = (built (app_of_form pipe)).top

-- what fails once stays
failed : (one other : Kinds) → are_none one ≡ false → are_none (or_else one other) ≡ false
failed [] other fails = absurd (true≢false fails)
failed (kind ∷ kinds) other fails = refl

-- no character names an option, and behind a word without one there is no positional
by_character : (found : Option ℕ) (flags word : Text) (next : Text → ℕ → Held → Kinds) (goes : Text → ℕ → Outcome → Held → Held × Outcome)
    → let met = bundle_step [] found flags 0 plain nothing_held goes in
    let step = after_flag [] idle word met.0 met.1 in
    are_none (or_else (bundle_step_fault [] false found flags 0 nothing_held next) (step_fault shape 1 step.0 step.1)) ≡ false
by_character (Some character) flags word next goes = refl
by_character None flags word next goes = refl

by_short : (flags : Option Text) (word : Text) → let step = short_or_plain [] idle word flags nothing_held in
    are_none (or_else (option_map_or (λ it. bundle_fault [] false it nothing_held) flags []) (step_fault shape 1 step.0 step.1)) ≡ false
unfolding flags_fault bundle_met
by_short None word = refl
by_short (Some []) word = refl
by_short (Some (x ∷ xs)) word =
    by_character (slice_get (chars (x ∷ xs)) 0) (x ∷ xs) word (flags_fault [] false (length xs)) (bundle_met [] (length xs))

by_long : (found : Option (Text × Option Text)) (word : Text) → let step = long_or_other [] idle word found nothing_held in
    are_none (or_else (flag_word_fault [] false found word nothing_held) (step_fault shape 1 step.0 step.1)) ≡ false
by_long (Some it) word = refl
by_long None word = by_short (short_of word) word

-- a word that is not `--`
refused_word : (word : Text) → bytes_eq word (codes "--") ≡ false → are_none (turn_fault shape [] (walk_from nothing_held) word) ≡ false
refused_word word other = rw other (by_long (long_of word) word)

is_ended : (word : Text) (words : List Text) → bytes_eq word (codes "--") ≡ false → is_end (word ∷ words) ≡ false
is_ended word [] other = other
is_ended word (next ∷ words) other = refl

-- behind `--` any word is one too many
with_end : (name word : Text) (words : List Text) → bytes_eq word (codes "--") ≡ true
    → is_taken (app_of_form pipe) (name ∷ word ∷ words) ≡ is_end (word ∷ words)
unfolding walk_fault walked defaults_fault
with_end name word [] end = rw end refl
with_end name word (next ∷ words) end = rw end refl

without_end : (name word : Text) (words : List Text) → bytes_eq word (codes "--") ≡ false
    → is_taken (app_of_form pipe) (name ∷ word ∷ words) ≡ is_end (word ∷ words)
unfolding walk_fault
without_end name word words other =
    failed (walk_fault shape [] (walk_from nothing_held) (word ∷ words)) _ (failed (turn_fault shape [] (walk_from nothing_held) word) _
    (refused_word word other)) ∙ sym (is_ended word words other)

taken : (name : Text) (words : List Text) → is_taken (app_of_form pipe) (name ∷ words) ≡ is_end words
unfolding walk_fault defaults_fault
taken name [] = refl
taken name (word ∷ words) = go (bytes_eq word (codes "--")) refl
  where
    go : (b : Bool) → bytes_eq word (codes "--") ≡ b → is_taken (app_of_form pipe) (name ∷ word ∷ words) ≡ is_end (word ∷ words)
    go true end = with_end name word words end
    go false other = without_end name word words other

pub pipe_is_all : PipeIsAll
pipe_is_all [] = refl
pipe_is_all (name ∷ words) = go (bytes_eq name (codes "pipe"))
  where
    go : (b : Bool) → option_and_then (λ form. asked_of form (name ∷ words)) (if b then Some pipe else None)
        ≡ (if b && is_end words then Some (Pipe None) else None)
    go true = ap (λ b. if b then Some (Pipe None) else None) (taken name words)
    go false = refl
