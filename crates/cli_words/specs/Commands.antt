-- What the words of the command line ask for.
use Rattle.std.specs.Prelude.{◌≡◌, ◌&&◌, ℕ, Bool, true, false, if◌then◌else◌, List, [], ◌∷◌, codes, find}
use Rattle.std.specs.Prelude.{Option, Some, None, option_and_then}
use Rattle.std.specs.Str.{bytes_eq}
use Rattle.clap.specs.Walk.{Rule, first_of}
use Rattle.clap.specs.Simple.{App, matches_of, new_shape}
use Rattle.clap.specs.Kinds.{Kinds}
use Rattle.clap.specs.Faults.{fault_of}
use Rattle.cli_words.specs.declared.words.Words.{Words}
use Rattle.cli_words.specs.declared.words.Words.TheVariants.{Pipe}

-- a command: its name, what it takes behind it, and what it asks for by the values of that, of which each may be absent
pub record Form : Type 0 where
  pub name : List ℕ
  pub takes : List Rule
  pub asks : (List ℕ → Option (List ℕ)) → Option Words

abbrev pub pipe : Form
pipe = record { name = codes "pipe"; takes = []; asks = λ value. Some (Pipe None) }

abbrev pub commands : List Form
commands = pipe ∷ []

-- the command as `clap` knows it, which adds no `--help`
abbrev pub app_of_form : Form → App
app_of_form form = record { top = record (new_shape form.name) { rules = form.takes; disable_help_flag = true }; subs = [] }

abbrev pub are_none : Kinds → Bool
are_none [] = true
are_none _ = false

-- `clap` refuses the words for no cause but want of memory; the first of them is the command's name
abbrev pub is_taken : App → List (List ℕ) → Bool
is_taken app words = are_none (fault_of app words)

abbrev pub asked_of : Form → List (List ℕ) → Option Words
asked_of form words =
    if is_taken (app_of_form form) words then form.asks (λ name. first_of name (matches_of (app_of_form form) words)) else None

-- the command that the first word names
abbrev pub form_of : List (List ℕ) → Option Form
form_of [] = None
form_of (name ∷ words) = find (λ form. bytes_eq name form.name) commands

-- what the words ask for; none: they are bad
abbrev pub words_of : List (List ℕ) → Option Words
words_of words = option_and_then (λ form. asked_of form words) (form_of words)

-- nothing, or `--` alone, which ends the options
abbrev pub is_end : List (List ℕ) → Bool
is_end [] = true
is_end (word ∷ []) = bytes_eq word (codes "--")
is_end _ = false

abbrev pub is_pipe : List (List ℕ) → Bool
is_pipe [] = false
is_pipe (name ∷ words) = bytes_eq name (codes "pipe") && is_end words

-- those words ask for the pipe, without a store, and no others ask for anything
abbrev pub PipeIsAll : Type 0
PipeIsAll = (words : List (List ℕ)) → words_of words ≡ (if is_pipe words then Some (Pipe None) else None)
