use Rattle.std.proofs.Common.{◌∙◌, ap, sym}
use Rattle.std.specs.List.{list_any}
use Rattle.std_words.proofs.Parts.{any-mapped}
use Rattle.command_words.specs.Refusal.{is_lacking}
use Rattle.command_words.specs.Told.{told}
use Rattle.command_words.proofs.fields.lacks.Goals as goal

pub returns : goal.returns
returns c =
    c.lacks_among.ensures ∙ sym (any-mapped (is_lacking c.args.message.now) told c.fields_of.result.now)
    ∙ ap (list_any (is_lacking c.args.message.now)) c.fields_of.ensures
