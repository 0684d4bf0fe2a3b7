use Rattle.std.proofs.Common.{◌∙◌, ap, sym}
use Rattle.std.specs.List.{list_any}
use Rattle.std_words.proofs.Parts.{any-mapped}
use Rattle.command_words.specs.Refusal.{is_absent_in}
use Rattle.command_words.specs.Told.{told}
use Rattle.command_words.proofs.items.item_lacks.Goals as goal

pub returns : goal.returns
returns c =
    c.lacks_among.ensures ∙ sym (any-mapped (is_absent_in c.args.fields.now) told c.item_fields.result.now)
    ∙ ap (list_any (is_absent_in c.args.fields.now)) c.item_fields.ensures
