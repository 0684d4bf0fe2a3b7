use Rattle.std.proofs.Common.{sym, ap, ◌∙◌}
use Rattle.std.specs.List.{position}
use Rattle.std.specs.Str.{bytes_eq}
use Rattle.op_msg.specs.declared.message.Sequence.{Sequence}
use Rattle.command_words.proofs.Moved.{docs_of, passes_there, passes_nowhere}
use Rattle.command_words.proofs.documents.documents_beside.Goals as goal

pub returns-in-Some : goal.returns-in-Some
returns-in-Some c =
    let passes = (λ (it : Sequence). bytes_eq it.name c.args.name.now) in
    let found = c.in-Some.ensures.value ∙ ap (position passes) c.as_slice.ensures in
    let there = passes_there passes c.args.sequences c.in-Some.place found in
    ap docs_of (sym (there ∙ c.remove.ensures.value))

pub returns : goal.returns
returns c =
    let passes = (λ (it : Sequence). bytes_eq it.name c.args.name.now) in
    let found = c.in-None.ensures.value ∙ ap (position passes) c.as_slice.ensures in
    c.new.ensures ∙ ap docs_of (sym (passes_nowhere passes c.args.sequences found))
