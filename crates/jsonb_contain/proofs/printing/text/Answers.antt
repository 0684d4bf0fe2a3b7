use Rattle.std.proofs.Common.{◌∙◌, ap, string_bytes}
use Rattle.std.proofs.lemmas.Result.{IfOk-weaker}
use Rattle.serde_json.proofs.FreeTexts.{text_of_value}
use Rattle.jsonb_contain.specs.Texts.{data_of, read_json}
use Rattle.jsonb_contain.proofs.Again.{read_again}
use Rattle.jsonb_contain.proofs.Events.{has_no_float}
use Rattle.jsonb_contain.proofs.printing.text.Goals as goal

pub returns-in-Ok-clause-text : goal.returns-in-Ok-clause-text
returns-in-Ok-clause-text c =
    let json = c.args.json.now in
    let sent = c.in-Ok.ensures.events in
    let is = text_of_value (data_of json) sent.0 (string_bytes c.in-Ok.text) sent.1.0 sent.2 (has_no_float json) in
    IfOk-weaker c.from_string.result _ _ (λ it same. same ∙ is) c.from_string.ensures

pub returns-in-Ok-clause-read_again : goal.returns-in-Ok-clause-read_again
returns-in-Ok-clause-read_again c =
    let json = c.args.json.now in
    let sent = c.in-Ok.ensures.events in
    let is = text_of_value (data_of json) sent.0 (string_bytes c.in-Ok.text) sent.1.0 sent.2 (has_no_float json) in
    IfOk-weaker c.from_string.result _ _ (λ it same fitting shallow.
    ap read_json (same ∙ is) ∙ read_again json sent.1.1 fitting shallow) c.from_string.ensures
