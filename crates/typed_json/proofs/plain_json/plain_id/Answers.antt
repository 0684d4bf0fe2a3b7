use Rattle.std.proofs.Common.{◌≡◌, ◌∙◌, sym, ap, true, rules}
use Rattle.std.proofs.lemmas.Bool.{eq-eqb}
use Rattle.jsonb_contain.specs.declared.value.Json.TheVariants as json
use Rattle.typed_json.specs.Plain.{hex_text}
use Rattle.typed_json.specs.Typed.{are_bytes}
use Rattle.typed_json.proofs.Distinct.{and_true}
use Rattle.typed_json.proofs.Shows.{plain_Id, typed_Id}
use Rattle.typed_json.proofs.plain_json.plain_id.Goals as goal

pub returns-clause-value : goal.returns-clause-value
returns-clause-value c =
    let text : c.in_ok-hex_text.field-0 ≡ hex_text c.args.id.now = search rules in
    ap json.Text text ∙ sym (plain_Id _)

pub returns-clause-typed : goal.returns-clause-typed
returns-clause-typed c =
    let bytes : are_bytes c.args.id.now ≡ true = search rules in
    typed_Id _ ∙ and_true _ _ (eq-eqb _ _ c.id_is_whole.ensures) bytes
