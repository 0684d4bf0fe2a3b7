use Rattle.std.proofs.Common.{◌≡◌, ◌∙◌, sym, ap, true, rules}
use Rattle.jsonb_contain.specs.declared.value.Json.TheVariants as json
use Rattle.typed_json.specs.Plain.{base64_text}
use Rattle.typed_json.specs.Typed.{are_bytes}
use Rattle.typed_json.proofs.Distinct.{and_true}
use Rattle.typed_json.proofs.Shows.{plain_Bin, typed_Bin}
use Rattle.typed_json.proofs.plain_json.plain_binary.Goals as goal

pub returns-clause-value : goal.returns-clause-value
returns-clause-value c =
    let text : c.in_ok-base64_text.field-0 ≡ base64_text c.args.binary.now.bytes = search rules in
    ap json.Text text ∙ sym (plain_Bin _)

pub returns-clause-typed : goal.returns-clause-typed
returns-clause-typed c =
    let bytes : are_bytes c.args.binary.now.bytes ≡ true = search rules in
    typed_Bin _ ∙ and_true _ _ c.subtype_fits.ensures bytes
