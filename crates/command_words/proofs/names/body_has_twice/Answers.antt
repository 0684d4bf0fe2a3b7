use Rattle.std.proofs.Common.{◌≡◌, ◌<◌, ◌∙◌, [], List, ℕ, Some, slice_get, length, get_or, ap, sym}
use Rattle.bson_values.specs.declared.pairs.Pair.{Pair}
use Rattle.bson_values.specs.declared.value.Value.{Value}
use Rattle.bson_values.specs.Names.{names}
use Rattle.command_words.proofs.Twice.{read_at, taken_twice, taken_once}
use Rattle.command_words.proofs.names.body_has_twice.Goals as goal

-- the name of the field at a place
at : (body fields : List (Pair Value)) (i : ℕ) (it : Pair Value) (text : List ℕ) → fields ≡ body → i < length fields
    → it ≡ get_or fields i it → text ≡ it.name
    → slice_get (names body) i ≡ Some text
at body fields i it text same within is reads =
    ap (λ pairs. slice_get (names pairs) i) (sym same) ∙ read_at (λ (one : Pair Value). one.name) fields i it text within is reads

pub returns-then-stands_before : goal.returns-then-stands_before
returns-then-stands_before c =
    taken_twice [] (names c.args.body.now) c.loop-place.place c.as_str.result.now
    (at _ _ _ c.field-item.result _ c.as_slice-field-items.ensures c.loop-place-test.true c.field-item.is c.as_str.ensures)
    (sym c.stands_before.ensures ∙ c.if-stands_before.true)

pub loop-place-preserved : goal.loop-place-preserved
loop-place-preserved c =
    taken_once [] (names c.args.body.now) c.loop-place.place c.as_str.result.now
    (at _ _ _ c.field-item.result _ c.as_slice-field-items.ensures c.loop-place-test.true c.field-item.is c.as_str.ensures)
    c.loop-place.invariant (sym c.stands_before.ensures ∙ c.if-stands_before.false)
