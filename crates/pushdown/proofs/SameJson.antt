-- Values that are the same have one JSON, where one of them is plain; and a scalar has itself inside.
use Rattle.std.proofs.Common.{◌≡◌, ℕ, pos, Bool, true, false, List, length, map, refl, sym, ap, ◌∙◌}
use Rattle.std.specs.declared.cmp.Ordering.{Ordering}
use Rattle.std.specs.declared.cmp.Ordering.TheVariants.{Less, Equal, Greater}
use Rattle.std.specs.Ordering.{nat_cmp, bool_cmp, ordering_then}
use Rattle.std.specs.List.{list_any}
use Rattle.std.specs.Cmp.{signed_Decides, booleans_Decides, Equal-is}
use Rattle.std.proofs.lemmas.Slice.Eq.{bytes_eq-Decides}
use Rattle.std.proofs.lemmas.Map.Lookups.{exact_unsigned, exact_signed, exact_bytes}
use Rattle.bson_order.specs.Order.{rank_of, binary_cmp, layer_cmp, compared, is_same, Same}
use Rattle.bson_values.specs.declared.pairs.Pair.{Pair}
use Rattle.bson_values.specs.declared.value.Binary.{Binary}
use Rattle.bson_values.specs.declared.value.Value.{Value, map-Value}
use Rattle.bson_values.specs.declared.value.Value.TheFolds.{fold_out-Value}
use Rattle.bson_values.specs.declared.value.Value.TheOpen.{Value-F}
use Rattle.bson_values.specs.declared.value.Value.TheViews.{out-Value}
use Rattle.pushdown.proofs.Levels.{inside_is, inside_layer}
use Rattle.jsonb_contain.specs.Containment.{same_scalar, inside}
use Rattle.jsonb_contain.specs.declared.value.Json.{Json, out-Json}
use Rattle.jsonb_contain.specs.declared.value.Json.TheOpen.{Json-F}
use Rattle.jsonb_contain.specs.declared.value.Json.TheVariants as json
use Rattle.typed_json.specs.Plain.{base64_text, hex_text, plain_in, plain_of, plains}
use Rattle.pushdown.specs.Pushed.{is_plain_in, is_plain}
use Rattle.pushdown.proofs.Lists.{any_made}

-- ---- the JSON of a value

abbrev with_json : Value-F Value → Value-F Json
with_json layer = map-Value Value Json plain_of layer

json_is : (it : Value) → plain_of it ≡ plain_in (with_json (out-Value it))
json_is = fold_out-Value Json plain_in

-- that of a plain value
abbrev scalar : Value-F Value → Json-F Json
scalar (Value-F.Str text) = Json-F.Text text
scalar (Value-F.Bin it) = Json-F.Text (base64_text it.bytes)
scalar (Value-F.Id id) = Json-F.Text (hex_text id)
scalar (Value-F.Bool truth) = Json-F.Bool truth
scalar (Value-F.Date moment) = Json-F.Whole moment
scalar (Value-F.Int number) = Json-F.Whole number
scalar (Value-F.Stamp stamp) = Json-F.Whole (pos stamp)
scalar (Value-F.Long number) = Json-F.Whole number
scalar layer = Json-F.Null

out_plain : (layer : Value-F Value) → is_plain_in layer ≡ true → out-Json (plain_in (with_json layer)) ≡ scalar layer
out_plain (Value-F.Str text) plain = json.outs-Text text
out_plain (Value-F.Bin it) plain = json.outs-Text (base64_text it.bytes)
out_plain (Value-F.Id id) plain = json.outs-Text (hex_text id)
out_plain (Value-F.Bool truth) plain = json.outs-Bool truth
out_plain (Value-F.Date moment) plain = json.outs-Whole moment
out_plain (Value-F.Int number) plain = json.outs-Whole number
out_plain (Value-F.Stamp stamp) plain = json.outs-Whole (pos stamp)
out_plain (Value-F.Long number) plain = json.outs-Whole number
out_plain layer plain = absurd cc

out_scalar : (it : Value) → is_plain it ≡ true → out-Json (plain_of it) ≡ scalar (out-Value it)
out_scalar it plain = ap out-Json (json_is it) ∙ out_plain (out-Value it) plain

-- that of an array and of a document
pub out_items : (it : Value) (items : List Value) → out-Value it ≡ Value-F.Arr items
    → out-Json (plain_of it) ≡ Json-F.Array (map plain_of items)
out_items it items is =
    ap out-Json (json_is it ∙ ap (λ (layer : Value-F Value). plain_in (with_json layer)) is) ∙ json.outs-Array (map plain_of items)

pub out_fields : (it : Value) (pairs : List (Pair Value)) → out-Value it ≡ Value-F.Doc pairs
    → out-Json (plain_of it) ≡ Json-F.Object (plains pairs)
out_fields it pairs is =
    ap out-Json (json_is it ∙ ap (λ (layer : Value-F Value). plain_in (with_json layer)) is) ∙ json.outs-Object (plains pairs)

-- ---- the same

second_tied : (first second : Ordering) → ordering_then first second ≡ Equal → second ≡ Equal
second_tied Less second tied = absurd cc
second_tied Equal second tied = tied
second_tied Greater second tied = absurd cc

exact_truths : (one other : Bool) → bool_cmp one other ≡ Equal → one ≡ other
exact_truths false false tied = refl
exact_truths false true tied = absurd cc
exact_truths true false tied = absurd cc
exact_truths true true tied = refl

exact_binaries : (one other : Binary) → binary_cmp one other ≡ Equal → one.bytes ≡ other.bytes
exact_binaries one other tied =
    let rest = second_tied (nat_cmp (length one.bytes) (length other.bytes)) _ tied in
    exact_bytes one.bytes other.bytes (second_tied (nat_cmp one.subtype other.subtype) _ rest)

-- layers that compare as equal have one JSON
same_layers : (other one : Value-F Value) → layer_cmp rank_of compared one other ≡ Equal → is_plain_in other ≡ true
    → plain_in (with_json one) ≡ plain_in (with_json other)
same_layers (Value-F.Int other) (Value-F.Int number) tied plain = ap json.Whole (exact_signed number other tied)
same_layers (Value-F.Long other) (Value-F.Int number) tied plain = ap json.Whole (exact_signed number other tied)
same_layers (Value-F.Int other) (Value-F.Long number) tied plain = ap json.Whole (exact_signed number other tied)
same_layers (Value-F.Long other) (Value-F.Long number) tied plain = ap json.Whole (exact_signed number other tied)
same_layers (Value-F.Str other) (Value-F.Str text) tied plain = ap json.Text (exact_bytes text other tied)
same_layers (Value-F.Bin other) (Value-F.Bin it) tied plain =
    ap (λ (bytes : List ℕ). json.Text (base64_text bytes)) (exact_binaries it other tied)
same_layers (Value-F.Id other) (Value-F.Id id) tied plain = ap (λ (bytes : List ℕ). json.Text (hex_text bytes)) (exact_bytes id other tied)
same_layers (Value-F.Bool other) (Value-F.Bool truth) tied plain = ap json.Bool (exact_truths truth other tied)
same_layers (Value-F.Date other) (Value-F.Date moment) tied plain = ap json.Whole (exact_signed moment other tied)
same_layers (Value-F.Stamp other) (Value-F.Stamp stamp) tied plain = ap (λ (n : ℕ). json.Whole (pos n)) (exact_unsigned stamp other tied)
same_layers other one tied plain = absurd cc

-- as `bson_order` says of its order
abbrev pub ByLayers : Type 0
ByLayers = (one other : Value) → compared one other ≡ layer_cmp rank_of compared (out-Value one) (out-Value other)

pub same_from : (one other : Value) → is_same one other ≡ true → Same one other
unfolding is_same
same_from one other same = (Equal-is (compared one other)).0 same

same_json : ByLayers → (one other : Value) → is_same one other ≡ true → is_plain other ≡ true → plain_of one ≡ plain_of other
same_json layered one other same plain =
    json_is one ∙ same_layers (out-Value other) (out-Value one) (sym (layered one other) ∙ same_from one other same) plain
    ∙ sym (json_is other)

-- ---- a scalar is inside itself

scalar_itself : (layer : Value-F Value) → is_plain_in layer ≡ true → same_scalar (scalar layer) (scalar layer) ≡ true
scalar_itself (Value-F.Str text) plain = (bytes_eq-Decides text text).1 refl
scalar_itself (Value-F.Bin it) plain = (bytes_eq-Decides (base64_text it.bytes) (base64_text it.bytes)).1 refl
scalar_itself (Value-F.Id id) plain = (bytes_eq-Decides (hex_text id) (hex_text id)).1 refl
scalar_itself (Value-F.Bool truth) plain = (booleans_Decides truth truth).1 refl
scalar_itself (Value-F.Date moment) plain = (signed_Decides moment moment).1 refl
scalar_itself (Value-F.Int number) plain = (signed_Decides number number).1 refl
scalar_itself (Value-F.Stamp stamp) plain = (signed_Decides (pos stamp) (pos stamp)).1 refl
scalar_itself (Value-F.Long number) plain = (signed_Decides number number).1 refl
scalar_itself layer plain = absurd cc

-- of scalars, inside is equal
scalar_layer : (layer : Value-F Value) → is_plain_in layer ≡ true
    → inside_layer (scalar layer) (scalar layer) ≡ same_scalar (scalar layer) (scalar layer)
scalar_layer (Value-F.Doc pairs) plain = absurd cc
scalar_layer (Value-F.Arr items) plain = absurd cc
scalar_layer layer plain = refl

inside_itself : (it : Value) → is_plain it ≡ true → inside (plain_of it) (plain_of it) ≡ true
inside_itself it plain =
    inside_is (plain_of it) (plain_of it) ∙ ap (λ (layer : Json-F Json). inside_layer layer layer) (out_scalar it plain)
    ∙ scalar_layer (out-Value it) plain ∙ scalar_itself (out-Value it) plain

-- a value that is the same has it inside
pub inside_same : ByLayers → (one wanted : Value) → is_same one wanted ≡ true → is_plain wanted ≡ true
    → inside (plain_of one) (plain_of wanted) ≡ true
inside_same layered one wanted same plain =
    ap (λ (all : Json). inside all (plain_of wanted)) (same_json layered one wanted same plain) ∙ inside_itself wanted plain

equal_itself : (wanted : Value) → is_plain wanted ≡ true → same_scalar (out-Json (plain_of wanted)) (out-Json (plain_of wanted)) ≡ true
equal_itself wanted plain =
    ap (λ (layer : Json-F Json). same_scalar layer layer) (out_scalar wanted plain) ∙ scalar_itself (out-Value wanted) plain

-- where an element is the same, an element's JSON is equal
pub element_same : ByLayers → (items : List Value) (wanted : Value) → list_any (λ item. is_same item wanted) items ≡ true
    → is_plain wanted ≡ true
    → list_any (λ item. same_scalar (out-Json item) (out-Json (plain_of wanted))) (map plain_of items) ≡ true
element_same layered items wanted some plain =
    any_made (λ (item : Value). is_same item wanted) (λ (item : Json). same_scalar (out-Json item) (out-Json (plain_of wanted))) plain_of
    (λ (item : Value) (same : is_same item wanted ≡ true).
    ap (λ (it : Json). same_scalar (out-Json it) (out-Json (plain_of wanted))) (same_json layered item wanted same plain)
    ∙ equal_itself wanted plain)
    items some
