-- The type byte and the bytes of a value, variant by variant.
use Rattle.std.proofs.Common.{◌≡◌, ℕ, List, [], ◌++◌, map, refl, ap, ◌∙◌}
use Rattle.std.specs.Int.{w64, cast_unsigned}
use Rattle.std.specs.List.{flat_map}
use Rattle.std.proofs.lemmas.List.Folds.{flat_map-map}
use Rattle.bson_values.specs.declared.pairs.Pair.{Pair}
use Rattle.bson_values.specs.declared.value.Value.{Value, map-Value}
use Rattle.bson_values.specs.declared.value.Value.TheViews.{out-Value}
use Rattle.bson_values.specs.declared.value.Value.TheVariants as value
use Rattle.bson_values.specs.declared.value.Value.TheOpen.{Value-F}
use Rattle.bson_values.specs.declared.value.Value.TheFolds.{fold_out-Value}
use Rattle.bson_spelling.specs.declared.form.Form.{Form}
use Rattle.bson_spelling.specs.Spelling.{int64, long, int, cstring, string, binary, bool, element_of, items_from, held_in, held, enclosed}
use Rattle.bson_spelling.specs.Spelling.{element}

-- what is held, where the values in it are values
abbrev pub held_layer : Form → Value-F Value → ℕ × List ℕ
held_layer form (Value-F.Str text) = (2, string form text)
held_layer form (Value-F.Doc pairs) = (3, enclosed form (flat_map (element form) pairs))
held_layer form (Value-F.Arr items) = (4, enclosed form (items_from 0 (map (held form) items)))
held_layer form (Value-F.Bin it) = (5, binary form it.subtype it.bytes)
held_layer form (Value-F.Id id) = (7, id)
held_layer form (Value-F.Bool truth) = (8, bool truth)
held_layer form (Value-F.Date moment) = (9, int64 (cast_unsigned w64 moment))
held_layer form Value-F.Null = (10, [])
held_layer form (Value-F.Regex regex) = (11, cstring regex.pattern ++ cstring regex.options)
held_layer form (Value-F.Int number) = int form number
held_layer form (Value-F.Stamp stamp) = (17, int64 stamp)
held_layer form (Value-F.Long number) = long number

-- a type byte and the bytes behind a name
abbrev pub Spelled : Type 0
Spelled = ℕ × List ℕ

-- a pair with what its value holds
abbrev pub along : Form → Pair Value → Pair Spelled
along form pair = record { name = pair.name; value = held form pair.value }

-- the element that they make
abbrev pub joined : Pair Spelled → List ℕ
joined pair = element_of pair.name pair.value

layer_is : (form : Form) (layer : Value-F Value) → held_in form (map-Value Value Spelled (held form) layer) ≡ held_layer form layer
layer_is form (Value-F.Doc pairs) = ap (λ (inside : List ℕ). (3, enclosed form inside)) (flat_map-map joined (along form) pairs)
layer_is form layer = refl

pub held_is : (form : Form) (it : Value) → held form it ≡ held_layer form (out-Value it)
held_is form it = fold_out-Value Spelled (held_in form) it ∙ layer_is form (out-Value it)

-- the same by the layer
pub held_by : (form : Form) (it : Value) (layer : Value-F Value) → out-Value it ≡ layer → held form it ≡ held_layer form layer
held_by form it layer is = held_is form it ∙ ap (λ (l : Value-F Value). held_layer form l) is

-- what a document holds
pub doc-held : (form : Form) (it : Value) (pairs : List (Pair Value)) → it ≡ value.Doc pairs
    → (held form it).1 ≡ enclosed form (flat_map (element form) pairs)
doc-held form it pairs is =
    ap (λ (v : Value). (held form v).1) is
    ∙ ap (λ (h : Spelled). h.1) (held_by form (value.Doc pairs) (Value-F.Doc pairs) (value.outs-Doc pairs))
