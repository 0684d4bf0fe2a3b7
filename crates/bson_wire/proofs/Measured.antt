-- The size of a value is the length of what spells it.
use Rattle.std.proofs.Common.{◌≡◌, ℕ, ◌+◌, List, [], ◌∷◌, length, map, refl, sym, ap, subst, ◌∙◌, arith}
use Rattle.std.specs.Fmt.{decimal}
use Rattle.std.specs.List.{flat_map}
use Rattle.std.proofs.lemmas.List.{length-append}
use Rattle.std.proofs.lemmas.List.Concat.{flat_map-cons}
use Rattle.bson_values.specs.Measures.{fields_size, items_size, size_in, value_size, size}
use Rattle.bson_values.specs.declared.pairs.Pair.{Pair}
use Rattle.bson_values.specs.declared.value.Value.{Value, map-Value}
use Rattle.bson_values.specs.declared.value.Value.TheVariants as value
use Rattle.bson_values.specs.declared.value.Value.TheOpen.{Value-F}
use Rattle.bson_values.specs.declared.value.Value.TheFolds.{fold-roll-Value, ind-Value}
use Rattle.bson_spelling.specs.declared.form.Form.TheVariants.{Bson}
use Rattle.bson_spelling.specs.Spelling.{element_of, items_from, held_in, held, enclosed, spell}
use Rattle.bson_spelling.proofs.Helds.{Spelled, along, joined, held_by, doc-held}
use Rattle.bson_spelling.proofs.Sizes.{length-string, length-binary, length-enclosed, length-element_of, length-regex}

-- the size of a value is the length of what it holds
abbrev IsMeasured : Value → Type 0
IsMeasured it = value_size it ≡ length (held Bson it).1

abbrev Known : Type 0
Known = (it : Value) × IsMeasured it

abbrev value_of : Known → Value
value_of known = known.0

abbrev pair_of : Pair Known → Pair Value
pair_of pair = record { name = pair.name; value = pair.value.0 }

abbrev sized : Pair Value → Pair ℕ
sized pair = record { name = pair.name; value = value_size pair.value }

fields_measured : (pairs : List (Pair Known)) → fields_size (map sized (map pair_of pairs))
    ≡ length (flat_map joined (map (along Bson) (map pair_of pairs)))
fields_measured [] = refl
fields_measured (pair ∷ pairs) =
    let first = along Bson (pair_of pair) in
    let rest = map (along Bson) (map pair_of pairs) in
    omega (
      arith,
      pair.value.1,
      fields_measured pairs,
      ap length (flat_map-cons joined first rest),
      length-append (joined first) (flat_map joined rest),
      length-element_of pair.name (held Bson pair.value.0),
    )

items_measured : (place : ℕ) (items : List Known) → items_size place (map value_size (map value_of items))
    ≡ length (items_from place (map (held Bson) (map value_of items)))
items_measured place [] = refl
items_measured place (item ∷ items) =
    let rest = items_from (place + 1) (map (held Bson) (map value_of items)) in
    omega (
      arith,
      item.1,
      items_measured (place + 1) items,
      length-append (element_of (decimal place) (held Bson item.0)) rest,
      length-element_of (decimal place) (held Bson item.0),
    )

-- ---- layer by layer

-- what is to be shown of a layer
abbrev Agree : Value-F Value → Type 0
Agree layer = size_in (map-Value Value ℕ value_size layer) ≡ length (held_in Bson (map-Value Value Spelled (held Bson) layer)).1

layer_measured : (layer : Value-F Known) → Agree (map-Value Known Value value_of layer)
layer_measured (Value-F.Str text) = sym (length-string Bson text)
layer_measured (Value-F.Doc pairs) = ap (λ (n : ℕ). n + 5) (fields_measured pairs)
    ∙ sym (length-enclosed Bson (flat_map joined (map (along Bson) (map pair_of pairs))))
layer_measured (Value-F.Arr items) = ap (λ (n : ℕ). n + 5) (items_measured 0 items)
    ∙ sym (length-enclosed Bson (items_from 0 (map (held Bson) (map value_of items))))
layer_measured (Value-F.Bin it) = sym (length-binary Bson it.subtype it.bytes)
layer_measured (Value-F.Regex regex) = sym (length-regex regex.pattern regex.options)
layer_measured layer = refl

pub value_measured : (it : Value) → IsMeasured it
value_measured = ind-Value IsMeasured (λ layer known is.
    fold-roll-Value ℕ size_in layer ∙ subst Agree is (layer_measured known)
    ∙ sym (ap (λ (h : Spelled). length h.1) (fold-roll-Value Spelled (held_in Bson) layer)))

-- of a document its spelling
pub measured : (doc : List (Pair Value)) → size doc ≡ length (spell doc)
measured doc = value_measured (value.Doc doc) ∙ ap length (doc-held Bson (value.Doc doc) doc refl)

-- of an array its elements, named by their places
pub array_measured : (items : List Value) → value_size (value.Arr items) ≡ length (enclosed Bson (items_from 0 (map (held Bson) items)))
array_measured items = value_measured (value.Arr items) ∙ ap (λ (h : Spelled). length h.1)
    (held_by Bson (value.Arr items) (Value-F.Arr items) (value.outs-Arr items))
