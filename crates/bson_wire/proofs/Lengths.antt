-- How many bytes a value holds, for who builds one.
use Rattle.std.proofs.Common.{◌≡◌, ℕ, ℤ, ◌+◌, List, length, ap, ◌∙◌}
use Rattle.bson_values.specs.declared.pairs.Pair.{Pair}
use Rattle.bson_values.specs.declared.value.Value.{Value}
use Rattle.bson_values.specs.declared.value.Value.TheViews.{out-Value}
use Rattle.bson_values.specs.declared.value.Value.TheVariants as value
use Rattle.bson_values.specs.declared.value.Value.TheOpen.{Value-F}
use Rattle.bson_spelling.specs.declared.form.Form.TheVariants.{Bson}
use Rattle.bson_spelling.specs.Spelling.{held, spell}
use Rattle.bson_spelling.proofs.Helds.{held_layer, held_by}
use Rattle.bson_spelling.proofs.Sizes.{length-string}

-- the length of what is held, by the layer
by_layer : (it : Value) (layer : Value-F Value) → out-Value it ≡ layer → length (held Bson it).1 ≡ length (held_layer Bson layer).1
by_layer it layer is = ap (λ (h : ℕ × List ℕ). length h.1) (held_by Bson it layer is)

pub size-Str : (text : List ℕ) → length (held Bson (value.Str text)).1 ≡ length text + 5
size-Str text = by_layer (value.Str text) (Value-F.Str text) (value.outs-Str text) ∙ length-string Bson text

pub size-Doc : (doc : List (Pair Value)) → length (held Bson (value.Doc doc)).1 ≡ length (spell doc)
size-Doc doc = by_layer (value.Doc doc) (Value-F.Doc doc) (value.outs-Doc doc)

pub size-Int : (number : ℤ) → length (held Bson (value.Int number)).1 ≡ 4
size-Int number = by_layer (value.Int number) (Value-F.Int number) (value.outs-Int number)

pub size-Long : (number : ℤ) → length (held Bson (value.Long number)).1 ≡ 8
size-Long number = by_layer (value.Long number) (Value-F.Long number) (value.outs-Long number)
