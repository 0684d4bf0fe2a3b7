-- What is told of a change goes into one message: what a value takes in BSON is no longer than in its key.
use Rattle.std.proofs.Common.{◌≡◌, ℕ, ◌+◌, ◌≤◌, Bool, List, [], ◌∷◌, ◌++◌, length, map, Option, None, Some, refl, ap, subst, arith}
use Rattle.std.specs.Fmt.{decimal}
use Rattle.std.specs.Int.{w32, w64, cast_unsigned}
use Rattle.std.specs.List.{flat_map}
use Rattle.std.proofs.lemmas.List.{length-append}
use Rattle.std.proofs.lemmas.List.Concat.{flat_map-cons}
use Rattle.std.proofs.lemmas.List.Elements.{All-append, All-cons, All-nil}
use Rattle.bson_values.specs.declared.pairs.Pair.{Pair}
use Rattle.bson_values.specs.declared.value.Value.{Value, map-Value}
use Rattle.bson_values.specs.declared.value.Value.TheOpen.{Value-F}
use Rattle.bson_values.specs.declared.value.Value.TheFolds.{fold-roll-Value, ind-Value}
use Rattle.bson_spelling.specs.declared.form.Form.{Form}
use Rattle.bson_spelling.specs.declared.form.Form.TheVariants.{Bson, Key}
use Rattle.bson_spelling.specs.Spelling.{int32, int64, element_of, items_from, held_in, held, key, spell}
use Rattle.bson_spelling.proofs.Helds.{Spelled, along, joined}
use Rattle.bson_spelling.proofs.Sizes.{length-string, length-binary, length-enclosed, length-element_of}
use Rattle.filter_syntax.specs.Meaning.{Doc}
use Rattle.op_msg.specs.Limits.{MOST_REPLY}
use Rattle.doc_effects.specs.Replies.{FitsId, FitsDoc}
use Rattle.reply_words.specs.declared.ends.ItemEnd.{ItemEnd}
use Rattle.reply_words.specs.Replies.{modified_document}
use Rattle.reply_words.specs.Small.{AreShort, HasShortId, IsShortId, IsShortDocument}
use Rattle.reply_words.proofs.Shown.{document_short, document_sent}

abbrev IsShorter : Value → Type 0
IsShorter it = length (held Bson it).1 ≤ length (held Key it).1

abbrev Known : Type 0
Known = (it : Value) × IsShorter it

abbrev value_of : Known → Value
value_of known = known.0

abbrev pair_of : Pair Known → Pair Value
pair_of pair = record { name = pair.name; value = pair.value.0 }

abbrev fields : Form → List (Pair Known) → List ℕ
fields form pairs = flat_map joined (map (along form) (map pair_of pairs))

field_length : (form : Form) (pair : Pair Known) (pairs : List (Pair Known)) → length (fields form (pair ∷ pairs))
    ≡ length pair.name + length (held form pair.value.0).1 + 2 + length (fields form pairs)
field_length form pair pairs =
    let first = along form (pair_of pair) in
    let rest = map (along form) (map pair_of pairs) in
    omega (
      arith,
      ap length (flat_map-cons joined first rest),
      length-append (joined first) (flat_map joined rest),
      length-element_of pair.name (held form pair.value.0),
    )

fields_shorter : (pairs : List (Pair Known)) → length (fields Bson pairs) ≤ length (fields Key pairs)
fields_shorter [] = omega arith
fields_shorter (pair ∷ pairs) =
    omega (arith, pair.value.1, fields_shorter pairs, field_length Bson pair pairs, field_length Key pair pairs)

abbrev items : Form → ℕ → List Known → List ℕ
items form place knowns = items_from place (map (held form) (map value_of knowns))

item_length : (form : Form) (place : ℕ) (item : Known) (others : List Known) → length (items form place (item ∷ others))
    ≡ length (decimal place) + length (held form item.0).1 + 2 + length (items form (place + 1) others)
item_length form place item others = omega (
  arith,
  length-append (element_of (decimal place) (held form item.0)) (items form (place + 1) others),
  length-element_of (decimal place) (held form item.0),
)

items_shorter : (place : ℕ) (knowns : List Known) → length (items Bson place knowns) ≤ length (items Key place knowns)
items_shorter place [] = omega arith
items_shorter place (item ∷ others) = omega
    (arith, item.1, items_shorter (place + 1) others, item_length Bson place item others, item_length Key place item others)

-- ---- layer by layer

abbrev layer_length : Form → Value-F Value → ℕ
layer_length form layer = length (held_in form (map-Value Value Spelled (held form) layer)).1

layer_shorter : (layer : Value-F Known)
    → layer_length Bson (map-Value Known Value value_of layer) ≤ layer_length Key (map-Value Known Value value_of layer)
layer_shorter (Value-F.Str text) = omega (arith, length-string Bson text, length-string Key text)
layer_shorter (Value-F.Doc pairs) =
    omega (arith, fields_shorter pairs, length-enclosed Bson (fields Bson pairs), length-enclosed Key (fields Key pairs))
layer_shorter (Value-F.Arr knowns) =
    omega (arith, items_shorter 0 knowns, length-enclosed Bson (items Bson 0 knowns), length-enclosed Key (items Key 0 knowns))
layer_shorter (Value-F.Bin it) = omega (arith, length-binary Bson it.subtype it.bytes, length-binary Key it.subtype it.bytes)
layer_shorter (Value-F.Id id) = omega arith
layer_shorter (Value-F.Bool truth) = omega arith
layer_shorter (Value-F.Date moment) = omega arith
layer_shorter Value-F.Null = omega arith
layer_shorter (Value-F.Regex regex) = omega arith
layer_shorter (Value-F.Int number) =
    let narrow : length (int32 (cast_unsigned w32 number)) ≡ 4 = refl in
    let wide : length (int64 (cast_unsigned w64 number)) ≡ 8 = refl in
    omega (arith, narrow, wide)
layer_shorter (Value-F.Stamp stamp) = omega arith
layer_shorter (Value-F.Long number) = omega arith

abbrev Agree : Value-F Value → Type 0
Agree layer = layer_length Bson layer ≤ layer_length Key layer

held_shorter : (it : Value) → length (held Bson it).1 ≤ length (held Key it).1
held_shorter = ind-Value IsShorter (λ layer known is.
    omega (
      arith,
      subst Agree is (layer_shorter known),
      ap (λ (h : Spelled). length h.1) (fold-roll-Value Spelled (held_in Bson) layer),
      ap (λ (h : Spelled). length h.1) (fold-roll-Value Spelled (held_in Key) layer),
    ))

-- ---- so what fits is short

id_short : (id : Value) → length (key id) ≤ 16384 → length (held Bson id).1 ≤ 16383
id_short id few = let shorter = held_shorter id in omega (arith, few, shorter)

pub fits_short : (upserted : Option Value) → FitsId upserted → IsShortId upserted
fits_short None fits = tt
fits_short (Some id) fits = id_short id fits

fits_whole : (it : Option Doc) → FitsDoc it → IsShortDocument it
fits_whole None fits = tt
fits_whole (Some doc) fits = fits

-- one end more
pub short_more : (ends : List ItemEnd) (end : ItemEnd) → HasShortId end → AreShort ends → AreShort (ends ++ end ∷ [])
short_more ends end short all = All-append HasShortId ends (end ∷ []) all (All-cons HasShortId end [] short (All-nil HasShortId))

-- a document that tells a change
pub modified_short : (removed existed : Bool) (upserted : Option Value) (it : Option Doc) → FitsId upserted → FitsDoc it
    → length (spell (modified_document removed existed upserted it)) ≤ 16793676
modified_short removed existed upserted it id doc = document_short removed existed upserted it (fits_short upserted id) (fits_whole it doc)

pub modified_sent : (removed existed : Bool) (upserted : Option Value) (it : Option Doc) → FitsId upserted → FitsDoc it
    → length (spell (modified_document removed existed upserted it)) ≤ MOST_REPLY
modified_sent removed existed upserted it id doc = document_sent removed existed upserted it (fits_short upserted id) (fits_whole it doc)
