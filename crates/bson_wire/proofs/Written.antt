-- What is written is in the grammar.
use Rattle.std.proofs.Common.{◌≡◌, ◌≢◌, ℕ, zero, suc, ◌+◌, ◌%◌, ◌^◌, ◌<◌, List, [], ◌∷◌, ◌++◌, length, length-append, map, All, refl, sym}
use Rattle.std.proofs.Common.{ap, subst, ◌∙◌, arith, inr}
use Rattle.std.specs.Prelude.{Some}
use Rattle.std.specs.Fmt.{decimal}
use Rattle.std.specs.List.{flat_map}
use Rattle.std.proofs.lemmas.Fmt.{decimal_by_steps, IsAscii-decimal}
use Rattle.std.proofs.lemmas.Str.{IsUtf8-from_ascii}
use Rattle.std.proofs.lemmas.List.Concat.{flat_map-cons}
use Rattle.std.proofs.lemmas.List.Elements.{All-head, All-tail, All-nil, All-cons, All-push}
use Rattle.bson_values.specs.declared.pairs.Pair.{Pair}
use Rattle.bson_values.specs.declared.value.Value.{Value}
use Rattle.bson_values.specs.declared.value.Value.TheViews.{out-Value}
use Rattle.bson_values.specs.declared.value.Value.TheOpen.{Value-F}
use Rattle.bson_spelling.specs.declared.form.Form.TheVariants.{Bson}
use Rattle.bson_spelling.specs.Spelling.{int32, held, items_from, element, enclosed, spell}
use Rattle.bson_wire.specs.Grammar.{Element, kept, foreigns, IsName, IsValue, IsElement, AreElements, values, spells_within, spells}
use Rattle.bson_wire.specs.Spellable.{HasSpelling, IsSpellable}
use Rattle.bson_spelling.proofs.Helds.{held_layer, held_is}
use Rattle.bson_spelling.proofs.Sizes.{length-string, length-binary, length-enclosed, length-element_of}
use Rattle.bson_wire.proofs.Values.{Doc, IsDocAt, IsArrayAt}

-- ---- names of items

abbrev NoNul : List ℕ → Type 0
NoNul digits = All (λ byte. byte ≢ 0) digits

digits_no_nul : (n : ℕ) → n < 2 ^ 64 → NoNul (decimal n)
digits_no_nul = decimal_by_steps (λ n digits. NoNul digits)
    (λ n small. All-cons (λ byte. byte ≢ 0) (48 + n) [] (omega arith) (All-nil (λ byte. byte ≢ 0)))
    (λ n digits large no_nul. All-push (λ byte. byte ≢ 0) digits (48 + n % 10) no_nul (omega arith))

item_name : (n : ℕ) → n < 2 ^ 64 → IsName (decimal n)
item_name n small = record { utf8 = IsUtf8-from_ascii (decimal n) (IsAscii-decimal n small); no_nul = digits_no_nul n small }

-- the document that an array is spelled as
abbrev named_from : ℕ → List Value → Doc
named_from place [] = []
named_from place (item ∷ items) = record { name = decimal place; value = item } ∷ named_from (place + 1) items

values_named : (place : ℕ) (items : List Value) → values (named_from place items) ≡ items
values_named place [] = refl
values_named place (item ∷ items) = ap (λ (rest : List Value). item ∷ rest) (values_named (place + 1) items)

-- ---- what is within a level

-- each value with a spelling in so many levels is spelled so
abbrev AreSpelled : ℕ → Type 0
AreSpelled levels = (place : ℕ) (it : Value) → HasSpelling (out-Value it) levels → length (held Bson it).1 < 2 ^ 31
    → IsValue (IsDocAt (spells_within levels) place []) (held Bson it).0 (held Bson it).1 (out-Value it)

-- a pair as an element with nothing foreign in it
abbrev as_element : Pair Value → Element
as_element pair = record { name = pair.name; value = Some pair.value; foreign = [] }

kept_all : (doc : Doc) → kept (map as_element doc) ≡ doc
kept_all [] = refl
kept_all (pair ∷ doc) = ap (λ (rest : Doc). pair ∷ rest) (kept_all doc)

none_foreign : (doc : Doc) → foreigns (map as_element doc) ≡ []
none_foreign [] = refl
none_foreign (pair ∷ doc) = none_foreign doc

element_spelled : (levels : ℕ) → AreSpelled levels → (place : ℕ) (pair : Pair Value) → IsName pair.name
    → HasSpelling (out-Value pair.value) levels → length (element Bson pair) < 2 ^ 31
    → IsElement (spells_within levels) place (element Bson pair) (as_element pair)
element_spelled levels are place pair named has small =
    let short : length (held Bson pair.value).1 < 2 ^ 31 = omega (arith, length-element_of pair.name (held Bson pair.value)) in
    record {
      code = (held Bson pair.value).0;
      content = (held Bson pair.value).1;
      whole = refl;
      name = named;
      value =
          (are (place + (length pair.name + 2)) pair.value has short, inr (inr refl));
    }

-- a pair that has a spelling in so many levels
abbrev pub IsFit : ℕ → Pair Value → Type 0
IsFit levels pair = IsName pair.name × HasSpelling (out-Value pair.value) levels

elements_spelled : (levels : ℕ) → AreSpelled levels → (place : ℕ) (doc : Doc) → All (IsFit levels) doc
    → length (flat_map (element Bson) doc) < 2 ^ 31
    → AreElements (spells_within levels) place (flat_map (element Bson) doc) (map as_element doc)
elements_spelled levels are place [] fits small = refl
elements_spelled levels are place (pair ∷ doc) fits small =
    let rest = flat_map (element Bson) doc in
    let whole = flat_map-cons (element Bson) pair doc in
    let both : length (flat_map (element Bson) (pair ∷ doc)) ≡ length (element Bson pair) + length rest = ap length whole
    ∙ length-append (element Bson pair) rest in
    let fit = All-head (IsFit levels) pair doc fits in
    let first = element_spelled levels are place pair fit.0 fit.1 (omega arith) in
    let others = elements_spelled levels are (place + length (element Bson pair)) doc (All-tail (IsFit levels) pair doc fits)
    (omega arith) in
    (element Bson pair, rest, whole, first, others)

-- an item that has
abbrev pub IsFitItem : ℕ → Value → Type 0
IsFitItem levels item = HasSpelling (out-Value item) levels

items_spelled : (levels : ℕ) → AreSpelled levels → (start place : ℕ) (items : List Value) → All (IsFitItem levels) items
    → place + length (items_from place (map (held Bson) items)) < 2 ^ 31
    → AreElements (spells_within levels) start (items_from place (map (held Bson) items)) (map as_element (named_from place items))
items_spelled levels are start place [] fits small = refl
items_spelled levels are start place (item ∷ items) fits small =
    let pair : Pair Value = record { name = decimal place; value = item } in
    let rest = items_from (place + 1) (map (held Bson) items) in
    let both : length (element Bson pair ++ rest) ≡ length (element Bson pair) + length rest = length-append (element Bson pair) rest in
    let len = length-element_of (decimal place) (held Bson item) in
    let first = element_spelled levels are start pair (item_name place (omega arith)) (All-head (IsFitItem levels) item items fits)
    (omega arith) in
    let others = items_spelled levels are (start + length (element Bson pair)) (place + 1) items
    (All-tail (IsFitItem levels) item items fits) (omega arith) in
    (element Bson pair, rest, refl, first, others)

enclosed_spelled : (levels place : ℕ) (inside : List ℕ) (pairs : Doc)
    → AreElements (spells_within levels) (place + 4) inside (map as_element pairs) → length (enclosed Bson inside) < 2 ^ 31
    → spells_within (suc levels) place (enclosed Bson inside) pairs []
unfolding spells_within
enclosed_spelled levels place inside pairs are small =
    let whole = ap (λ (n : ℕ). int32 n ++ inside ++ 0 ∷ []) (sym (length-enclosed Bson inside)) in
    (map as_element pairs, record { inside = inside; small = small; whole = whole; are = are }, kept_all pairs, none_foreign pairs)

document_spelled : (levels : ℕ) → AreSpelled levels → (place : ℕ) (doc : Doc) → All (IsFit levels) doc → length (spell doc) < 2 ^ 31
    → spells_within (suc levels) place (spell doc) doc []
document_spelled levels are place doc fits small =
    let inside = flat_map (element Bson) doc in
    enclosed_spelled levels place inside doc (elements_spelled levels are (place + 4) doc fits (omega (arith, length-enclosed Bson inside)))
    small

array_spelled : (levels : ℕ) → AreSpelled levels → (place : ℕ) (items : List Value) → All (IsFitItem levels) items
    → length (enclosed Bson (items_from 0 (map (held Bson) items))) < 2 ^ 31
    → IsArrayAt (spells_within (suc levels)) place (enclosed Bson (items_from 0 (map (held Bson) items))) items []
array_spelled levels are place items fits small =
    let inside = items_from 0 (map (held Bson) items) in
    let elements = items_spelled levels are (place + 4) 0 items fits (omega (arith, length-enclosed Bson inside)) in
    (named_from 0 items, enclosed_spelled levels place inside (named_from 0 items) elements small, values_named 0 items)

-- ---- level by level

-- what is one level down
abbrev AreSpelledBelow : ℕ → Type 0
AreSpelledBelow zero = Unit {0}
AreSpelledBelow (suc levels) = AreSpelled levels

layer_spelled : (layer : Value-F Value) (levels place : ℕ) → AreSpelledBelow levels → HasSpelling layer levels
    → length (held_layer Bson layer).1 < 2 ^ 31 → IsValue (IsDocAt (spells_within levels) place []) (held_layer Bson layer).0
    (held_layer Bson layer).1 layer
layer_spelled (Value-F.Str text) levels place below has small =
    (refl, record { utf8 = has; small = omega (arith, length-string Bson text); whole = refl })
layer_spelled (Value-F.Doc pairs) zero place below has small = absurd has
layer_spelled (Value-F.Doc pairs) (suc levels) place below has small = (refl, document_spelled levels below place pairs has small)
layer_spelled (Value-F.Arr items) zero place below has small = absurd has
layer_spelled (Value-F.Arr items) (suc levels) place below has small = (refl, array_spelled levels below place items has small)
layer_spelled (Value-F.Bin it) levels place below has small =
    (refl, record { small = omega (arith, length-binary Bson it.subtype it.bytes); whole = refl })
layer_spelled (Value-F.Id id) levels place below has small = (refl, has, refl)
layer_spelled (Value-F.Bool truth) levels place below has small = (refl, refl)
layer_spelled (Value-F.Date moment) levels place below has small = (refl, record { fits = has; whole = refl })
layer_spelled Value-F.Null levels place below has small = (refl, refl)
layer_spelled (Value-F.Regex regex) levels place below has small = (refl, record { pattern = has.0; options = has.1; whole = refl })
layer_spelled (Value-F.Int number) levels place below has small = (refl, record { fits = has; whole = refl })
layer_spelled (Value-F.Stamp stamp) levels place below has small = (refl, record { fits = has; whole = refl })
layer_spelled (Value-F.Long number) levels place below has small = (refl, record { fits = has; whole = refl })

value_by : (levels : ℕ) → AreSpelledBelow levels → AreSpelled levels
value_by levels below place it has small =
    let same = held_is Bson it in
    let short : length (held_layer Bson (out-Value it)).1 < 2 ^ 31 = omega (arith, ap (λ (h : ℕ × List ℕ). length h.1) same) in
    subst (λ (h : ℕ × List ℕ). IsValue (IsDocAt (spells_within levels) place []) h.0 h.1 (out-Value it)) (sym same)
    (layer_spelled (out-Value it) levels place below has short)

value_spelled : (levels : ℕ) → AreSpelled levels
value_spelled zero = value_by zero tt
value_spelled (suc levels) = value_by (suc levels) (value_spelled levels)

pub spelled : (doc : Doc) → IsSpellable doc → spells (spell doc) doc []
spelled doc is = document_spelled 127 (value_spelled 127) 0 doc is.fits is.small
