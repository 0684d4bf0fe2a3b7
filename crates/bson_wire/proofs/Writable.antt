-- What is in the grammar has a spelling, unless that is too long.
use Rattle.std.proofs.Common.{ℕ, zero, suc, ◌+◌, ◌^◌, ◌<◌, List, [], ◌∷◌, ◌++◌, length, All, subst}
use Rattle.std.specs.Prelude.{Option, None, Some}
use Rattle.std.proofs.lemmas.List.Elements.{All-head, All-tail, All-nil, All-cons}
use Rattle.bson_values.specs.declared.value.Value.{Value}
use Rattle.bson_values.specs.declared.value.Value.TheViews.{out-Value}
use Rattle.bson_values.specs.declared.value.Value.TheOpen.{Value-F}
use Rattle.bson_wire.specs.declared.foreign.Foreign.{Foreign}
use Rattle.bson_spelling.specs.Spelling.{spell}
use Rattle.bson_wire.specs.Grammar.{Element, pair_of, kept, values, IsName, IsValue, Yields, AreElements, spells_within, spells}
use Rattle.bson_wire.specs.Spellable.{HasSpelling, IsSpellable}
use Rattle.bson_wire.proofs.Values.{Doc, IsDocAt, IsArrayAt}
use Rattle.bson_wire.proofs.Written.{IsFit, IsFitItem}

-- a document that is spelled in so many levels has a spelling in as many
abbrev AreFit : ℕ → Type 0
AreFit levels = (place : ℕ) (bytes : List ℕ) (doc : Doc) (foreign : List Foreign) → spells_within levels place bytes doc foreign
    → HasSpelling (Value-F.Doc doc) levels

values_fit : (levels : ℕ) (pairs : Doc) → All (IsFit levels) pairs → All (IsFitItem levels) (values pairs)
values_fit levels [] fits = All-nil (IsFitItem levels)
values_fit levels (pair ∷ pairs) fits =
    All-cons (IsFitItem levels) pair.value (values pairs) (All-head (IsFit levels) pair pairs fits).1
    (values_fit levels pairs (All-tail (IsFit levels) pair pairs fits))

-- an array has one where a document of its items has
array_fits : (levels : ℕ) (pairs : Doc) → HasSpelling (Value-F.Doc pairs) levels → HasSpelling (Value-F.Arr (values pairs)) levels
array_fits zero pairs fits = fits
array_fits (suc levels) pairs fits = values_fit levels pairs fits

items_fit : (levels : ℕ) → AreFit levels → (place : ℕ) (bytes : List ℕ) (items : List Value) (foreign : List Foreign)
    → IsArrayAt (spells_within levels) place bytes items foreign → HasSpelling (Value-F.Arr items) levels
items_fit levels are place bytes items foreign is = subst (λ (them : List Value). HasSpelling (Value-F.Arr them) levels) is.2
    (array_fits levels is.0 (are place bytes is.0 foreign is.1))

layer_fits : (levels : ℕ) → AreFit levels → (place code : ℕ) (content : List ℕ) (layer : Value-F Value) (foreign : List Foreign)
    → IsValue (IsDocAt (spells_within levels) place foreign) code content layer → HasSpelling layer levels
layer_fits levels are place code content (Value-F.Str text) foreign is = is.1.utf8
layer_fits levels are place code content (Value-F.Doc pairs) foreign is = are place content pairs foreign is.1
layer_fits levels are place code content (Value-F.Arr items) foreign is = items_fit levels are place content items foreign is.1
layer_fits levels are place code content (Value-F.Bin it) foreign is = tt
layer_fits levels are place code content (Value-F.Id id) foreign is =
    subst (λ (bytes : List ℕ). HasSpelling (Value-F.Id bytes) levels) is.2 is.1
layer_fits levels are place code content (Value-F.Bool truth) foreign is = tt
layer_fits levels are place code content (Value-F.Date moment) foreign is = is.1.fits
layer_fits levels are place code content Value-F.Null foreign is = tt
layer_fits levels are place code content (Value-F.Regex regex) foreign is = (is.1.pattern, is.1.options)
layer_fits levels are place code content (Value-F.Int number) foreign is = is.1.fits
layer_fits levels are place code content (Value-F.Stamp stamp) foreign is = is.1.fits
layer_fits levels are place code content (Value-F.Long number) foreign is = is.1.fits

-- so has what is kept of an element
kept_fits : (levels : ℕ) → AreFit levels → (place inner code : ℕ) (name content : List ℕ) (value : Option Value) (foreign : List Foreign)
    (rest : Doc) → IsName name → Yields (spells_within levels) place inner code content value foreign → All (IsFit levels) rest
    → All (IsFit levels) (pair_of name value ++ rest)
kept_fits levels are place inner code name content None foreign rest named is fits = fits
kept_fits levels are place inner code name content (Some value) foreign rest named is fits =
    All-cons (IsFit levels) (record { name = name; value = value }) rest
    (named, layer_fits levels are inner code content (out-Value value) foreign is.0) fits

elements_fit : (levels : ℕ) → AreFit levels → (place : ℕ) (bytes : List ℕ) (elements : List Element)
    → AreElements (spells_within levels) place bytes elements → All (IsFit levels) (kept elements)
elements_fit levels are place bytes [] is = All-nil (IsFit levels)
elements_fit levels are place bytes (it ∷ elements) is =
    let first = is.3 in
    let others = elements_fit levels are (place + length is.0) is.1 elements is.4 in
    kept_fits levels are place (place + (length it.name + 2)) first.code it.name first.content it.value it.foreign
    (kept elements) first.name first.value others

within_fits : (levels : ℕ) → AreFit levels
unfolding spells_within
within_fits zero place bytes doc foreign is = absurd is
within_fits (suc levels) place bytes doc foreign is =
    subst (λ (pairs : Doc). HasSpelling (Value-F.Doc pairs) (suc levels)) is.2
    (elements_fit levels (within_fits levels) (place + 4) is.1.inside is.0 is.1.are)

pub writable : (bytes : List ℕ) (doc : Doc) (foreign : List Foreign) → spells bytes doc foreign → length (spell doc) < 2 ^ 31
    → IsSpellable doc
writable bytes doc foreign is small = record { fits = within_fits 128 0 bytes doc foreign is; small = small }
