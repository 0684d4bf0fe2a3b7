-- The values of documents that may be stored are told apart by their keys.
use Rattle.std.proofs.Common.{◌≡◌, ◌≢◌, ◌<◌, ◌^◌, ℕ, ℤ, pos, negsuc, Bool, true, false, not, ◌&&◌, ◌||◌, ◌==◌, List, [], ◌∷◌, ◌++◌, length, map, All}
use Rattle.std.proofs.Common.{refl, sym, ap, subst, ◌∙◌, arith}
use Rattle.std.specs.Prelude.{int_le, FitsSigned}
use Rattle.std.specs.Int.{w32, w64}
use Rattle.std.specs.List.{list_all}
use Rattle.std.proofs.lemmas.Bool.{eqb-true}
use Rattle.std.proofs.lemmas.Bool.Decides.{nat_tests}
use Rattle.std.proofs.lemmas.Grind.{common_steps}
use Rattle.std.proofs.lemmas.List.Elements.{All-nil, All-cons}
use Rattle.std_words.proofs.Tests.{and-both, or-not-first, or-not-second}
use Rattle.bson_values.specs.Allowed.{is_allowed, are_allowed, sound_in, is_sound}
use Rattle.bson_values.specs.Names.{names}
use Rattle.bson_values.specs.Storable.{has, begins, stands}
use Rattle.bson_values.specs.declared.pairs.Pair.{Pair}
use Rattle.bson_values.specs.declared.value.Value.{Value, map-Value}
use Rattle.bson_values.specs.declared.value.Value.TheFolds.{fold-roll-Value, ind-Value, every_made-Value}
use Rattle.bson_values.specs.declared.value.Value.TheOpen.{Value-F}
use Rattle.bson_order.specs.Plain.{HasNoNul, IsPlainLayer, IsPlain}
use Rattle.typed_json.specs.Typed.{is_i32, is_i64, is_u64, are_bytes, typed_in, is_typed}

-- ---- texts and numbers

apart : (n : ℕ) → (n == 0) ≡ false → n ≢ 0
apart n e is = let zero : (n == 0) ≡ true = grind (arith, nat_tests, is) in absurd (cc (zero, e))

no_nul : (text : List ℕ) → has 0 text ≡ false → HasNoNul text
no_nul [] none = All-nil (λ byte. byte ≢ 0)
no_nul (byte ∷ text) none =
    All-cons (λ byte. byte ≢ 0) byte text (apart byte (or-not-first (byte == 0) (has 0 text) none))
    (no_nul text (or-not-second (byte == 0) (has 0 text) none))

not-false : (b : Bool) → not b ≡ true → b ≡ false
not-false true e = absurd (cc e)
not-false false e = refl

allowed : (name : List ℕ) → is_allowed name ≡ true → HasNoNul name
allowed name is =
    let none = not-false (begins 36 name || has 46 name || has 0 name) is in
    no_nul name (or-not-second (begins 36 name || has 46 name) (has 0 name) none)

long_fits : (n : ℤ) → is_i64 n ≡ true → FitsSigned w64 n
long_fits n is =
    let parts = and-both (int_le (negsuc 9223372036854775807) n) (int_le n (pos 9223372036854775807)) is in grind (arith, common_steps)

int_fits : (n : ℤ) → is_i32 n ≡ true → FitsSigned w32 n
int_fits n is = let parts = and-both (int_le (negsuc 2147483647) n) (int_le n (pos 2147483647)) is in grind (arith, common_steps)

stamp_fits : (n : ℕ) → is_u64 (pos n) ≡ true → n < 2 ^ 64
stamp_fits n is =
    let parts = and-both (int_le (pos 0) (pos n)) (int_le (pos n) (pos 18446744073709551615)) is in grind (arith, common_steps)

-- ---- one layer

abbrev sounded : Value-F Value → Value-F Bool
sounded layer = map-Value Value Bool is_sound layer

abbrev typed : Value-F Value → Value-F Bool
typed layer = map-Value Value Bool is_typed layer

names_plain : (before : List (List ℕ)) (pairs : List (Pair Value))
    → are_allowed before (names (map (λ (p : Pair Value). record { name = p.name; value = is_sound p.value }) pairs)) ≡ true
    → All (λ (p : Pair Value). HasNoNul p.name) pairs
names_plain before [] all = All-nil (λ (p : Pair Value). HasNoNul p.name)
names_plain before (pair ∷ pairs) all =
    let more = are_allowed (before ++ pair.name ∷ []) (names (map (λ (p : Pair Value). record { name = p.name; value = is_sound p.value }) pairs)) in
    let one = and-both (not (stands before pair.name) && is_allowed pair.name) more all in
    All-cons (λ (p : Pair Value). HasNoNul p.name) pair pairs
    (allowed pair.name (and-both (not (stands before pair.name)) (is_allowed pair.name) one.0).1)
    (names_plain (before ++ pair.name ∷ []) pairs one.1)

layer_here : (layer : Value-F Value) → sound_in (sounded layer) ≡ true → typed_in (typed layer) ≡ true → IsPlainLayer layer
layer_here (Value-F.Doc pairs) sound types = names_plain [] pairs (and-both _ _ sound).0
layer_here (Value-F.Arr items) sound types = tt
layer_here (Value-F.Str text) sound types = tt
layer_here (Value-F.Bin it) sound types = tt
layer_here (Value-F.Id id) sound types = eqb-true (length id) 12 (and-both (length id == 12) (are_bytes id) types).0
layer_here (Value-F.Bool truth) sound types = tt
layer_here (Value-F.Date moment) sound types = long_fits moment types
layer_here Value-F.Null sound types = tt
layer_here (Value-F.Regex regex) sound types =
    let none = not-false (has 0 regex.pattern || has 0 regex.options) sound in (
      no_nul regex.pattern (or-not-first (has 0 regex.pattern) (has 0 regex.options) none),
      no_nul regex.options (or-not-second (has 0 regex.pattern) (has 0 regex.options) none),
    )
layer_here (Value-F.Int number) sound types = int_fits number types
layer_here (Value-F.Stamp stamp) sound types = stamp_fits stamp types
layer_here (Value-F.Long number) sound types = long_fits number types

-- ---- every layer

abbrev Plainly : Value → Type 0
Plainly it = is_sound it ≡ true → is_typed it ≡ true → IsPlain it

abbrev Known : Type 0
Known = (it : Value) × Plainly it

abbrev value_of : Known → Value
value_of known = known.0

abbrev PlainValue : Type 0
PlainValue = (it : Value) × IsPlain it

abbrev bare : PlainValue → Value
bare it = it.0

abbrev pair_of : Pair Known → Pair Value
pair_of pair = record { name = pair.name; value = pair.value.0 }

abbrev bare_pair : Pair PlainValue → Pair Value
bare_pair pair = record { name = pair.name; value = pair.value.0 }

-- a layer, with a proof beside each value in it
abbrev Proved : Value-F Value → Type 0
Proved layer = (proved : Value-F PlainValue) × (map-Value PlainValue Value bare proved ≡ layer)

pairs_proved : (pairs : List (Pair Known))
    → list_all (λ (p : Pair Bool). p.value) (map (λ (p : Pair Value). record { name = p.name; value = is_sound p.value }) (map pair_of pairs)) ≡ true
    → list_all (λ (p : Pair Bool). p.value) (map (λ (p : Pair Value). record { name = p.name; value = is_typed p.value }) (map pair_of pairs)) ≡ true
    → (proved : List (Pair PlainValue)) × (map bare_pair proved ≡ map pair_of pairs)
pairs_proved [] sound types = ([], refl)
pairs_proved (pair ∷ pairs) sound types =
    let s = and-both (is_sound pair.value.0) _ sound in
    let t = and-both (is_typed pair.value.0) _ types in
    let rest = pairs_proved pairs s.1 t.1 in
    (record { name = pair.name; value = (pair.value.0, pair.value.1 s.0 t.0) } ∷ rest.0, ap (λ (more : List (Pair Value)). pair_of pair ∷ more) rest.1)

items_proved : (items : List Known) → list_all (λ (is : Bool). is) (map is_sound (map value_of items)) ≡ true
    → list_all (λ (is : Bool). is) (map is_typed (map value_of items)) ≡ true
    → (proved : List PlainValue) × (map bare proved ≡ map value_of items)
items_proved [] sound types = ([], refl)
items_proved (item ∷ items) sound types =
    let s = and-both (is_sound item.0) _ sound in
    let t = and-both (is_typed item.0) _ types in
    let rest = items_proved items s.1 t.1 in
    ((item.0, item.1 s.0 t.0) ∷ rest.0, ap (λ (more : List Value). item.0 ∷ more) rest.1)

layer_proved : (layer : Value-F Known) → sound_in (sounded (map-Value Known Value value_of layer)) ≡ true
    → typed_in (typed (map-Value Known Value value_of layer)) ≡ true → Proved (map-Value Known Value value_of layer)
layer_proved (Value-F.Doc pairs) sound types =
    let proved = pairs_proved pairs (and-both _ _ sound).1 types in
    (Value-F.Doc proved.0, ap (λ (all : List (Pair Value)). Value-F.Doc all) proved.1)
layer_proved (Value-F.Arr items) sound types =
    let proved = items_proved items sound types in (Value-F.Arr proved.0, ap (λ (all : List Value). Value-F.Arr all) proved.1)
layer_proved (Value-F.Str text) sound types = (Value-F.Str text, refl)
layer_proved (Value-F.Bin it) sound types = (Value-F.Bin it, refl)
layer_proved (Value-F.Id id) sound types = (Value-F.Id id, refl)
layer_proved (Value-F.Bool truth) sound types = (Value-F.Bool truth, refl)
layer_proved (Value-F.Date moment) sound types = (Value-F.Date moment, refl)
layer_proved Value-F.Null sound types = (Value-F.Null, refl)
layer_proved (Value-F.Regex regex) sound types = (Value-F.Regex regex, refl)
layer_proved (Value-F.Int number) sound types = (Value-F.Int number, refl)
layer_proved (Value-F.Stamp stamp) sound types = (Value-F.Stamp stamp, refl)
layer_proved (Value-F.Long number) sound types = (Value-F.Long number, refl)

abbrev Sounds : Value-F Value → Type 0
Sounds layer = sound_in (sounded layer) ≡ true

abbrev Types : Value-F Value → Type 0
Types layer = typed_in (typed layer) ≡ true

pub plain_where : (it : Value) → Plainly it
plain_where = ind-Value Plainly (λ layer known is sound types.
    let s : Sounds layer = sym (fold-roll-Value Bool sound_in layer) ∙ sound in
    let t : Types layer = sym (fold-roll-Value Bool typed_in layer) ∙ types in
    let proved = layer_proved known (subst Sounds (sym is) s) (subst Types (sym is) t) in
    every_made-Value IsPlainLayer layer proved.0 (proved.1 ∙ is) (layer_here layer s t))
