-- Plain values, one level at a time.
use Rattle.std.proofs.Common.{◌≡◌, ◌↔◌, ◌<◌, ◌≤◌, ◌+◌, ℕ, Bool, true, List, [], ◌∷◌, length, get_or, take, map, All, refl, sym, ap, subst}
use Rattle.std.proofs.Common.{◌∙◌}
use Rattle.std.specs.Prelude.{IsTrue}
use Rattle.std.proofs.lemmas.List.{take_more, take_all}
use Rattle.std.proofs.lemmas.List.Elements.{All-head, All-tail, All-nil, All-cons, All-push}
use Rattle.bson_values.specs.declared.pairs.Pair.{Pair}
use Rattle.bson_values.specs.declared.value.Value.{Value, map-Value}
use Rattle.bson_values.specs.declared.value.Value.TheViews.{out-Value, roll-out-Value}
use Rattle.bson_values.specs.declared.value.Value.TheOpen.{Value-F}
use Rattle.bson_values.specs.declared.value.Value.TheFolds.{every_here-Value, every_held-Value, every_made-Value}
use Rattle.bson_order.specs.Plain.{HasNoNul, IsPlainLayer, IsPlain, IsPlainPair}

-- ---- what stands in a plain value is plain

abbrev pub PlainPairs : List (Pair Value) → Type 0
PlainPairs [] = Unit {0}
PlainPairs (pair ∷ pairs) = IsPlain pair.value × PlainPairs pairs

abbrev pub PlainItems : List Value → Type 0
PlainItems [] = Unit {0}
PlainItems (item ∷ items) = IsPlain item × PlainItems items

abbrev pub HoldsPlain : Value-F Value → Type 0
HoldsPlain (Value-F.Doc pairs) = PlainPairs pairs
HoldsPlain (Value-F.Arr items) = PlainItems items
HoldsPlain layer = Unit {0}

abbrev PlainValue : Type 0
PlainValue = (it : Value) × IsPlain it

abbrev bare : PlainValue → Value
bare it = it.0

plain_pairs : (pairs : List (Pair PlainValue)) → PlainPairs (map
    (λ (pair : Pair PlainValue). record { name = pair.name; value = bare pair.value }) pairs)
plain_pairs [] = tt
plain_pairs (pair ∷ pairs) = (pair.value.1, plain_pairs pairs)

plain_items : (items : List PlainValue) → PlainItems (map bare items)
plain_items [] = tt
plain_items (item ∷ items) = (item.1, plain_items items)

holds_bare : (layer : Value-F PlainValue) → HoldsPlain (map-Value PlainValue Value bare layer)
holds_bare (Value-F.Doc pairs) = plain_pairs pairs
holds_bare (Value-F.Arr items) = plain_items items
holds_bare layer = tt

-- a plain value holds plain values
pub holds_plain : (it : Value) → IsPlain it → HoldsPlain (out-Value it)
holds_plain it plain = let inside = every_held-Value IsPlainLayer it plain in subst HoldsPlain inside.1 (holds_bare inside.0)

-- ---- what holds plain values is plain

-- the same layer, with a proof beside each value in it
abbrev Proved : Value-F Value → Type 0
Proved layer = (proved : Value-F PlainValue) × (map-Value PlainValue Value bare proved ≡ layer)

abbrev unproved : Pair PlainValue → Pair Value
unproved pair = record { name = pair.name; value = bare pair.value }

pairs_proved : (pairs : List (Pair Value)) → PlainPairs pairs → (proved : List (Pair PlainValue)) × (map unproved proved ≡ pairs)
pairs_proved [] plain = ([], refl)
pairs_proved (pair ∷ pairs) plain =
    let rest = pairs_proved pairs plain.1 in
    (record { name = pair.name; value = (pair.value, plain.0) } ∷ rest.0, ap (λ (more : List (Pair Value)). pair ∷ more) rest.1)

items_proved : (items : List Value) → PlainItems items → (proved : List PlainValue) × (map bare proved ≡ items)
items_proved [] plain = ([], refl)
items_proved (item ∷ items) plain =
    let rest = items_proved items plain.1 in
    ((item, plain.0) ∷ rest.0, ap (λ (more : List Value). item ∷ more) rest.1)

layer_proved : (layer : Value-F Value) → HoldsPlain layer → Proved layer
layer_proved (Value-F.Doc pairs) plain = let proved = pairs_proved pairs plain in
    (Value-F.Doc proved.0, ap (λ (all : List (Pair Value)). Value-F.Doc all) proved.1)
layer_proved (Value-F.Arr items) plain = let proved = items_proved items plain in
    (Value-F.Arr proved.0, ap (λ (all : List Value). Value-F.Arr all) proved.1)
layer_proved (Value-F.Str text) plain = (Value-F.Str text, refl)
layer_proved (Value-F.Bin it) plain = (Value-F.Bin it, refl)
layer_proved (Value-F.Id id) plain = (Value-F.Id id, refl)
layer_proved (Value-F.Bool truth) plain = (Value-F.Bool truth, refl)
layer_proved (Value-F.Date moment) plain = (Value-F.Date moment, refl)
layer_proved Value-F.Null plain = (Value-F.Null, refl)
layer_proved (Value-F.Regex regex) plain = (Value-F.Regex regex, refl)
layer_proved (Value-F.Int number) plain = (Value-F.Int number, refl)
layer_proved (Value-F.Stamp stamp) plain = (Value-F.Stamp stamp, refl)
layer_proved (Value-F.Long number) plain = (Value-F.Long number, refl)

-- a layer that is plain and holds plain values makes a plain one
made_plain : (it : Value) → IsPlainLayer (out-Value it) → HoldsPlain (out-Value it) → IsPlain it
made_plain it here holds =
    let proved = layer_proved (out-Value it) holds in
    subst IsPlain (roll-out-Value it) (every_made-Value IsPlainLayer (out-Value it) proved.0 proved.1 here)

-- ---- by All

pairs_from_all : (pairs : List (Pair Value)) → All IsPlainPair pairs
    → All (λ (pair : Pair Value). HasNoNul pair.name) pairs × PlainPairs pairs
pairs_from_all [] all = (All-nil (λ (pair : Pair Value). HasNoNul pair.name), tt)
pairs_from_all (pair ∷ pairs) all =
    let first = All-head IsPlainPair pair pairs all in
    let rest = pairs_from_all pairs (All-tail IsPlainPair pair pairs all) in
    (All-cons (λ (pair : Pair Value). HasNoNul pair.name) pair pairs first.0 rest.0, (first.1, rest.1))

all_from_pairs : (pairs : List (Pair Value)) → All (λ (pair : Pair Value). HasNoNul pair.name) pairs → PlainPairs pairs
    → All IsPlainPair pairs
all_from_pairs [] names plain = All-nil IsPlainPair
all_from_pairs (pair ∷ pairs) names plain =
    All-cons IsPlainPair pair pairs (All-head (λ (pair : Pair Value). HasNoNul pair.name) pair pairs names, plain.0)
    (all_from_pairs pairs (All-tail (λ (pair : Pair Value). HasNoNul pair.name) pair pairs names) plain.1)

items_from_all : (items : List Value) → All IsPlain items → PlainItems items
items_from_all [] all = tt
items_from_all (item ∷ items) all = (All-head IsPlain item items all, items_from_all items (All-tail IsPlain item items all))

all_from_items : (items : List Value) → PlainItems items → All IsPlain items
all_from_items [] plain = All-nil IsPlain
all_from_items (item ∷ items) plain = All-cons IsPlain item items plain.0 (all_from_items items plain.1)

-- what a layer of a plain value is
abbrev pub PlainLayer : Value-F Value → Type 0
PlainLayer (Value-F.Doc pairs) = All IsPlainPair pairs
PlainLayer (Value-F.Arr items) = All IsPlain items
PlainLayer layer = IsPlainLayer layer

layer_from : (layer : Value-F Value) → PlainLayer layer → IsPlainLayer layer × HoldsPlain layer
layer_from (Value-F.Doc pairs) plain = pairs_from_all pairs plain
layer_from (Value-F.Arr items) plain = (tt, items_from_all items plain)
layer_from layer plain = (plain, tt)

layer_to : (layer : Value-F Value) → IsPlainLayer layer → HoldsPlain layer → PlainLayer layer
layer_to (Value-F.Doc pairs) here holds = all_from_pairs pairs here holds
layer_to (Value-F.Arr items) here holds = all_from_items items holds
layer_to layer here holds = here

-- an answer on the layer is one on the value
pub plain_by : (it : Value) (layer : Value-F Value) (answer : Bool) → out-Value it ≡ layer → (IsTrue answer ↔ PlainLayer layer)
    → IsTrue answer ↔ IsPlain it
plain_by it layer answer is on_layer = (
  (λ yes. let both = layer_from (out-Value it) (subst PlainLayer (sym is) (on_layer.0 yes)) in made_plain it both.0 both.1),
  (λ plain. on_layer.1 (subst PlainLayer is (layer_to (out-Value it) (every_here-Value IsPlainLayer it plain) (holds_plain it plain)))),
)

-- what always holds
pub always : {P : Type 0} → P → IsTrue true ↔ P
always fact = ((λ yes. fact), (λ it. refl))

-- ---- loops

-- one more
pub all_more : {X : Type 0} (P : X → Type 0) (xs : List X) (place : ℕ) (x : X) → x ≡ get_or xs place x → place < length xs
    → All P (take place xs) → P x → All P (take (place + 1) xs)
all_more P xs place x is within all here = subst (λ them. All P them) (sym (take_more xs place x within))
    (All-push P (take place xs) (get_or xs place x) all (subst P is here))

-- none left
pub all_done : {X : Type 0} (P : X → Type 0) (xs ys : List X) (place : ℕ) → xs ≡ ys → length xs ≤ place → All P (take place xs)
    → IsTrue true ↔ All P ys
all_done P xs ys place is end all = always (subst (λ them. All P them) (take_all place xs end ∙ is) all)
