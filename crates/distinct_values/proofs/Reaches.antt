-- What a path reaches in a plain value is plain.
use Rattle.std.proofs.Common.{◌≡◌, ◌<◌, ℕ, Bool, true, false, None, List, [], ◌∷◌, length, get_or, All, refl, sym, subst}
use Rattle.std.specs.Prelude.{if◌then◌else◌, slice_get, zero, suc}
use Rattle.std.specs.List.{flat_map}
use Rattle.std.specs.Str.{bytes_eq}
use Rattle.std.specs.Str.Parse.{digits_value}
use Rattle.std.proofs.lemmas.List.Concat.{flat_map-cons}
use Rattle.std.proofs.lemmas.List.Elements.{All-nil, All-cons, All-append, All-get_or}
use Rattle.bson_values.specs.declared.pairs.Pair.{Pair}
use Rattle.bson_values.specs.Names.{first_of}
use Rattle.bson_values.specs.declared.value.Value.{Value}
use Rattle.bson_values.specs.declared.value.Value.TheViews.{out-Value}
use Rattle.bson_values.specs.declared.value.Value.TheOpen.{Value-F}
use Rattle.bson_order.specs.Plain.{IsPlain}
use Rattle.bson_order.proofs.Plains.{HoldsPlain, PlainItems, PlainPairs, holds_plain}
use Rattle.doc_paths.specs.Reach.{reached, behind_field, behind_item, in_element, in_value, is_index, item_at}
use Rattle.doc_paths.specs.declared.reached.Reached.{Reached}
use Rattle.doc_paths.specs.declared.reached.Reached.TheVariants.{Missing, Found}
use Rattle.distinct_values.specs.Distinct.{spread, values_of}

-- the values of what is reached are plain
abbrev pub AddsPlain : Reached → Type 0
AddsPlain it = All IsPlain (values_of it)

all_items : (items : List Value) → PlainItems items → All IsPlain items
all_items [] plain = All-nil IsPlain
all_items (item ∷ items) plain = All-cons IsPlain item items plain.0 (all_items items plain.1)

spread_plain : (it : Value) (layer : Value-F Value) → IsPlain it → HoldsPlain layer → All IsPlain (spread it layer)
spread_plain it (Value-F.Arr items) plain holds = all_items items holds
spread_plain it layer plain holds = All-cons IsPlain it [] plain (All-nil IsPlain)

-- a walk gives plain values of a plain one
abbrev KeepsPlain : (Value → List Reached) → Type 0
KeepsPlain go = (it : Value) → IsPlain it → All AddsPlain (go it)

missing : All AddsPlain (Missing ∷ [])
missing = All-cons AddsPlain Missing [] (All-nil IsPlain) (All-nil AddsPlain)

module _ (go : Value → List Reached) (keeps : KeepsPlain go) where
  field : (name : List ℕ) (pairs : List (Pair Value)) → PlainPairs pairs → All AddsPlain (behind_field go (first_of name pairs))
  field name [] plain = missing
  field name (pair ∷ pairs) plain = cases (bytes_eq pair.name name) refl (field name pairs plain.1)
    where
      cases : (b : Bool) → bytes_eq pair.name name ≡ b → All AddsPlain (behind_field go (first_of name pairs))
          → All AddsPlain (behind_field go (first_of name (pair ∷ pairs)))
      cases true e rest = rw e (keeps pair.value plain.0)
      cases false e rest = rw e rest

  at_place : (items : List Value) (place : ℕ) → PlainItems items → All AddsPlain (behind_item go (slice_get items place))
  at_place [] place plain = All-nil AddsPlain
  at_place (item ∷ items) zero plain = keeps item plain.0
  at_place (item ∷ items) (suc place) plain = at_place items place plain.1

  by_place : (part : List ℕ) (items : List Value) → PlainItems items → All AddsPlain (behind_item go (item_at part items))
  by_place part items plain = cases (is_index part)
    where
      cases : (b : Bool) → All AddsPlain (behind_item go (if b then slice_get items (digits_value 10 part) else None))
      cases true = at_place items (digits_value 10 part) plain
      cases false = All-nil AddsPlain

  element : (part : List ℕ) (layer : Value-F Value) → HoldsPlain layer → All AddsPlain (in_element part go layer)
  element part (Value-F.Doc pairs) holds = field part pairs holds
  element part layer holds = All-nil AddsPlain

  elements : (part : List ℕ) (items : List Value) → PlainItems items
      → All AddsPlain (flat_map (λ item. in_element part go (out-Value item)) items)
  elements part [] plain = All-nil AddsPlain
  elements part (item ∷ items) plain =
      subst (λ all. All AddsPlain all) (sym (flat_map-cons (λ item. in_element part go (out-Value item)) item items))
      (All-append AddsPlain _ _ (element part (out-Value item) (holds_plain item plain.0)) (elements part items plain.1))

  inside : (part : List ℕ) (layer : Value-F Value) → HoldsPlain layer → All AddsPlain (in_value part go layer)
  inside part (Value-F.Doc pairs) holds = field part pairs holds
  inside part (Value-F.Arr items) holds = All-append AddsPlain _ _ (by_place part items holds) (elements part items holds)
  inside part layer holds = missing

pub reached_plain : (path : List (List ℕ)) (it : Value) → IsPlain it → All AddsPlain (reached path it)
reached_plain [] it plain =
    All-cons AddsPlain (Found it) [] (spread_plain it (out-Value it) plain (holds_plain it plain)) (All-nil AddsPlain)
reached_plain (part ∷ rest) it plain = inside (reached rest) (reached_plain rest) part (out-Value it) (holds_plain it plain)

-- the next of a list in which each is so
pub next_is : {X : Type 0} (P : X → Type 0) (all : List X) (place : ℕ) (it : X) → All P all → place < length all
    → it ≡ get_or all place it → P it
next_is P all place it each within is = subst P (sym is) (All-get_or P all place it within each)
