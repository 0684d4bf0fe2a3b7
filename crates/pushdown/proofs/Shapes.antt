-- A value that is reached behind some parts stands there in one of the shapes.
use Rattle.std.proofs.Common.{◌≡◌, ◌∙◌, ℕ, Bool, true, false, not, ◌&&◌, ◌||◌, List, [], ◌∷◌, ◌++◌, map, Option, Some, None, refl, sym, ap}
use Rattle.std.proofs.Common.{nat_eq, length, slice_get}
use Rattle.std.specs.Prelude.{if◌then◌else◌}
use Rattle.std.specs.List.{list_any, flat_map}
use Rattle.std.specs.Str.{all_ascii_digits}
use Rattle.std.specs.Str.Parse.{digits_value}
use Rattle.std.proofs.lemmas.List.Folds.{list_any-append}
use Rattle.std_words.proofs.Parts.{any-mapped}
use Rattle.std_words.proofs.Tests.{or-first, or-second}
use Rattle.bson_order.specs.Order.{is_same}
use Rattle.bson_values.specs.Allowed.{is_sound}
use Rattle.bson_values.specs.Names.{first_of}
use Rattle.bson_values.specs.declared.pairs.Pair.{Pair}
use Rattle.bson_values.specs.declared.value.Value.{Value}
use Rattle.bson_values.specs.declared.value.Value.TheOpen.{Value-F}
use Rattle.bson_values.specs.declared.value.Value.TheViews.{out-Value}
use Rattle.doc_paths.specs.Reach.{is_index, item_at, behind_field, behind_item, in_element, in_value, reached, items_in}
use Rattle.doc_paths.specs.declared.reached.Reached.{Reached}
use Rattle.doc_paths.specs.declared.reached.Reached.TheVariants.{Missing, Found}
use Rattle.filter_syntax.specs.Candidates.{is_null, is_equal}
use Rattle.filter_match.specs.Asking.{one_of}
use Rattle.filter_match.proofs.Equations.{list_any-flat_map}
use Rattle.pushdown.proofs.Levels.{inside_is, inside_layer}
use Rattle.jsonb_contain.specs.Containment.{passes, inside}
use Rattle.jsonb_contain.specs.Rising.{value_at}
use Rattle.jsonb_contain.specs.declared.value.Json.{Json, out-Json}
use Rattle.jsonb_contain.specs.declared.value.Json.TheOpen.{Json-F}
use Rattle.jsonb_contain.specs.declared.value.Json.TheVariants as json
use Rattle.typed_json.specs.Plain.{plain_of, plains}
use Rattle.pushdown.specs.Pushed.{is_plain, field, element, shapes}
use Rattle.pushdown.proofs.Lists.{or_cases, any_made, any_weaker, any_among, swap_any}
use Rattle.pushdown.proofs.SameJson.{ByLayers, inside_same, out_items, out_fields}
use Rattle.pushdown.proofs.Sound.{sound_fields, sound_items, is_there}

-- ---- what an object and an array have inside

inside_by : (all one : Json) (layer like : Json-F Json) → out-Json one ≡ layer → out-Json all ≡ like
    → inside all one ≡ inside_layer layer like
inside_by all one layer like is alike =
    inside_is all one ∙ ap (λ (l : Json-F Json). inside_layer l (out-Json all)) is ∙ ap (inside_layer layer) alike

and_true : (b : Bool) → b ≡ true → (b && true) ≡ true
and_true b h = ap (λ (it : Bool). it && true) h

-- a field that is there, with its value inside
inside_field : (all one it : Json) (pairs : List (Pair Json)) (name : List ℕ) → out-Json all ≡ Json-F.Object pairs
    → value_at name pairs ≡ Some it → inside it one ≡ true → inside all (field name one) ≡ true
inside_field all one it pairs name is at here =
    inside_by all (field name one) (Json-F.Object (record { name = name; value = one } ∷ [])) (Json-F.Object pairs)
    (json.outs-Object (record { name = name; value = one } ∷ [])) is
    ∙ and_true (passes (λ (held : Json). inside held one) (value_at name pairs)) (ap (passes (λ (held : Json). inside held one)) at ∙ here)

-- an element that has it inside
inside_element : (all one : Json) (items : List Json) → out-Json all ≡ Json-F.Array items → list_any (λ item. inside item one) items ≡ true
    → inside all (element one) ≡ true
inside_element all one items is some =
    inside_by all (element one) (Json-F.Array (one ∷ [])) (Json-F.Array items) (json.outs-Array (one ∷ [])) is ∙ and_true _ some

-- ---- parts without digits

-- no part consists of digits alone
abbrev pub NoDigits : List (List ℕ) → Type 0
NoDigits [] = Unit {0}
NoDigits (part ∷ rest) = (all_ascii_digits part ≡ false) × NoDigits rest

no_index : (part : List ℕ) → all_ascii_digits part ≡ false → is_index part ≡ false
no_index [] none = refl
no_index (digit ∷ more) none = ap (λ (b : Bool). b && (not (nat_eq digit 48) || nat_eq (length more) 0)) none

no_item : (part : List ℕ) (items : List Value) → all_ascii_digits part ≡ false → item_at part items ≡ None
no_item part items none = ap (λ (b : Bool). if b then slice_get items (digits_value 10 part) else None) (no_index part none)

-- ---- shapes

module _ (layered : ByLayers) (wanted : Value) (plain : is_plain wanted ≡ true) (not_missing : is_null wanted ≡ true → ⊥) where
  -- a value that is the same is reached, or is an element of what is reached
  abbrev pub sought : List Reached → Bool
  sought values = list_any (one_of (is_equal wanted)) values

  -- it has a shape inside
  abbrev pub has_shape : List (List ℕ) → Value → Bool
  has_shape rest it = list_any (λ (one : Json). inside (plain_of it) one) (shapes rest (plain_of wanted))

  pub missing : sought (Missing ∷ []) ≡ true → ⊥
  missing found = or_cases (is_null wanted) false found not_missing (λ (none : false ≡ true). cc)

  element_within : (it : Value) (layer : Value-F Value) → out-Value it ≡ layer
      → list_any (λ (item : Value). is_same item wanted) (items_in layer) ≡ true → inside (plain_of it) (element (plain_of wanted)) ≡ true
  element_within it (Value-F.Arr items) is found =
      inside_element (plain_of it) (plain_of wanted) (map plain_of items) (out_items it items is)
      (any_made (λ (item : Value). is_same item wanted) (λ (item : Json). inside item (plain_of wanted)) plain_of
      (λ (item : Value) (same : is_same item wanted ≡ true). inside_same layered item wanted same plain) items found)
  element_within it layer is found = absurd cc

  here : (it : Value) → sought (Found it ∷ []) ≡ true → has_shape [] it ≡ true
  here it found =
      or_cases (one_of (is_equal wanted) (Found it)) false found
      (λ (one : one_of (is_equal wanted) (Found it) ≡ true).
      or_cases (is_same it wanted) (list_any (λ (item : Value). is_same item wanted) (items_in (out-Value it))) one
      (λ (same : is_same it wanted ≡ true). or-first _ _ (inside_same layered it wanted same plain))
      (λ (some : list_any (λ (item : Value). is_same item wanted) (items_in (out-Value it)) ≡ true).
      or-second (inside (plain_of it) (plain_of wanted)) _ (or-first _ _ (element_within it (out-Value it) refl some))))
      (λ (none : false ≡ true). absurd cc)

  -- what is reached behind the parts has one of the shapes inside
  abbrev pub Behind : List (List ℕ) → Type 0
  Behind rest = (it : Value) → is_sound it ≡ true → sought (reached rest it) ≡ true → has_shape rest it ≡ true

  -- a document has an object of one field inside
  field_shape : (part : List ℕ) (rest : List (List ℕ)) → Behind rest → (it : Value) (pairs : List (Pair Value))
      → out-Value it ≡ Value-F.Doc pairs → is_sound it ≡ true → (o : Option Value) → first_of part pairs ≡ o
      → sought (behind_field (reached rest) o) ≡ true
      → list_any (λ (one : Json). inside (plain_of it) (field part one)) (shapes rest (plain_of wanted)) ≡ true
  field_shape part rest behind it pairs is sound None at found = absurd (missing found)
  field_shape part rest behind it pairs is sound (Some inner) at found =
      let there = is_there part inner pairs (sound_fields it pairs is sound) at in
      any_weaker (λ (one : Json). inside (plain_of inner) one) (λ (one : Json). inside (plain_of it) (field part one))
      (λ (one : Json) (h : inside (plain_of inner) one ≡ true).
      inside_field (plain_of it) one (plain_of inner) (plains pairs) part (out_fields it pairs is) there.shown h)
      (shapes rest (plain_of wanted)) (behind inner there.sound found)

  item_shape : (part : List ℕ) (rest : List (List ℕ)) → Behind rest → (item : Value) → is_sound item ≡ true → (layer : Value-F Value)
      → out-Value item ≡ layer → sought (in_element part (reached rest) layer) ≡ true
      → list_any (λ (one : Json). inside (plain_of item) (field part one)) (shapes rest (plain_of wanted)) ≡ true
  item_shape part rest behind item sound (Value-F.Doc pairs) is found =
      field_shape part rest behind item pairs is sound (first_of part pairs) refl found
  item_shape part rest behind item sound layer is found = absurd cc

  -- and an array has an array of it inside
  items_shape : (part : List ℕ) (rest : List (List ℕ)) → Behind rest → (it : Value) (items : List Value) → out-Value it ≡ Value-F.Arr items
      → is_sound it ≡ true → sought (flat_map (λ (item : Value). in_element part (reached rest) (out-Value item)) items) ≡ true
      → list_any (λ (one : Json). inside (plain_of it) (element (field part one))) (shapes rest (plain_of wanted)) ≡ true
  items_shape part rest behind it items is sound found =
      let all = shapes rest (plain_of wanted) in
      let each : list_any (λ (item : Value). list_any (λ (one : Json). inside (plain_of item) (field part one)) all) items ≡ true =
      any_among is_sound (λ (item : Value). sought (in_element part (reached rest) (out-Value item)))
      (λ (item : Value). list_any (λ (one : Json). inside (plain_of item) (field part one)) all)
      (λ (item : Value) (s : is_sound item ≡ true) (h : sought (in_element part (reached rest) (out-Value item)) ≡ true).
      item_shape part rest behind item s (out-Value item) refl h)
      items (sound_items it items is sound)
      (sym (list_any-flat_map (one_of (is_equal wanted)) (λ (item : Value). in_element part (reached rest) (out-Value item)) items)
      ∙ found) in
      any_weaker (λ (one : Json). list_any (λ (item : Value). inside (plain_of item) (field part one)) items)
      (λ (one : Json). inside (plain_of it) (element (field part one)))
      (λ (one : Json) (h : list_any (λ (item : Value). inside (plain_of item) (field part one)) items ≡ true).
      inside_element (plain_of it) (field part one) (map plain_of items) (out_items it items is)
      (any-mapped (λ (item : Json). inside item (field part one)) plain_of items ∙ h))
      all (swap_any (λ (item : Value) (one : Json). inside (plain_of item) (field part one)) items all each)

  -- of the shapes behind one part more
  as_field : (part : List ℕ) (rest : List (List ℕ)) (it : Value)
      → list_any (λ (one : Json). inside (plain_of it) (field part one)) (shapes rest (plain_of wanted)) ≡ true
      → has_shape (part ∷ rest) it ≡ true
  as_field part rest it some =
      let test : Json → Bool = λ (one : Json). inside (plain_of it) one in
      let bare = map (field part) (shapes rest (plain_of wanted)) in
      list_any-append test bare (map element bare)
      ∙ or-first (list_any test bare) _ (any-mapped test (field part) (shapes rest (plain_of wanted)) ∙ some)

  as_element : (part : List ℕ) (rest : List (List ℕ)) (it : Value)
      → list_any (λ (one : Json). inside (plain_of it) (element (field part one))) (shapes rest (plain_of wanted)) ≡ true
      → has_shape (part ∷ rest) it ≡ true
  as_element part rest it some =
      let test : Json → Bool = λ (one : Json). inside (plain_of it) one in
      let bare = map (field part) (shapes rest (plain_of wanted)) in
      list_any-append test bare (map element bare)
      ∙ or-second (list_any test bare) _ (any-mapped test element bare
      ∙ any-mapped (λ (one : Json). test (element one)) (field part) (shapes rest (plain_of wanted)) ∙ some)

  in_layer : (part : List ℕ) (rest : List (List ℕ)) → all_ascii_digits part ≡ false → Behind rest → (it : Value) → is_sound it ≡ true
      → (layer : Value-F Value) → out-Value it ≡ layer → sought (in_value part (reached rest) layer) ≡ true
      → has_shape (part ∷ rest) it ≡ true
  in_layer part rest none behind it sound (Value-F.Doc pairs) is found =
      as_field part rest it (field_shape part rest behind it pairs is sound (first_of part pairs) refl found)
  in_layer part rest none behind it sound (Value-F.Arr items) is found =
      let inner = flat_map (λ (item : Value). in_element part (reached rest) (out-Value item)) items in
      as_element part rest it (items_shape part rest behind it items is sound
      (sym (ap (λ (o : Option Value). sought (behind_item (reached rest) o ++ inner)) (no_item part items none)) ∙ found))
  in_layer part rest none behind it sound layer is found = absurd (missing found)

  pub shaped : (rest : List (List ℕ)) → NoDigits rest → Behind rest
  shaped [] none it sound found = here it found
  shaped (part ∷ rest) none it sound found = in_layer part rest none.0 (shaped rest none.1) it sound (out-Value it) refl found
