-- What a filter implies of a row: the condition that it pushes down.
use Rattle.std.proofs.Common.{◌≡◌, ◌∙◌, ℕ, Bool, true, false, not, nat_eq, ◌&&◌, ◌||◌, codes, List, [], ◌∷◌, map, Option, Some, None}
use Rattle.std.proofs.Common.{refl, sym, ap, subst}
use Rattle.std.specs.Prelude.{if◌then◌else◌, length, nat_lt, Ok}
use Rattle.std.specs.List.{list_any, list_all, flat_map}
use Rattle.std.specs.Str.{all_ascii_digits, bytes_eq}
use Rattle.std.proofs.lemmas.Bool.{not-true}
use Rattle.std.proofs.lemmas.Slice.Eq.{bytes_eq-Decides}
use Rattle.std.proofs.lemmas.List.Folds.{list_all-append}
use Rattle.std.proofs.lemmas.List.Concat.{flat_map-cons}
use Rattle.std_words.proofs.Tests.{and-both, or-first, or-second, or-not-first, or-not-second}
use Rattle.bson_order.specs.Order.{rank_in, is_same, Same}
use Rattle.bson_spelling.specs.Spelling.{key}
use Rattle.bson_values.specs.Allowed.{is_sound}
use Rattle.bson_values.specs.Names.{first_of}
use Rattle.bson_values.specs.Storable.{storable}
use Rattle.bson_values.specs.declared.value.Value.{Value}
use Rattle.bson_values.specs.declared.value.Value.TheOpen.{Value-F}
use Rattle.bson_values.specs.declared.value.Value.TheVariants as value
use Rattle.bson_values.specs.declared.value.Value.TheViews.{out-Value}
use Rattle.doc_paths.specs.Reach.{behind_field, in_value, reached, items_in}
use Rattle.doc_paths.specs.declared.reached.Reached.{Reached}
use Rattle.doc_paths.specs.declared.reached.Reached.TheVariants.{Missing, Found}
use Rattle.filter_match.proofs.Equations.{some_is}
use Rattle.filter_match.specs.Asking.{one_of}
use Rattle.filter_syntax.specs.Candidates.{is_array, is_equal}
use Rattle.filter_syntax.specs.Meaning.{Doc, some, some_among, test_in, filter_in, met_by, holds}
use Rattle.filter_syntax.specs.declared.filter.Filter.{Filter}
use Rattle.filter_syntax.specs.declared.filter.Filter.TheFolds.{fold-roll-Filter, fold-roll-Test, map-Filter, map-Test, ind-Filter}
use Rattle.filter_syntax.specs.declared.filter.Filter.TheOpen.{Filter-F, Test-F}
use Rattle.filter_syntax.specs.declared.filter.Filter.TheViews.{roll-Filter, roll-Test}
use Rattle.filter_syntax.specs.declared.filter.Test.{Test}
use Rattle.pushdown.proofs.Levels.{met_key, met_at, met_any, met_all}
use Rattle.jsonb_contain.specs.Containment.{passes, inside, has_element, contained, at_key, met}
use Rattle.jsonb_contain.specs.declared.cond.Cond.{Cond}
use Rattle.jsonb_contain.specs.declared.cond.Cond.TheVariants as cond_of
use Rattle.jsonb_contain.specs.declared.value.Json.{Json, out-Json}
use Rattle.jsonb_contain.specs.declared.value.Json.TheOpen.{Json-F}
use Rattle.typed_json.proofs.Again.{stored_parts}
use Rattle.typed_json.specs.Laws.{HasFields}
use Rattle.typed_json.specs.Plain.{plain_of}
use Rattle.typed_json.specs.Row.{row_of}
use Rattle.pushdown.specs.Law.{Kept, IsSound, is_selected}
use Rattle.pushdown.specs.Pushed.{is_plain_in, is_plain, is_pushed_path, shapes, term, pushed_by}
use Rattle.pushdown.specs.Pushed.{conjuncts_in, conjuncts, pushes, cond}
use Rattle.pushdown.proofs.Conjuncts.{AtPath, pushing, pushing_filter}
use Rattle.pushdown.proofs.Lists.{or_cases, both_hold, any_made}
use Rattle.pushdown.proofs.SameJson.{ByLayers, same_from, inside_same, element_same, out_items}
use Rattle.pushdown.proofs.Shapes.{NoDigits, missing, shaped}
use Rattle.pushdown.proofs.Sound.{is_there}

-- a plain value is not null
not_null : (layer : Value-F Value) → is_plain_in layer ≡ true → nat_eq (rank_in layer) 0 ≡ true → ⊥
not_null Value-F.Null plain null = cc
not_null layer plain null = cc

no_items : (layer : Value-F Value) → is_array layer ≡ false → items_in layer ≡ []
no_items (Value-F.Arr items) none = absurd cc
no_items layer none = refl

no_digits : (path : List (List ℕ)) → list_any all_ascii_digits path ≡ false → NoDigits path
no_digits [] none = tt
no_digits (part ∷ path) none = (
  or-not-first (all_ascii_digits part) _ none,
  no_digits path (or-not-second (all_ascii_digits part) (list_any all_ascii_digits path) none),
)

module _ (layered : ByLayers) (same_keys : (one other : Value) → Same one other → key one ≡ key other) (doc : Doc) (bytes : List ℕ)
    (row : Json) (id : Value) (sound : is_sound (value.Doc doc) ≡ true) (has_fields : HasFields row doc)
    (has_id : first_of (codes "_id") doc ≡ Some id) (single : items_in (out-Value id) ≡ []) (key_is : bytes ≡ key id) where
  abbrev all_met : List Cond → Bool
  all_met conds = list_all (λ (c : Cond). met c bytes row) conds

  -- ---- a path of one part

  -- the value of a field, or an element of it, is the one that is wanted
  abbrev Meets : Value → Value → Type 0
  Meets it wanted = (is_same it wanted || list_any (λ (item : Value). is_same item wanted) (items_in (out-Value it))) ≡ true

  by_key : (it wanted : Value) → first_of (codes "_id") doc ≡ Some it → Meets it wanted → bytes_eq bytes (key wanted) ≡ true
  by_key it wanted is meets =
      let both : Some id ≡ Some it = sym has_id ∙ is in
      let id_is : id ≡ it = cc both in
      let none : items_in (out-Value it) ≡ [] = ap (λ (v : Value). items_in (out-Value v)) (sym id_is) ∙ single in
      let alone : (is_same it wanted || false) ≡ true =
      ap (λ (items : List Value). is_same it wanted || list_any (λ (item : Value). is_same item wanted) items) (sym none) ∙ meets in
      or_cases (is_same it wanted) false alone
      (λ (same : is_same it wanted ≡ true).
      (bytes_eq-Decides bytes (key wanted)).1 (key_is ∙ ap key id_is ∙ same_keys it wanted (same_from it wanted same)))
      (λ (none : false ≡ true). absurd cc)

  in_items : (it wanted : Value) (layer : Value-F Value) → out-Value it ≡ layer → is_plain wanted ≡ true
      → list_any (λ (item : Value). is_same item wanted) (items_in layer) ≡ true
      → has_element (out-Json (plain_of it)) (out-Json (plain_of wanted)) ≡ true
  in_items it wanted (Value-F.Arr items) is plain found =
      ap (λ (layer : Json-F Json). has_element layer (out-Json (plain_of wanted))) (out_items it items is)
      ∙ element_same layered items wanted found plain
  in_items it wanted layer is plain found = absurd cc

  by_field : (name : List ℕ) (it wanted : Value) → first_of name doc ≡ Some it → is_plain wanted ≡ true → Meets it wanted
      → at_key name (plain_of wanted) (out-Json row) ≡ true
  by_field name it wanted is plain meets =
      ap (at_key name (plain_of wanted)) has_fields.is
      ∙ ap (passes (λ (one : Json). contained one (plain_of wanted))) (has_fields.at name it is)
      ∙ or_cases (is_same it wanted) (list_any (λ (item : Value). is_same item wanted) (items_in (out-Value it))) meets
      (λ (same : is_same it wanted ≡ true).
      or-first _ (has_element (out-Json (plain_of it)) (out-Json (plain_of wanted))) (inside_same layered it wanted same plain))
      (λ (found : list_any (λ (item : Value). is_same item wanted) (items_in (out-Value it)) ≡ true).
      or-second (inside (plain_of it) (plain_of wanted)) _ (in_items it wanted (out-Value it) refl plain found))

  by_name : (name : List ℕ) (it wanted : Value) (is_id : Bool) → bytes_eq name (codes "_id") ≡ is_id → first_of name doc ≡ Some it
      → is_plain wanted ≡ true → Meets it wanted
      → met (if is_id then cond_of.KeyIs (key wanted) else cond_of.AtKey name (plain_of wanted)) bytes row ≡ true
  by_name name it wanted true named is plain meets =
      met_key (key wanted) bytes row
      ∙ by_key it wanted (ap (λ (n : List ℕ). first_of n doc) (sym ((bytes_eq-Decides name (codes "_id")).0 named)) ∙ is) meets
  by_name name it wanted false named is plain meets = met_at name (plain_of wanted) bytes row ∙ by_field name it wanted is plain meets

  by_option : (name : List ℕ) (wanted : Value) (o : Option Value) → first_of name doc ≡ o → is_plain wanted ≡ true
      → some (is_equal wanted) (behind_field (reached []) o) ≡ true → met (term name [] wanted) bytes row ≡ true
  by_option name wanted None is plain held =
      absurd (missing layered wanted plain (not_null (out-Value wanted) plain) (sym (some_is (is_equal wanted) (Missing ∷ [])) ∙ held))
  by_option name wanted (Some it) is plain held =
      let one : (one_of (is_equal wanted) (Found it) || false) ≡ true = sym (some_is (is_equal wanted) (Found it ∷ [])) ∙ held in
      or_cases (one_of (is_equal wanted) (Found it)) false one
      (λ (meets : Meets it wanted). by_name name it wanted (bytes_eq name (codes "_id")) refl is plain meets)
      (λ (none : false ≡ true). absurd cc)

  -- ---- a path of several

  by_shape : (part : List ℕ) (rest : List (List ℕ)) (wanted : Value) → NoDigits rest → is_plain wanted ≡ true → (o : Option Value)
      → first_of part doc ≡ o → some (is_equal wanted) (behind_field (reached rest) o) ≡ true
      → list_any (λ (c : Cond). met c bytes row) (map (cond_of.AtKey part) (shapes rest (plain_of wanted))) ≡ true
  by_shape part rest wanted none plain None is held =
      absurd (missing layered wanted plain (not_null (out-Value wanted) plain) (sym (some_is (is_equal wanted) (Missing ∷ [])) ∙ held))
  by_shape part rest wanted none plain (Some it) is held =
      any_made (λ (one : Json). inside (plain_of it) one) (λ (c : Cond). met c bytes row) (cond_of.AtKey part)
      (λ (one : Json) (h : inside (plain_of it) one ≡ true).
      met_at part one bytes row ∙ ap (at_key part one) has_fields.is
      ∙ ap (passes (λ (all : Json). contained all one)) (has_fields.at part it is)
      ∙ or-first (inside (plain_of it) one) _ h)
      (shapes rest (plain_of wanted)) (shaped layered wanted plain (not_null (out-Value wanted) plain) rest none it
      (is_there part it doc sound is).sound (sym (some_is (is_equal wanted) (reached rest it)) ∙ held))

  -- ---- an equality, and `$in`

  -- what is reached from the document
  from_field : (part : List ℕ) (rest : List (List ℕ))
      → reached (part ∷ rest) (value.Doc doc) ≡ behind_field (reached rest) (first_of part doc)
  from_field part rest = ap (in_value part (reached rest)) (value.outs-Doc doc)

  by_term : (part : List ℕ) (rest : List (List ℕ)) (wanted : Value) → is_pushed_path part rest ≡ true → is_plain wanted ≡ true
      → some (is_equal wanted) (reached (part ∷ rest) (value.Doc doc)) ≡ true → met (term part rest wanted) bytes row ≡ true
  by_term part [] wanted within plain held =
      by_option part wanted (first_of part doc) refl plain (ap (some (is_equal wanted)) (sym (from_field part [])) ∙ held)
  by_term part (next ∷ rest) wanted within plain held =
      let few = and-both (nat_lt (length (next ∷ rest)) 3) _ within in
      let named = and-both (not (all_ascii_digits part)) _ few.1 in
      met_any (map (cond_of.AtKey part) (shapes (next ∷ rest) (plain_of wanted))) bytes row
      ∙ by_shape part (next ∷ rest) wanted (no_digits (next ∷ rest) (not-true _ named.1)) plain (first_of part doc) refl
      (ap (some (is_equal wanted)) (sym (from_field part (next ∷ rest))) ∙ held)

  by_in : (part : List ℕ) (rest : List (List ℕ)) (wanted : List Value) → is_pushed_path part rest ≡ true → list_all is_plain wanted ≡ true
      → some_among wanted (reached (part ∷ rest) (value.Doc doc)) ≡ true
      → list_any (λ (c : Cond). met c bytes row) (map (term part rest) wanted) ≡ true
  by_in part rest [] within plain held = held
  by_in part rest (one ∷ wanted) within plain held =
      let values = reached (part ∷ rest) (value.Doc doc) in
      let are = and-both (is_plain one) (list_all is_plain wanted) plain in
      or_cases (some (is_equal one) values) _ held
      (λ (here : some (is_equal one) values ≡ true). or-first _ _ (by_term part rest one within are.0 here))
      (λ (later : some_among wanted values ≡ true).
      or-second (met (term part rest one) bytes row) _ (by_in part rest wanted within are.1 later))

  -- ---- operators

  abbrev meant : Test-F Filter Test → Test-F (Doc → Bool) (List Reached → Bool)
  meant layer = map-Test Filter Test (Doc → Bool) (List Reached → Bool) holds met_by layer

  eq_if : (part : List ℕ) (rest : List (List ℕ)) (wanted : Value) (b : Bool) → (is_pushed_path part rest && is_plain wanted) ≡ b
      → some (is_equal wanted) (reached (part ∷ rest) (value.Doc doc)) ≡ true
      → all_met (if b then term part rest wanted ∷ [] else []) ≡ true
  eq_if part rest wanted true is held =
      let parts = and-both (is_pushed_path part rest) (is_plain wanted) is in
      both_hold _ true (by_term part rest wanted parts.0 parts.1 held) refl
  eq_if part rest wanted false is held = refl

  in_if : (part : List ℕ) (rest : List (List ℕ)) (wanted : List Value) (b : Bool)
      → (is_pushed_path part rest && list_all is_plain wanted) ≡ b
      → some_among wanted (reached (part ∷ rest) (value.Doc doc)) ≡ true
      → all_met (if b then cond_of.Any (map (term part rest) wanted) ∷ [] else []) ≡ true
  in_if part rest wanted true is held =
      let parts = and-both (is_pushed_path part rest) (list_all is_plain wanted) is in
      both_hold _ true (met_any (map (term part rest) wanted) bytes row ∙ by_in part rest wanted parts.0 parts.1 held) refl
  in_if part rest wanted false is held = refl

  nothing : (b : Bool) → all_met (if b then [] else []) ≡ true
  nothing true = refl
  nothing false = refl

  at_parts : (part : List ℕ) (rest : List (List ℕ)) (layer : Test-F Filter Test)
      → test_in (meant layer) (reached (part ∷ rest) (value.Doc doc)) ≡ true → all_met (pushed_by (pushing layer) (part ∷ rest)) ≡ true
  at_parts part rest (Test-F.Eq wanted) held = eq_if part rest wanted (is_pushed_path part rest && is_plain wanted) refl held
  at_parts part rest (Test-F.OneOf wanted) held = in_if part rest wanted (is_pushed_path part rest && list_all is_plain wanted) refl held
  at_parts part rest layer held = nothing (is_pushed_path part rest && false)

  at_path : (path : List (List ℕ)) (layer : Test-F Filter Test) → test_in (meant layer) (reached path (value.Doc doc)) ≡ true
      → all_met (pushed_by (pushing layer) path) ≡ true
  at_path [] layer held = refl
  at_path (part ∷ rest) layer held = at_parts part rest layer held

  -- ---- filters

  abbrev OfFilter : Filter → Type 0
  OfFilter filter = holds filter doc ≡ true → all_met (conjuncts filter) ≡ true

  abbrev OfTest : Test → Type 0
  OfTest test = (path : List (List ℕ)) → met_by test (reached path (value.Doc doc)) ≡ true → all_met (pushes test path) ≡ true

  of_test : (layer : Test-F Filter Test) → OfTest (roll-Test layer)
  of_test layer path held =
      let meant_is = fold-roll-Test (Doc → Bool) (List Reached → Bool) filter_in test_in layer in
      let pushing_is = fold-roll-Test (List Cond) AtPath conjuncts_in pushed_by layer in
      ap (λ (p : AtPath). all_met (p path)) pushing_is
      ∙ at_path path layer (ap (λ (m : List Reached → Bool). m (reached path (value.Doc doc))) (sym meant_is) ∙ held)

  abbrev KnownFilter : Type 0
  KnownFilter = (filter : Filter) × OfFilter filter

  abbrev KnownTest : Type 0
  KnownTest = (test : Test) × OfTest test

  abbrev bare : KnownFilter → Filter
  bare known = known.0

  abbrev bare_test : KnownTest → Test
  bare_test known = known.0

  abbrev meant_filter : Filter-F Filter Test → Filter-F (Doc → Bool) (List Reached → Bool)
  meant_filter layer = map-Filter Filter Test (Doc → Bool) (List Reached → Bool) holds met_by layer

  of_all : (filters : List KnownFilter) → list_all (λ (filter : Doc → Bool). filter doc) (map holds (map bare filters)) ≡ true
      → all_met (flat_map (λ (conds : List Cond). conds) (map conjuncts (map bare filters))) ≡ true
  of_all [] each = refl
  of_all (known ∷ filters) each =
      let rest = map conjuncts (map bare filters) in
      let parts = and-both (holds known.0 doc) (list_all (λ (filter : Doc → Bool). filter doc) (map holds (map bare filters))) each in
      ap all_met (flat_map-cons (λ (conds : List Cond). conds) (conjuncts known.0) rest)
      ∙ list_all-append (λ (c : Cond). met c bytes row) (conjuncts known.0) (flat_map (λ (conds : List Cond). conds) rest)
      ∙ both_hold _ _ (known.1 parts.0) (of_all filters parts.1)

  abbrev OfLayer : Filter-F Filter Test → Type 0
  OfLayer layer = filter_in (meant_filter layer) doc ≡ true → all_met (conjuncts_in (pushing_filter layer)) ≡ true

  of_layer : (layer : Filter-F KnownFilter KnownTest) → OfLayer (map-Filter KnownFilter KnownTest Filter Test bare bare_test layer)
  of_layer (Filter-F.All filters) each = of_all filters each
  of_layer (Filter-F.AnyOf filters) each = refl
  of_layer (Filter-F.NoneOf filters) each = refl
  of_layer (Filter-F.On path known) each = known.1 path each

  of_filter : (layer : Filter-F Filter Test) → OfLayer layer → OfFilter (roll-Filter layer)
  of_filter layer known each =
      let meant_is = fold-roll-Filter (Doc → Bool) (List Reached → Bool) filter_in test_in layer in
      let pushing_is = fold-roll-Filter (List Cond) AtPath conjuncts_in pushed_by layer in
      ap all_met pushing_is ∙ known (ap (λ (m : Doc → Bool). m doc) (sym meant_is) ∙ each)

  of_every : (filter : Filter) → OfFilter filter
  of_every =
      ind-Filter OfFilter OfTest (λ layer known is. of_filter layer (subst OfLayer is (of_layer known))) (λ layer known is. of_test layer)

  pub pushed : (filter : Filter) → holds filter doc ≡ true → met (cond filter) bytes row ≡ true
  pushed filter each = met_all (conjuncts filter) bytes row ∙ of_every filter each

-- ---- kept rows

-- each row has the plain JSON of its document's fields, as `typed_json` says
abbrev pub RowsHaveFields : Type 0
RowsHaveFields = (doc : Doc) → storable doc ≡ Ok tt → HasFields (row_of doc) doc

pub implied : ByLayers → ((one other : Value) → Same one other → key one ≡ key other) → RowsHaveFields
    → (kept : Kept) → IsSound kept → (filter : Filter) → holds filter kept.doc ≡ true → is_selected filter kept ≡ true
implied layered same_keys rows kept sound filter each =
    pushed layered same_keys kept.doc kept.key kept.row sound.id (stored_parts kept.doc sound.stored).0
    (subst (λ (row : Json). HasFields row kept.doc) (sym sound.row_is) (rows kept.doc sound.stored))
    sound.has_id (no_items (out-Value sound.id) sound.no_array) sound.key_is filter each
