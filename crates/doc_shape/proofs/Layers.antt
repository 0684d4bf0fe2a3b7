-- What is shown of a value, by its layer.
use Rattle.std.proofs.Common.{◌≡◌, ℕ, ◌≤◌, ◌<◌, Bool, true, false, ◌&&◌, not, cond, List, [], ◌∷◌, ◌++◌, map, length, nat_eq}
use Rattle.std.proofs.Common.{Some, refl, sym, ap, subst, ◌∙◌, arith}
use Rattle.std.specs.List.{flat_map}
use Rattle.bson_values.specs.declared.pairs.Pair.{Pair}
use Rattle.bson_values.specs.declared.value.Value.{Value, map-Value}
use Rattle.bson_values.specs.declared.value.Value.TheViews.{out-Value, roll-Value, roll-out-Value}
use Rattle.bson_values.specs.declared.value.Value.TheOpen.{Value-F}
use Rattle.bson_values.specs.declared.value.Value.TheFolds.{fold_out-Value, fold-roll-Value, ind-Value}
use Rattle.bson_values.specs.declared.value.Value.TheVariants as value
use Rattle.doc_shape.specs.Clashes.{Parts, rises}
use Rattle.doc_shape.specs.Cuts.{tails}
use Rattle.doc_shape.specs.Keys.{Doc}
use Rattle.doc_shape.specs.Shown.{Shown, field, is_id_name, nothing_hidden, show_layer, shown, shown_at}
use Rattle.doc_shape.specs.Shown.{shown_field, shown_in, shown_pair, shown_value, some_if, some_of}
use Rattle.doc_shape.specs.declared.shape.Shape.{Shape}
use Rattle.doc_shape.proofs.Cutting.{first_ends, none_ends}
use Rattle.doc_shape.proofs.Tails.{NotDoc, NotArr}

module _ (includes : Bool) where
  abbrev with_shown : Value-F Value → Value-F Shown
  with_shown layer = map-Value Value Shown (shown_value includes) layer

  -- ---- the value itself is kept

  abbrev Kept : Value → Type 0
  Kept it = (shown_value includes it).it ≡ it

  abbrev Known : Type 0
  Known = (it : Value) × ((shown_value includes it).it ≡ it)

  abbrev bare : Known → Value
  bare known = known.0

  abbrev bare_pair : Pair Known → Pair Value
  bare_pair pair = record { name = pair.name; value = pair.value.0 }

  abbrev again : Value → Value
  again it = (shown_value includes it).it

  abbrev again_pair : Pair Value → Pair Value
  again_pair pair = record { name = pair.name; value = (shown_value includes pair.value).it }

  pairs_kept : (pairs : List (Pair Known)) → map again_pair (map bare_pair pairs) ≡ map bare_pair pairs
  pairs_kept [] = refl
  pairs_kept (pair ∷ pairs) =
      ap (λ (it : Value). record { name = pair.name; value = it } ∷ map again_pair (map bare_pair pairs)) pair.value.1
      ∙ ap (λ (more : List (Pair Value)). bare_pair pair ∷ more) (pairs_kept pairs)

  items_kept : (items : List Known) → map again (map bare items) ≡ map bare items
  items_kept [] = refl
  items_kept (item ∷ items) =
      ap (λ (it : Value). it ∷ map again (map bare items)) item.1
      ∙ ap (λ (more : List Value). bare item ∷ more) (items_kept items)

  abbrev it_of : Pair Shown → Pair Value
  it_of pair = record { name = pair.name; value = pair.value.it }

  map_map : {X Y Z : Type 0} (g : Y → Z) (f : X → Y) (xs : List X) → map g (map f xs) ≡ map (λ x. g (f x)) xs
  map_map g f [] = refl
  map_map g f (x ∷ xs) = ap (λ more. g (f x) ∷ more) (map_map g f xs)

  abbrev Again : Value-F Value → Type 0
  Again layer = map-Value Shown Value (λ one. one.it) (with_shown layer) ≡ layer

  layer_again : (layer : Value-F Known) → Again (map-Value Known Value bare layer)
  layer_again (Value-F.Doc pairs) = ap Value-F.Doc (map_map it_of (field includes) (map bare_pair pairs) ∙ pairs_kept pairs)
  layer_again (Value-F.Arr items) = ap Value-F.Arr (map_map (λ (one : Shown). one.it) (shown_value includes) (map bare items)
      ∙ items_kept items)
  layer_again (Value-F.Str text) = refl
  layer_again (Value-F.Bin it) = refl
  layer_again (Value-F.Id id) = refl
  layer_again (Value-F.Bool truth) = refl
  layer_again (Value-F.Date moment) = refl
  layer_again Value-F.Null = refl
  layer_again (Value-F.Regex regex) = refl
  layer_again (Value-F.Int number) = refl
  layer_again (Value-F.Stamp stamp) = refl
  layer_again (Value-F.Long number) = refl

  pub kept : (it : Value) → (shown_value includes it).it ≡ it
  kept = ind-Value Kept (λ layer known is.
      ap (λ (r : Shown). r.it) (fold-roll-Value Shown (show_layer includes) layer) ∙ ap roll-Value (subst Again is (layer_again known)))

  -- ---- by the layer

  shown_is : (it : Value) → shown_value includes it ≡ show_layer includes (with_shown (out-Value it))
  shown_is = fold_out-Value Shown (show_layer includes)

  by_is : (it : Value) (paths : List Parts) → (shown_value includes it).by paths ≡ shown_in includes it (with_shown (out-Value it)) paths
  by_is it paths =
      ap (λ (r : Shown). r.by paths) (shown_is it)
      ∙ ap (λ own. shown_in includes own (with_shown (out-Value it)) paths) (ap (λ (r : Shown). r.it) (sym (shown_is it)) ∙ kept it)

  pub document_shown : (pairs : Doc) (paths : List Parts)
      → (shown_value includes (value.Doc pairs)).by paths ≡ Some (value.Doc (flat_map (shown_pair includes paths) (map
      (field includes) pairs)))
  document_shown pairs paths =
      by_is (value.Doc pairs) paths ∙ ap (λ layer. shown_in includes (value.Doc pairs) (with_shown layer) paths) (value.outs-Doc pairs)

  pub array_shown : (items : List Value) (paths : List Parts)
      → (shown_value includes (value.Arr items)).by paths
      ≡ Some (value.Arr (flat_map (λ one. some_of (one.by paths)) (map (shown_value includes) items)))
  array_shown items paths =
      by_is (value.Arr items) paths ∙ ap (λ layer. shown_in includes (value.Arr items) (with_shown layer) paths) (value.outs-Arr items)

  leaf : (it own : Value) (paths : List Parts) (layer : Value-F Value) → roll-Value layer ≡ it → NotDoc it → NotArr it
      → shown_in includes own (with_shown layer) paths ≡ some_if (not includes) own
  leaf it own paths (Value-F.Doc pairs) is no_doc no_arr = absurd (no_doc pairs (sym is ∙ value.rolls-Doc pairs))
  leaf it own paths (Value-F.Arr items) is no_doc no_arr = absurd (no_arr items (sym is ∙ value.rolls-Arr items))
  leaf it own paths layer is no_doc no_arr = refl

  pub scalar_shown : (it : Value) (paths : List Parts) → NotDoc it → NotArr it
      → (shown_value includes it).by paths ≡ some_if (not includes) it
  scalar_shown it paths no_doc no_arr = by_is it paths ∙ leaf it it paths (out-Value it) (roll-out-Value it) no_doc no_arr

  -- ---- a value to which paths lead

  pub none_lead : (depth : ℕ) (paths : List Parts) (it : Value) → length paths ≡ 0
      → shown_at includes (tails depth paths) (shown_value includes it) ≡ some_if (not includes) it
  none_lead depth [] it none = ap (some_if (not includes)) (kept it)
  none_lead depth (path ∷ paths) it none = absurd (omega (arith, none))

  pub one_ends : (depth : ℕ) (path : Parts) (paths : List Parts) (it : Value) → length path ≤ depth
      → shown_at includes (tails depth (path ∷ paths)) (shown_value includes it) ≡ some_if includes it
  one_ends depth path paths it low =
      ap (λ b. cond b (some_if includes (shown_value includes it).it) ((shown_value includes it).by (tails depth (path ∷ paths))))
      (first_ends depth path paths low)
      ∙ ap (some_if includes) (kept it)

  pub all_lead : (depth : ℕ) (path : Parts) (paths : List Parts) (it : Value) → depth < length path
      → rises (tails depth (path ∷ paths)) ≡ true
      → shown_at includes (tails depth (path ∷ paths)) (shown_value includes it) ≡ (shown_value includes it).by (tails depth (path ∷ paths))
  all_lead depth path paths it low up =
      ap (λ b. cond b (some_if includes (shown_value includes it).it) ((shown_value includes it).by (tails depth (path ∷ paths))))
      (none_ends depth path paths low up)

-- ---- where nothing is named

field_kept : (id : Bool) (pair : Pair Value)
    → cond (id && false) [] (cond (id && false) (pair ∷ []) (shown_pair false [] (field false pair))) ≡ pair ∷ []
field_kept true pair = ap (λ it. record { name = pair.name; value = it } ∷ []) (kept false pair.value)
field_kept false pair = ap (λ it. record { name = pair.name; value = it } ∷ []) (kept false pair.value)

all_kept : (doc : Doc) → flat_map (shown_field (record { includes = false; keeps_id = true; paths = [] })) doc ≡ doc
all_kept [] = refl
all_kept (pair ∷ doc) =
    ap (λ front. front ++ flat_map (shown_field (record { includes = false; keeps_id = true; paths = [] })) doc) (field_kept
    (is_id_name pair.name) pair)
    ∙ ap (λ more. pair ∷ more) (all_kept doc)

pub all_shown : (shape : Shape) (doc : Doc) → nothing_hidden shape ≡ true → doc ≡ shown shape doc
all_shown shape doc is = by shape.includes shape.keeps_id shape.paths refl refl refl
  where
    by : (a b : Bool) (ps : List Parts) → shape.includes ≡ a → shape.keeps_id ≡ b → shape.paths ≡ ps → doc ≡ shown shape doc
    by true b ps e f g = let no : nothing_hidden shape ≡ false = ap (λ a. not a && shape.keeps_id && nat_eq
        (length shape.paths) 0) e in absurd (cc)
    by false false ps e f g = let no : nothing_hidden shape ≡ false = ap (λ a. not a && shape.keeps_id && nat_eq
        (length shape.paths) 0) e ∙ ap (λ b. b && nat_eq (length shape.paths) 0) f in absurd (cc)
    by false true [] e f g = sym (ap (λ s. flat_map (shown_field s) doc) (λ i. record { includes = e i; keeps_id = f i; paths = g i })
        ∙ all_kept doc)
    by false true (path ∷ ps) e f g =
        let some : nat_eq (length shape.paths) 0 ≡ false = grind (arith, ap length g) in
        let no : nothing_hidden shape ≡ false = ap (λ a. not a && shape.keeps_id && nat_eq (length shape.paths) 0) e
        ∙ ap (λ b. b && nat_eq (length shape.paths) 0) f ∙ some in absurd (cc)

-- ---- where more is asked

uncut : (paths : List Parts) → tails 0 paths ≡ paths
uncut [] = refl
uncut (path ∷ paths) = ap (λ more. path ∷ more) (uncut paths)

pub field_leads : (shape : Shape) (pair : Pair Value) (paths : List Parts) → paths ≡ shape.paths
    → is_id_name pair.name && not shape.keeps_id ≡ false → is_id_name pair.name && shape.includes ≡ false
    → shown_pair shape.includes (tails 0 paths) (field shape.includes pair) ≡ shown_field shape pair
field_leads shape pair paths is kept part =
    ap (λ paths. shown_pair shape.includes paths (field shape.includes pair)) (uncut paths ∙ is)
    ∙ sym (ap (λ b. cond b [] (cond (is_id_name pair.name && shape.includes) (pair ∷ []) (shown_pair shape.includes shape.paths
    (field shape.includes pair)))) kept
    ∙ ap (λ b. cond b (pair ∷ []) (shown_pair shape.includes shape.paths (field shape.includes pair))) part)
