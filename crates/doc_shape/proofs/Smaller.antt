-- What is shown of a document takes no more bytes than the document.
use Rattle.std.proofs.Common.{◌≡◌, ℕ, zero, suc, ◌+◌, ◌/◌, ◌%◌, ◌≤◌, ◌==◌, Bool, true, false, ◌&&◌, not, cond, eqb-true, eq-eqb}
use Rattle.std.proofs.Common.{List, [], ◌∷◌, ◌++◌, map, length, Option, Some, None, IfSome, refl, sym, ap, subst, arith}
use Rattle.std.specs.Fmt.{decimal, digits, digits_onto, digit_glyph}
use Rattle.std.specs.List.{flat_map}
use Rattle.bson_values.specs.Measures.{fields_size, items_size, value_size, size}
use Rattle.bson_values.specs.declared.pairs.Pair.{Pair}
use Rattle.bson_values.specs.declared.value.Value.{Value, map-Value}
use Rattle.bson_values.specs.declared.value.Value.TheViews.{roll-Value}
use Rattle.bson_values.specs.declared.value.Value.TheOpen.{Value-F}
use Rattle.bson_values.specs.declared.value.Value.TheFolds.{fold-roll-Value, ind-Value}
use Rattle.bson_values.specs.declared.value.Value.TheVariants as value
use Rattle.bson_values.proofs.Totals.{measured, size_items, size_fields}
use Rattle.doc_shape.specs.Clashes.{Parts}
use Rattle.doc_shape.specs.Keys.{Doc}
use Rattle.doc_shape.specs.Shown.{Shown, any_ends, behind, field, is_id_name, named, show_layer, shown, shown_at, shown_field}
use Rattle.doc_shape.specs.Shown.{shown_pair, shown_value, some_if, some_of}
use Rattle.doc_shape.specs.declared.shape.Shape.{Shape}
use Rattle.doc_shape.proofs.Layers.{kept, document_shown, array_shown}

-- ---- the text of a lower number is no longer

abbrev onto : ℕ → ℕ → List ℕ → List ℕ
onto k n acc = digits_onto k 10 false n acc

abbrev glyph : ℕ → ℕ
glyph n = digit_glyph false (n % 10)

either_longer : (b : Bool) (digit : ℕ) (acc more : List ℕ) → length (digit ∷ acc) ≤ length more
    → length acc ≤ length (cond b (digit ∷ acc) more)
either_longer true digit acc more long = omega arith
either_longer false digit acc more long = omega (arith, long)

onto_longer : (k n : ℕ) (acc : List ℕ) → length acc ≤ length (onto k n acc)
onto_longer zero n acc = omega arith
onto_longer (suc k) n acc =
    either_longer (n / 10 == 0) (glyph n) acc (onto k (n / 10) (glyph n ∷ acc)) (onto_longer k (n / 10) (glyph n ∷ acc))

either_grows : (b c : Bool) (one other one_more other_more : List ℕ) → (c ≡ true → b ≡ true) → length one ≤ length other
    → length other ≤ length other_more → length one_more ≤ length other_more
    → length (cond b one one_more) ≤ length (cond c other other_more)
either_grows true true one other one_more other_more ends low long more = low
either_grows true false one other one_more other_more ends low long more = omega (arith, low, long)
either_grows false true one other one_more other_more ends low long more = let e : false ≡ true = ends refl in absurd (cc)
either_grows false false one other one_more other_more ends low long more = more

last_too : (m n : ℕ) → m ≤ n → (n / 10 == 0) ≡ true → (m / 10 == 0) ≡ true
last_too m n low e = let none : n / 10 ≡ 0 = eqb-true (n / 10) 0 e in eq-eqb (m / 10) 0 (omega arith)

onto_grows : (k m n : ℕ) (one other : List ℕ) → m ≤ n → length one ≤ length other → length (onto k m one) ≤ length (onto k n other)
onto_grows zero m n one other low few = few
onto_grows (suc k) m n one other low few =
    either_grows (m / 10 == 0) (n / 10 == 0) (glyph m ∷ one) (glyph n ∷ other) (onto k (m / 10) (glyph m ∷ one))
    (onto k (n / 10) (glyph n ∷ other)) (last_too m n low) (omega (arith, few)) (onto_longer k (n / 10) (glyph n ∷ other))
    (onto_grows k (m / 10) (n / 10) (glyph m ∷ one) (glyph n ∷ other) (omega arith) (omega (arith, few)))

decimal_grows : (m n : ℕ) → m ≤ n → length (decimal m) ≤ length (decimal n)
unfolding digits
decimal_grows m n low = onto_grows 64 m n [] [] low (omega arith)

-- ---- fields and items, of which some are left out

abbrev NoLarger : Option Value → ℕ → Type 0
NoLarger it most = IfSome it (λ found. value_size found ≤ most)

abbrev fields : Doc → ℕ
fields doc = fields_size (measured value_size doc)

named_smaller : (name : List ℕ) (it : Option Value) (most more : ℕ) (rest : Doc) → NoLarger it most → fields rest ≤ more
    → fields (named name it ++ rest) ≤ length name + most + 2 + more
named_smaller name None most more rest small few = omega (arith, few)
named_smaller name (Some it) most more rest small few = omega (arith, small, few)

-- what stands behind an item that is left out moves up
item_smaller : (it : Option Value) (most more low high : ℕ) (rest : List Value) → low ≤ high → NoLarger it most
    → ((place : ℕ) → place ≤ high + 1 → items_size place (map value_size rest) ≤ more)
    → items_size low (map value_size (some_of it ++ rest)) ≤ length (decimal high) + most + 2 + more
item_smaller None most more low high rest up small few = omega (arith, few low (omega arith))
item_smaller (Some it) most more low high rest up small few =
    omega (arith, small, few (low + 1) (omega arith), decimal_grows low high up)

module _ (includes : Bool) where
  -- nothing that is shown of a value is larger than it
  abbrev Smaller : Value → Type 0
  Smaller it = (paths : List Parts) → NoLarger ((shown_value includes it).by paths) (value_size it)

  abbrev Known : Type 0
  Known = (it : Value) × Smaller it

  abbrev bare : Known → Value
  bare known = known.0

  abbrev bare_pair : Pair Known → Pair Value
  bare_pair pair = record { name = pair.name; value = pair.value.0 }

  whole : (b : Bool) (own it : Value) → own ≡ it → NoLarger (some_if b own) (value_size it)
  whole true own it is = omega (arith, ap value_size is)
  whole false own it is = tt

  lead : (paths : List Parts) (it : Value) → Smaller it → NoLarger (shown_at includes paths (shown_value includes it)) (value_size it)
  lead [] it small = whole (not includes) (shown_value includes it).it it (kept includes it)
  lead (path ∷ paths) it small = by (any_ends (path ∷ paths))
    where
      by : (b : Bool) → NoLarger (cond b (some_if includes (shown_value includes it).it) ((shown_value includes it).by (path ∷ paths)))
          (value_size it)
      by true = whole includes (shown_value includes it).it it (kept includes it)
      by false = small (path ∷ paths)

  fields_smaller : (paths : List Parts) (pairs : List (Pair Known))
      → fields (flat_map (shown_pair includes paths) (map (field includes) (map bare_pair pairs))) ≤ fields (map bare_pair pairs)
  fields_smaller paths [] = omega arith
  fields_smaller paths (pair ∷ pairs) =
      named_smaller pair.name (shown_at includes (behind pair.name paths) (shown_value includes pair.value.0))
      (value_size pair.value.0) (fields (map bare_pair pairs))
      (flat_map (shown_pair includes paths) (map (field includes) (map bare_pair pairs)))
      (lead (behind pair.name paths) pair.value.0 pair.value.1) (fields_smaller paths pairs)

  abbrev items_shown : List Parts → List Value → List Value
  items_shown paths items = flat_map (λ (one : Shown). some_of (one.by paths)) (map (shown_value includes) items)

  items_smaller : (paths : List Parts) (items : List Known) (low high : ℕ) → low ≤ high
      → items_size low (map value_size (items_shown paths (map bare items))) ≤ items_size high (map value_size (map bare items))
  items_smaller paths [] low high up = omega arith
  items_smaller paths (item ∷ items) low high up =
      item_smaller ((shown_value includes item.0).by paths) (value_size item.0) (items_size (high + 1) (map value_size (map bare items)))
      low high (items_shown paths (map bare items)) up (item.1 paths)
      (λ place near. items_smaller paths items place (high + 1) near)

  -- ---- layer by layer

  document_smaller : (pairs : List (Pair Known)) → Smaller (value.Doc (map bare_pair pairs))
  document_smaller pairs paths =
      let all = map bare_pair pairs in
      let some = flat_map (shown_pair includes paths) (map (field includes) all) in
      subst (λ it. NoLarger it (value_size (value.Doc all))) (sym (document_shown includes all paths)) (omega
      (arith, size_fields some, size_fields all, fields_smaller paths pairs))

  array_smaller : (items : List Known) → Smaller (value.Arr (map bare items))
  array_smaller items paths =
      let all = map bare items in
      subst (λ it. NoLarger it (value_size (value.Arr all))) (sym (array_shown includes all paths)) (omega
      (arith, size_items (items_shown paths all), size_items all, items_smaller paths items 0 0 (omega arith)))

  abbrev bare_layer : Value-F Known → Value-F Value
  bare_layer layer = map-Value Known Value bare layer

  layer_smaller : (layer : Value-F Known) → Smaller (roll-Value (bare_layer layer))
  layer_smaller (Value-F.Doc pairs) = subst Smaller (sym (value.rolls-Doc (map bare_pair pairs))) (document_smaller pairs)
  layer_smaller (Value-F.Arr items) = subst Smaller (sym (value.rolls-Arr (map bare items))) (array_smaller items)
  layer_smaller layer = λ paths. subst (λ it. NoLarger it (value_size (roll-Value (bare_layer layer))))
      (sym (ap (λ (one : Shown). one.by paths) (fold-roll-Value Shown (show_layer includes) (bare_layer layer))))
      (whole (not includes) (roll-Value (bare_layer layer)) (roll-Value (bare_layer layer)) refl)

  value_smaller : (it : Value) → Smaller it
  value_smaller = ind-Value Smaller (λ layer known is. subst (λ layer. Smaller (roll-Value layer)) is (layer_smaller known))

-- ---- the document itself

field_smaller : (shape : Shape) (pair : Pair Value) (more : ℕ) (rest : Doc) → fields rest ≤ more
    → fields (shown_field shape pair ++ rest) ≤ length pair.name + value_size pair.value + 2 + more
field_smaller shape pair more rest few = by (is_id_name pair.name && not shape.keeps_id) (is_id_name pair.name && shape.includes)
  where
    by : (b c : Bool) → fields (cond b [] (cond c (pair ∷ []) (shown_pair shape.includes shape.paths (field shape.includes pair))) ++ rest)
        ≤ length pair.name + value_size pair.value + 2 + more
    by true c = omega (arith, few)
    by false true = omega (arith, few)
    by false false =
        let own = shown_value shape.includes pair.value in
        named_smaller pair.name (shown_at shape.includes (behind pair.name shape.paths) own) (value_size pair.value) more rest
        (lead shape.includes (behind pair.name shape.paths) pair.value (value_smaller shape.includes pair.value)) few

fields_shown : (shape : Shape) (doc : Doc) → fields (shown shape doc) ≤ fields doc
fields_shown shape [] = omega arith
fields_shown shape (pair ∷ doc) = field_smaller shape pair (fields doc) (shown shape doc) (fields_shown shape doc)

pub shown-smaller : (shape : Shape) (doc : Doc) → size (shown shape doc) ≤ size doc
shown-smaller shape doc = omega (arith, size_fields (shown shape doc), size_fields doc, fields_shown shape doc)

pub ruleset sizes = (shown-smaller)
