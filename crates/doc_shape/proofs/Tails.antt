-- What the tails of a path reach, layer by layer.
use Rattle.std.proofs.Common.{◌≡◌, ℕ, zero, suc, ◌≤◌, ◌<◌, ◌+◌, Bool, true, false, ◌&&◌, ◌||◌, cond, List, [], ◌∷◌, ◌++◌, length, drop}
use Rattle.std.proofs.Common.{replicate}
use Rattle.std.proofs.Common.{Option, Some, None, nat_eq, nat_lt, slice_get, slice_index_or, slice_set, get_or-set_same}
use Rattle.std.proofs.Common.{get_or-set_other, ◌^◌, unwrap_or, refl, sym, ap, subst, ◌∙◌, arith}
use Rattle.std.proofs.lemmas.List.{drop_more, drop_all, append-nil}
use Rattle.std.proofs.lemmas.Grind.{flat_map-append}
use Rattle.std.proofs.lemmas.Slice.Eq.{bytes_eq-Decides}
use Rattle.std.specs.List.{flat_map, list_any}
use Rattle.std.specs.Str.{bytes_eq}
use Rattle.std.specs.Str.Parse.{digits_value}
use Rattle.bson_values.specs.Names.{first_of}
use Rattle.bson_values.specs.declared.pairs.Pair.{Pair}
use Rattle.bson_values.specs.declared.value.Value.{Value, out-Value}
use Rattle.bson_values.specs.declared.value.Value.TheViews.{roll-Value, roll-out-Value}
use Rattle.bson_values.specs.declared.value.Value.TheOpen.{Value-F}
use Rattle.bson_values.specs.declared.value.Value.TheVariants as value
use Rattle.doc_paths.specs.Reach.{is_index, item_at, reached, in_value, in_element, behind_item}
use Rattle.doc_paths.specs.declared.reached.Reached.{Reached}
use Rattle.doc_paths.specs.declared.reached.Reached.TheVariants.{Missing}
use Rattle.doc_shape.specs.Keys.{Doc, Way, key, keys_of, value_keys, first_key, sooner}
use Rattle.doc_shape.specs.Bests.{kept, best_at, is_unasked, told, told_behind, part_at, tells, told_where, told_here, is_doc}
use Rattle.doc_shape.specs.Bests.{told_in_docs, is_at, ArePlaces}
use Rattle.doc_shape.specs.declared.bests.Best.{Best}
use Rattle.doc_shape.specs.declared.bests.Best.TheVariants as best
use Rattle.doc_shape.proofs.Firsts.{sooner_none, sooner_grouped, first_joined}

at_part : (parts : List (List ℕ)) (k : ℕ) → k < length parts → drop k parts ≡ part_at parts k ∷ drop (suc k) parts
at_part parts k low =
    let e : k + 1 ≡ suc k = omega arith in
    subst (λ n. drop k parts ≡ part_at parts k ∷ drop n parts) e (drop_more parts k [] low)

abbrev first : Bool → List Reached → Option (Option Value)
first ascends all = first_key ascends (flat_map keys_of all)

first_both : (ascends : Bool) (one other : List Reached) → first ascends (one ++ other) ≡ sooner ascends (first ascends one)
    (first ascends other)
first_both ascends one other =
    ap (first_key ascends) (flat_map-append keys_of one other) ∙ first_joined ascends (flat_map keys_of one) (flat_map keys_of other)

-- ---- the whole path, and none of it

pub key_told : (way : Way) (doc : Doc) → key way doc ≡ unwrap_or (told way (value.Doc doc) 0) (Some value.Null)
unfolding told
key_told way doc = refl

pub own_told : (way : Way) (it : Value) (k : ℕ) → k ≡ length way.0 → told way it k ≡ first_key way.1 (value_keys it (out-Value it))
unfolding told
own_told way it k ends =
    ap (λ rest. first way.1 (reached rest it)) (drop_all k way.0 (omega (arith, ends)))
    ∙ ap (first_key way.1) (append-nil (value_keys it (out-Value it)))

-- ---- scalars

abbrev pub NotDoc : Value → Type 0
NotDoc it = (pairs : List (Pair Value)) → it ≡ value.Doc pairs → ⊥

abbrev pub NotArr : Value → Type 0
NotArr it = (items : List Value) → it ≡ value.Arr items → ⊥

nothing_within : (part : List ℕ) (go : Value → List Reached) (it : Value) (layer : Value-F Value) → roll-Value layer ≡ it → NotDoc it
    → NotArr it → in_value part go layer ≡ Missing ∷ []
nothing_within part go it (Value-F.Doc pairs) is no_doc no_arr = absurd (no_doc pairs (sym is ∙ value.rolls-Doc pairs))
nothing_within part go it (Value-F.Arr items) is no_doc no_arr = absurd (no_arr items (sym is ∙ value.rolls-Arr items))
nothing_within part go it layer is no_doc no_arr = refl

pub scalar_told : (way : Way) (it : Value) (k : ℕ) → k < length way.0 → NotDoc it → NotArr it → told way it k ≡ Some (Some value.Null)
unfolding told
scalar_told way it k low no_doc no_arr =
    ap (λ rest. first way.1 (reached rest it)) (at_part way.0 k low)
    ∙ ap (first way.1) (nothing_within (part_at way.0 k) (reached (drop (suc k) way.0)) it (out-Value it) (roll-out-Value it) no_doc no_arr)

-- ---- a document

pub field_told : (way : Way) (pairs : Doc) (k : ℕ) → k < length way.0
    → told way (value.Doc pairs) k ≡ told_behind way (first_of (part_at way.0 k) pairs) (suc k)
unfolding told told_behind
field_told way pairs k low = ap (λ rest. first way.1 (reached rest (value.Doc pairs))) (at_part way.0 k low)
    ∙ ap (λ layer. first way.1 (in_value (part_at way.0 k) (reached (drop (suc k) way.0)) layer)) (value.outs-Doc pairs)

pub behind_some : (way : Way) (it : Value) (k : ℕ) → told_behind way (Some it) k ≡ told way it k
unfolding told told_behind
behind_some way it k = refl

pub behind_none : (way : Way) (k : ℕ) → told_behind way None k ≡ Some (Some value.Null)
unfolding told_behind
behind_none way k = refl

-- ---- an array

none_where : (ascends : Bool) (test : ℕ → Bool) (find : Value → Option (Option Value)) (place : ℕ) (items : List Value)
    → ((j : ℕ) → place ≤ j → test j ≡ false) → told_where ascends test find place items ≡ None
none_where ascends test find place [] no_place = refl
none_where ascends test find place (item ∷ items) no_place =
    ap (λ b. sooner ascends (cond b (find item) None) (told_where ascends test find (suc place) items)) (no_place place (omega arith))
    ∙ none_where ascends test find (suc place) items (λ j h. no_place j (omega arith))

abbrev found_or_none : (Value → Option (Option Value)) → Option Value → Option (Option Value)
found_or_none find None = None
found_or_none find (Some it) = find it

one_where : (ascends : Bool) (test : ℕ → Bool) (find : Value → Option (Option Value)) (place more : ℕ) (items : List Value)
    → ((j : ℕ) → test j ≡ nat_eq (place + more) j) → told_where ascends test find place items ≡ found_or_none find (slice_get items more)
one_where ascends test find place more [] is = refl
one_where ascends test find place zero (item ∷ items) is =
    let here : test place ≡ true = is place ∙ grind arith in
    ap (λ b. sooner ascends (cond b (find item) None) (told_where ascends test find (suc place) items)) here
    ∙ ap (sooner ascends (find item)) (none_where ascends test find (suc place) items (λ j h. is j ∙ grind (arith, h)))
    ∙ sooner_none ascends (find item)
one_where ascends test find place (suc more) (item ∷ items) is =
    let here : test place ≡ false = is place ∙ grind arith in
    let e : place + suc more ≡ suc place + more = omega arith in
    ap (λ b. sooner ascends (cond b (find item) None) (told_where ascends test find (suc place) items)) here
    ∙ one_where ascends test find (suc place) more items (λ j. is j ∙ ap (λ n. nat_eq n j) e)

told_there : (way : Way) (k : ℕ) (it : Option Value)
    → found_or_none (λ item. told way item k) it ≡ first way.1 (behind_item (reached (drop k way.0)) it)
unfolding told
told_there way k None = refl
told_there way k (Some it) = refl

by_place : (way : Way) (k : ℕ) (items : List Value) (b : Bool) → is_index (part_at way.0 k) ≡ b
    → told_here way k 0 items ≡ first way.1 (behind_item (reached (drop (suc k) way.0)) (cond b (slice_get items (digits_value 10
    (part_at way.0 k))) None))
by_place way k items false no_place =
    none_where way.1 (tells (part_at way.0 k)) (λ item. told way item (suc k)) 0 items
    (λ j h. ap (λ b. b && nat_eq (digits_value 10 (part_at way.0 k)) j) no_place)
by_place way k items true is =
    one_where way.1 (tells (part_at way.0 k)) (λ item. told way item (suc k)) 0 (digits_value 10 (part_at way.0 k)) items
    (λ j. ap (λ b. b && nat_eq (digits_value 10 (part_at way.0 k)) j) is
    ∙ (let e : digits_value 10 (part_at way.0 k) ≡ 0 + digits_value 10 (part_at way.0 k) = omega arith in ap (λ n. nat_eq n j) e))
    ∙ told_there way (suc k) (slice_get items (digits_value 10 (part_at way.0 k)))

in_document : (way : Way) (k : ℕ) → k < length way.0 → (it : Value) (layer : Value-F Value) → out-Value it ≡ layer
    → first way.1 (in_element (part_at way.0 k) (reached (drop (suc k) way.0)) layer) ≡ cond (is_doc layer) (told way it k) None
unfolding told
in_document way k low it (Value-F.Doc pairs) is =
    sym (ap (λ rest. first way.1 (reached rest it)) (at_part way.0 k low)
    ∙ ap (λ layer. first way.1 (in_value (part_at way.0 k) (reached (drop (suc k) way.0)) layer)) is)
in_document way k low it layer is = refl

by_documents : (way : Way) (k : ℕ) → k < length way.0 → (items : List Value)
    → first way.1 (flat_map (λ item. in_element (part_at way.0 k) (reached (drop (suc k) way.0)) (out-Value item)) items)
    ≡ told_in_docs way k items
by_documents way k low [] = refl
by_documents way k low (item ∷ items) =
    let part = part_at way.0 k in
    let go = reached (drop (suc k) way.0) in
    first_both way.1 (in_element part go (out-Value item)) (flat_map (λ item. in_element part go (out-Value item)) items)
    ∙ ap (λ it. sooner way.1 it (first way.1 (flat_map (λ item. in_element part go (out-Value item)) items)))
    (in_document way k low item (out-Value item) refl)
    ∙ ap (sooner way.1 (cond (is_doc (out-Value item)) (told way item k) None)) (by_documents way k low items)

pub items_told : (way : Way) (items : List Value) (k : ℕ) → k < length way.0
    → told way (value.Arr items) k ≡ sooner way.1 (told_here way k 0 items) (told_in_docs way k items)
unfolding told
items_told way items k low =
    let part = part_at way.0 k in
    let go = reached (drop (suc k) way.0) in
    ap (λ rest. first way.1 (reached rest (value.Arr items))) (at_part way.0 k low)
    ∙ ap (λ layer. first way.1 (in_value part go layer)) (value.outs-Arr items)
    ∙ first_both way.1 (behind_item go (item_at part items)) (flat_map (λ item. in_element part go (out-Value item)) items)
    ∙ ap (λ it. sooner way.1 it (first way.1 (flat_map (λ item. in_element part go (out-Value item)) items))) (sym (by_place way k items
    (is_index part) refl))
    ∙ ap (sooner way.1 (told_here way k 0 items)) (by_documents way k low items)

-- ---- tables

filled : {X : Type 0} (n k : ℕ) (x d : X) → k < n → slice_index_or (replicate n x) k d ≡ x
filled zero k x d low = absurd (omega (arith, low))
filled (suc n) zero x d low = refl
filled (suc n) (suc k) x d low = filled n k x d (omega arith)

any_none : {X : Type 0} (p : X → Bool) (xs : List X) (k : ℕ) (d : X) → list_any p xs ≡ false → p d ≡ false
    → p (slice_index_or xs k d) ≡ false
any_none p [] k d none last = last
any_none p (x ∷ xs) zero d none last = first_of_or (p x) (list_any p xs) none
  where
    first_of_or : (a b : Bool) → a || b ≡ false → a ≡ false
    first_of_or true b e = absurd (cc)
    first_of_or false b e = refl
any_none p (x ∷ xs) (suc k) d none last = any_none p xs k d (rest (p x) (list_any p xs) none) last
  where
    rest : (a b : Bool) → a || b ≡ false → b ≡ false
    rest true b e = absurd (cc)
    rest false b e = e

pub all_so : (it : Best) (k : ℕ) → k ≤ 100 → kept (best_at (replicate 101 it) k) ≡ kept it
all_so it k low = ap kept (filled 101 k it best.Unasked (omega arith))

pub own_set : (way : Way) (it : Value) (beyond : List Best) (own : Best) (high k : ℕ) → length beyond ≡ 101 → high ≤ 100
    → high ≡ length way.0
    → kept own ≡ first_key way.1 (value_keys it (out-Value it)) → k ≤ high
    → kept (best_at (slice_set beyond high own) k) ≡ cond (nat_eq k (length way.0)) (told way it k) (kept (best_at beyond k))
own_set way it beyond own high k long low ends is below = by (nat_eq k (length way.0)) refl
  where
    by : (b : Bool) → nat_eq k (length way.0) ≡ b
        → kept (best_at (slice_set beyond high own) k) ≡ cond b (told way it k) (kept (best_at beyond k))
    by true e =
        let same : k ≡ length way.0 = grind (arith, e) in
        let at : k ≡ high = omega (arith, same, ends) in
        ap (λ n. kept (best_at (slice_set beyond high own) n)) at
        ∙ ap kept (get_or-set_same beyond high own best.Unasked (omega (arith, long, low))) ∙ is ∙ sym (own_told way it k same)
    by false e =
        let other : k < high = grind (arith, e, ends, below) in
        ap kept (get_or-set_other beyond high k own best.Unasked (omega (arith, other)))

-- ---- a document's fields, name by name

pub behind_there : (way : Way) (it : Option Value) (found : Value) (b : Best) (k : ℕ) → it ≡ Some found → kept b ≡ told way found k
    → kept b ≡ told_behind way it k
behind_there way it found b k is told_so = told_so ∙ sym (behind_some way found k) ∙ ap (λ it. told_behind way it k) (sym is)

pub behind_not : (way : Way) (it : Option Value) (k : ℕ) → it ≡ None → k ≤ 100
    → kept (best_at (replicate 101 best.Missing) k) ≡ told_behind way it k
behind_not way it k is low = all_so best.Missing k low ∙ sym (behind_none way k) ∙ ap (λ it. told_behind way it k) (sym is)

named_one : (way : Way) (doc : Doc) (all behind named : List Best) (name : List ℕ) (j : ℕ)
    → best_at named j ≡ cond (bytes_eq (part_at way.0 j) name) (best_at behind (suc j)) (best_at all j)
    → kept (best_at behind (suc j)) ≡ told_behind way (first_of name doc) (suc j) → j < length way.0
    → (bytes_eq (part_at way.0 j) name ≡ false → best_at named j ≡ best_at all j → kept (best_at all j) ≡ told way (value.Doc doc) j)
    → kept (best_at named j) ≡ told way (value.Doc doc) j
named_one way doc all behind named name j with_name is low other = by (bytes_eq (part_at way.0 j) name) refl
  where
    by : (b : Bool) → bytes_eq (part_at way.0 j) name ≡ b → kept (best_at named j) ≡ told way (value.Doc doc) j
    by true e =
        ap kept (with_name ∙ ap (λ b. cond b (best_at behind (suc j)) (best_at all j)) e) ∙ is
        ∙ ap (λ n. told_behind way (first_of n doc) (suc j)) (sym ((bytes_eq-Decides (part_at way.0 j) name).0 e))
        ∙ sym (field_told way doc j low)
    by false e =
        let same : best_at named j ≡ best_at all j = with_name ∙ ap (λ b. cond b (best_at behind (suc j)) (best_at all j)) e in
        ap kept same ∙ other e same

abbrev pub Asked : Way → Doc → ℕ → ℕ → List Best → Type 0
Asked way doc low end all =
    (j : ℕ) → low ≤ j → j < end → is_unasked (best_at all j) ≡ false → kept (best_at all j) ≡ told way (value.Doc doc) j

abbrev pub Told : Way → Doc → ℕ → ℕ → List Best → Type 0
Told way doc low end all = (j : ℕ) → low ≤ j → j < end → kept (best_at all j) ≡ told way (value.Doc doc) j

pub fields_step : (way : Way) (doc : Doc) (all behind named : List Best) (name : List ℕ) (low end k : ℕ)
    → ((j : ℕ) → j < length way.0 → best_at named j ≡ cond (bytes_eq (part_at way.0 j) name) (best_at behind (suc j)) (best_at all j))
    → ((j : ℕ) → low + 1 ≤ j → j ≤ end → kept (best_at behind j) ≡ told_behind way (first_of name doc) j)
    → part_at way.0 k ≡ name → k < end → end ≤ length way.0 → Asked way doc low end all → Told way doc low k all
    → Asked way doc low end named × Told way doc low (k + 1) named
fields_step way doc all behind named name low end k with_name is here below within asked before = (
  λ j from to unasked. one j from to (λ e same. asked j from to (ap is_unasked (sym same) ∙ unasked)),
  λ j from to. one j from (omega arith) (λ e same. earlier j from to e),
)
  where
    one : (j : ℕ) → low ≤ j → j < end
        → (bytes_eq (part_at way.0 j) name ≡ false → best_at named j ≡ best_at all j → kept (best_at all j) ≡ told way (value.Doc doc) j)
        → kept (best_at named j) ≡ told way (value.Doc doc) j
    one j from to other =
        named_one way doc all behind named name j (with_name j (omega arith)) (is (suc j) (omega arith) (omega arith)) (omega arith) other

    earlier : (j : ℕ) → low ≤ j → j < k + 1 → bytes_eq (part_at way.0 j) name ≡ false → kept (best_at all j) ≡ told way (value.Doc doc) j
    earlier j from to e = by (nat_lt j k) refl
      where
        by : (b : Bool) → nat_lt j k ≡ b → kept (best_at all j) ≡ told way (value.Doc doc) j
        by true f = before j from (grind (arith, f))
        by false f =
            let at : j ≡ k = grind (arith, f, to) in
            let yes : bytes_eq (part_at way.0 j) name ≡ true = (bytes_eq-Decides (part_at way.0 j) name).1 (ap (part_at way.0) at ∙ here) in
            absurd (cc)

pub fields_stay : (way : Way) (doc : Doc) (all : List Best) (low end k : ℕ) → is_unasked (best_at all k) ≡ false → low ≤ k → k < end
    → Asked way doc low end all → Told way doc low k all → Told way doc low (k + 1) all
fields_stay way doc all low end k was from to asked before j low_j below_j = by (nat_lt j k) refl
  where
    by : (b : Bool) → nat_lt j k ≡ b → kept (best_at all j) ≡ told way (value.Doc doc) j
    by true f = before j low_j (grind (arith, f))
    by false f =
        let at : k ≡ j = grind (arith, f, below_j) in
        subst (λ n. kept (best_at all n) ≡ told way (value.Doc doc) n) at (asked k from to was)

-- ---- an array's elements, one by one

pub here_is : (way : Way) (places : List (Option ℕ)) (from at : List Best) (item : Value) (place k : ℕ) → ArePlaces places way.0
    → k < length way.0 → place < 2 ^ 64
    → best_at at k ≡ cond (is_at (slice_index_or places k None) place) (best_at from (suc k)) best.Nothing
    → kept (best_at from (suc k)) ≡ told way item (suc k)
    → kept (best_at at k) ≡ cond (tells (part_at way.0 k) place) (told way item (suc k)) None
here_is way places from at item place k are low fits is told_so =
    ap kept is ∙ ap (λ b. kept (cond b (best_at from (suc k)) best.Nothing)) (are k low place fits) ∙ by (tells (part_at way.0 k) place)
  where
    by : (b : Bool) → kept (cond b (best_at from (suc k)) best.Nothing) ≡ cond b (told way item (suc k)) None
    by true = told_so
    by false = refl

pub below_is : (way : Way) (from : List Best) (item : Value) (k : ℕ) → k ≤ 100 → kept (best_at from k) ≡ told way item k
    → kept (best_at (cond (is_doc (out-Value item)) from (replicate 101 best.Nothing)) k) ≡ cond (is_doc (out-Value item))
    (told way item k) None
below_is way from item k low told_so = by (is_doc (out-Value item))
  where
    by : (b : Bool) → kept (best_at (cond b from (replicate 101 best.Nothing)) k) ≡ cond b (told way item k) None
    by true = told_so
    by false = all_so best.Nothing k low

-- what an element adds is told; of what is left one element is less
pub here_step : (way : Way) (items : List Value) (item : Value) (place k : ℕ) (old new all : Option (Option Value))
    → drop place items ≡ item ∷ drop (place + 1) items
    → new ≡ sooner way.1 old (cond (tells (part_at way.0 k) place) (told way item (suc k)) None)
    → sooner way.1 old (told_here way k place (drop place items)) ≡ all
    → sooner way.1 new (told_here way k (place + 1) (drop (place + 1) items)) ≡ all
here_step way items item place k old new all is adds before =
    let e : suc place ≡ place + 1 = omega arith in
    let added = cond (tells (part_at way.0 k) place) (told way item (suc k)) None in
    let rest = told_here way k (place + 1) (drop (place + 1) items) in
    ap (λ it. sooner way.1 it rest) adds ∙ sooner_grouped way.1 old added rest
    ∙ ap (λ n. sooner way.1 old (sooner way.1 added (told_here way k n (drop (place + 1) items)))) (sym e)
    ∙ ap (λ list. sooner way.1 old (told_here way k place list)) (sym is) ∙ before

pub below_step : (way : Way) (items : List Value) (item : Value) (place k : ℕ) (old new all : Option (Option Value))
    → drop place items ≡ item ∷ drop (place + 1) items
    → new ≡ sooner way.1 old (cond (is_doc (out-Value item)) (told way item k) None)
    → sooner way.1 old (told_in_docs way k (drop place items)) ≡ all → sooner way.1 new (told_in_docs way k (drop (place + 1) items)) ≡ all
below_step way items item place k old new all is adds before =
    let added = cond (is_doc (out-Value item)) (told way item k) None in
    let rest = told_in_docs way k (drop (place + 1) items) in
    ap (λ it. sooner way.1 it rest) adds ∙ sooner_grouped way.1 old added rest
    ∙ ap (λ list. sooner way.1 old (told_in_docs way k list)) (sym is) ∙ before

pub none_here : (way : Way) (places : List (Option ℕ)) (item : Value) (place k : ℕ) (old : Option (Option Value)) → ArePlaces places way.0
    → k < length way.0 → place < 2 ^ 64 → list_any (λ it. is_at it place) places ≡ false
    → old ≡ sooner way.1 old (cond (tells (part_at way.0 k) place) (told way item (suc k)) None)
none_here way places item place k old are low fits none =
    sym (ap (λ b. sooner way.1 old (cond b (told way item (suc k)) None))
    (sym (are k low place fits) ∙ any_none (λ it. is_at it place) places k None none refl) ∙ sooner_none way.1 old)

pub none_below : (way : Way) (item : Value) (k : ℕ) (old : Option (Option Value)) → is_doc (out-Value item) ≡ false
    → old ≡ sooner way.1 old (cond (is_doc (out-Value item)) (told way item k) None)
none_below way item k old no_doc = sym (ap (λ b. sooner way.1 old (cond b (told way item k) None)) no_doc ∙ sooner_none way.1 old)

pub all_unasked : (k : ℕ) → k ≤ 100 → is_unasked (best_at (replicate 101 best.Unasked) k) ≡ false → ⊥
all_unasked k low asked = let yes : is_unasked (best_at (replicate 101 best.Unasked) k) ≡ true = ap is_unasked
    (filled 101 k best.Unasked best.Unasked (omega arith)) in absurd (cc)

pub neither : (a b : Bool) → a || b ≡ false → (a ≡ false) × (b ≡ false)
neither true b e = absurd (cc)
neither false b e = (refl, e)
