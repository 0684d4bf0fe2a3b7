-- A document is storable exactly where its measures, names and texts are right.
use Rattle.std.proofs.Common.{◌≡◌, ℕ, ◌+◌, Bool, true, false, not, ◌&&◌, ◌||◌, nat_lt, nat_le, List, [], ◌∷◌, ◌++◌, None, Some}
use Rattle.std.proofs.Common.{Result, Err, is_ok, is_none, map, refl, sym, ap, subst, ◌∙◌, arith, if◌then◌else◌}
use Rattle.std.proofs.lemmas.Grind.{common_steps}
use Rattle.std.specs.List.{list_all}
use Rattle.std.specs.Option.{option_or}
use Rattle.bson_values.specs.declared.pairs.Pair.{Pair}
use Rattle.bson_values.specs.declared.storing.Unstorable.{Unstorable}
use Rattle.bson_values.specs.declared.storing.Unstorable.TheVariants.{TooLarge, TooDeep, DuplicateKey, Dollar, Dot, Nul}
use Rattle.bson_values.specs.declared.value.Value.{Value, map-Value}
use Rattle.bson_values.specs.declared.value.Value.TheOpen.{Value-F}
use Rattle.bson_values.specs.declared.value.Value.TheVariants as value
use Rattle.bson_values.specs.declared.value.Value.TheFolds.{fold-roll-Value, ind-Value}
use Rattle.bson_values.specs.Measures.{size, depth}
use Rattle.bson_values.specs.Names.{names}
use Rattle.bson_values.specs.Storable.{MOST_BYTES, MOST_LEVELS, Wrong, Looked, begins, has, stands, settled, wrong_name, wrong_text}
use Rattle.bson_values.specs.Storable.{wrong_fields, wrong_items, look_in, looked, elements, first_wrong, storable}
use Rattle.bson_values.specs.Allowed.{is_allowed, are_allowed, sound_in, is_sound, can_be_stored}
use Rattle.bson_values.proofs.Looks.{look_pair}

-- ---- lists of what is wrong

-- nothing is wrong
abbrev clean : List Wrong → Bool
clean [] = true
clean (None ∷ more) = clean more
clean (Some wrong ∷ more) = false

-- nothing is wrong with a value and what is within it
abbrev right : Looked → Bool
right it = clean (it.own ∷ it.within)

clean-append : (one more : List Wrong) → clean (one ++ more) ≡ clean one && clean more
clean-append [] more = refl
clean-append (None ∷ one) more = clean-append one more
clean-append (Some wrong ∷ one) more = refl

-- no first wrong is found where nothing is wrong
none_found : (place : ℕ) (all : List Wrong) → is_ok (settled (first_wrong place all)) ≡ clean all
none_found place [] = refl
none_found place (None ∷ all) = none_found (place + 1) all
none_found place (Some wrong ∷ all) = refl

-- ---- names

by_tests : (stood dollar dot nul : Bool)
    → is_none (if stood then Some DuplicateKey else if dollar then Some Dollar else if dot then Some Dot
    else if nul then Some Nul else None) ≡ not stood && not (dollar || dot || nul)
by_tests true dollar dot nul = refl
by_tests false true dot nul = refl
by_tests false false true nul = refl
by_tests false false false true = refl
by_tests false false false false = refl

name_allowed : (before : List (List ℕ)) (name : List ℕ) → is_none (wrong_name before name) ≡ not (stands before name) && is_allowed name
unfolding wrong_name
name_allowed before name = by_tests (stands before name) (begins 36 name) (has 46 name) (has 0 name)

own_clean : (name own : Wrong) (within : List Wrong) → clean (option_or name own ∷ within) ≡ is_none name && clean (own ∷ within)
own_clean None own within = refl
own_clean (Some wrong) own within = refl

text_clean : (nul : Bool) → clean (wrong_text nul ∷ []) ≡ not nul
text_clean true = refl
text_clean false = refl

regroup : (a b c d e : Bool) → ((a && b) && c) && (d && e) ≡ (a && b && d) && (c && e)
regroup false b c d e = refl
regroup true false c d e = refl
regroup true true false false e = refl
regroup true true false true e = refl
regroup true true true d e = refl

-- ---- by layers

-- nothing is wrong with a value where it is sound
abbrev IsRight : Value → Type 0
IsRight it = right (looked it) ≡ is_sound it

abbrev Known : Type 0
Known = (it : Value) × IsRight it

abbrev value_of : Known → Value
value_of known = known.0

abbrev pair_of : Pair Known → Pair Value
pair_of pair = record { name = pair.name; value = pair.value.0 }

abbrev sounded : List (Pair Value) → List (Pair Bool)
sounded pairs = map (λ (pair : Pair Value). record { name = pair.name; value = is_sound pair.value }) pairs

fields_right : (before : List (List ℕ)) (pairs : List (Pair Known))
    → clean (wrong_fields before (map look_pair (map pair_of pairs)))
    ≡ are_allowed before (names (sounded (map pair_of pairs))) && list_all (λ (pair : Pair Bool). pair.value) (sounded (map pair_of pairs))
fields_right before [] = refl
fields_right before (pair ∷ pairs) =
    let it = looked pair.value.0 in
    let behind = before ++ pair.name ∷ [] in
    let more = wrong_fields behind (map look_pair (map pair_of pairs)) in
    let left = sounded (map pair_of pairs) in
    clean-append (option_or (wrong_name before pair.name) it.own ∷ it.within) more
    ∙ ap (λ one. one && clean more) (own_clean (wrong_name before pair.name) it.own it.within)
    ∙ ap (λ one. (one && right it) && clean more) (name_allowed before pair.name)
    ∙ ap (λ one. ((not (stands before pair.name) && is_allowed pair.name) && one) && clean more) pair.value.1
    ∙ ap (λ one. ((not (stands before pair.name) && is_allowed pair.name) && is_sound pair.value.0) && one) (fields_right behind pairs)
    ∙ regroup (not (stands before pair.name)) (is_allowed pair.name) (is_sound pair.value.0) (are_allowed behind (names left))
    (list_all (λ (p : Pair Bool). p.value) left)

items_right : (items : List Known)
    → clean (wrong_items (map looked (map value_of items))) ≡ list_all (λ is. is) (map is_sound (map value_of items))
items_right [] = refl
items_right (item ∷ items) =
    let it = looked item.0 in
    let more = wrong_items (map looked (map value_of items)) in
    clean-append (it.own ∷ it.within) more
    ∙ ap (λ one. one && clean more) item.1
    ∙ ap (λ one. is_sound item.0 && one) (items_right items)

abbrev Righter : Value-F Value → Type 0
Righter layer = right (look_in (map-Value Value Looked looked layer)) ≡ sound_in (map-Value Value Bool is_sound layer)

layer_right : (layer : Value-F Known) → Righter (map-Value Known Value value_of layer)
layer_right (Value-F.Doc pairs) = fields_right [] pairs
layer_right (Value-F.Arr items) = items_right items
layer_right (Value-F.Str text) = text_clean (has 0 text)
layer_right (Value-F.Bin it) = refl
layer_right (Value-F.Id id) = refl
layer_right (Value-F.Bool truth) = refl
layer_right (Value-F.Date moment) = refl
layer_right Value-F.Null = refl
layer_right (Value-F.Regex regex) = text_clean (has 0 regex.pattern || has 0 regex.options)
layer_right (Value-F.Int number) = refl
layer_right (Value-F.Stamp stamp) = refl
layer_right (Value-F.Long number) = refl

value_right : (it : Value) → IsRight it
value_right = ind-Value IsRight (λ layer known is.
    ap right (fold-roll-Value Looked look_in layer) ∙ subst Righter is (layer_right known) ∙ sym (fold-roll-Value Bool sound_in layer))

-- ---- the document

own_none : (doc : List (Pair Value)) → (looked (value.Doc doc)).own ≡ None
own_none doc =
    ap (λ (it : Value). (looked it).own) (sym (value.rolls-Doc doc))
    ∙ ap (λ (it : Looked). it.own) (fold-roll-Value Looked look_in (Value-F.Doc doc))

elements_right : (doc : List (Pair Value)) → clean (elements doc) ≡ is_sound (value.Doc doc)
elements_right doc = ap (λ own. clean (own ∷ elements doc)) (sym (own_none doc)) ∙ value_right (value.Doc doc)

at_most : (most n : ℕ) → not (nat_lt most n) ≡ nat_le n most
at_most most n = grind (arith, common_steps)

by_measures : (large deep : Bool) (found : Result (Unit {0}) Unstorable)
    → is_ok (if large then Err TooLarge else if deep then Err TooDeep else found) ≡ not large && not deep && is_ok found
by_measures true deep found = refl
by_measures false true found = refl
by_measures false false found = refl

pub storable_where : (doc : List (Pair Value)) → is_ok (storable doc) ≡ can_be_stored doc
unfolding storable
storable_where doc =
    by_measures (nat_lt MOST_BYTES (size doc)) (nat_lt MOST_LEVELS (depth doc)) (settled (first_wrong 0 (elements doc)))
    ∙ ap (λ found. not (nat_lt MOST_BYTES (size doc)) && not (nat_lt MOST_LEVELS (depth doc)) && found)
    (none_found 0 (elements doc) ∙ elements_right doc)
    ∙ ap (λ small. small && not (nat_lt MOST_LEVELS (depth doc)) && is_sound (value.Doc doc)) (at_most MOST_BYTES (size doc))
    ∙ ap (λ flat. nat_le (size doc) MOST_BYTES && flat && is_sound (value.Doc doc)) (at_most MOST_LEVELS (depth doc))
