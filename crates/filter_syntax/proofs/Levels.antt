-- What a value reads as, one level at a time.
use Rattle.std.proofs.Common.{◌≡◌, Bool, false, List, [], ◌∷◌, map, refl, sym, ap, subst, ◌∙◌}
use Rattle.bson_values.specs.declared.pairs.Pair.{Pair}
use Rattle.bson_values.specs.declared.value.Value.{Value, map-Value}
use Rattle.bson_values.specs.declared.value.Value.TheViews.{out-Value, roll-Value}
use Rattle.bson_values.specs.declared.value.Value.TheOpen.{Value-F}
use Rattle.bson_values.specs.declared.value.Value.TheFolds.{fold_out-Value, fold-roll-Value, ind-Value}
use Rattle.std.specs.Prelude.{Ok, if◌then◌else◌}
use Rattle.bson_values.specs.declared.value.Value.TheVariants as value
use Rattle.filter_syntax.specs.declared.filter.Test.TheVariants as test
use Rattle.filter_syntax.specs.Operands.{first_name, has_dollar}
use Rattle.filter_syntax.specs.Operators.{Reads}
use Rattle.filter_syntax.specs.Reading.{filter_of, filters_of, tests_of, element_of, operand_of, pairs_tests, read_field, reads_in, reads}

-- a layer, with what the values in it read as
abbrev pub with_reads : Value-F Value → Value-F Reads
with_reads layer = map-Value Value Reads reads layer

-- ---- the value itself is kept

abbrev Kept : Value → Type 0
Kept it = (reads it).it ≡ it

abbrev Known : Type 0
Known = (it : Value) × ((reads it).it ≡ it)

abbrev bare : Known → Value
bare known = known.0

abbrev bare_pair : Pair Known → Pair Value
bare_pair pair = record { name = pair.name; value = pair.value.0 }

abbrev again : Value → Value
again it = (reads it).it

abbrev again_pair : Pair Value → Pair Value
again_pair pair = record { name = pair.name; value = (reads pair.value).it }

pairs_kept : (pairs : List (Pair Known)) → map again_pair (map bare_pair pairs) ≡ map bare_pair pairs
pairs_kept [] = refl
pairs_kept (pair ∷ pairs) =
    ap (λ (it : Value). record { name = pair.name; value = it } ∷ map again_pair (map bare_pair pairs)) pair.value.1
    ∙ ap (λ (more : List (Pair Value)). bare_pair pair ∷ more) (pairs_kept pairs)

items_kept : (items : List Known) → map again (map bare items) ≡ map bare items
items_kept [] = refl
items_kept (item ∷ items) =
    ap (λ (it : Value). it ∷ map again (map bare items)) item.1
    ∙ ap (λ (more : List Value). bare item ∷ more) (items_kept items)

-- a pair with what its value reads as, and back
abbrev read_pair : Pair Value → Pair Reads
read_pair pair = record { name = pair.name; value = reads pair.value }

abbrev it_of : Pair Reads → Pair Value
it_of pair = record { name = pair.name; value = pair.value.it }

map_map : {X Y Z : Type 0} (g : Y → Z) (f : X → Y) (xs : List X) → map g (map f xs) ≡ map (λ x. g (f x)) xs
map_map g f [] = refl
map_map g f (x ∷ xs) = ap (λ more. g (f x) ∷ more) (map_map g f xs)

abbrev Again : Value-F Value → Type 0
Again layer = map-Value Reads Value (λ one. one.it) (with_reads layer) ≡ layer

layer_again : (layer : Value-F Known) → Again (map-Value Known Value bare layer)
layer_again (Value-F.Doc pairs) = ap Value-F.Doc (map_map it_of read_pair (map bare_pair pairs) ∙ pairs_kept pairs)
layer_again (Value-F.Arr items) = ap Value-F.Arr (map_map (λ (one : Reads). one.it) reads (map bare items) ∙ items_kept items)
layer_again (Value-F.Str text) = refl
layer_again (Value-F.Bin it) = refl
layer_again (Value-F.Id id) = refl
layer_again (Value-F.Bool truth) = refl
layer_again (Value-F.Date moment) = refl
layer_again Value-F.Null = refl
layer_again (Value-F.Regex regex) = refl
layer_again (Value-F.Int number) = refl
layer_again (Value-F.Stamp stamp) = refl
layer_again (Value-F.Long number) = refl

pub kept : (it : Value) → (reads it).it ≡ it
kept = ind-Value Kept (λ layer known is.
    ap (λ (r : Reads). r.it) (fold-roll-Value Reads reads_in layer) ∙ ap roll-Value (subst Again is (layer_again known)))

-- ---- each part, by the layer

reads_is : (it : Value) → reads it ≡ reads_in (with_reads (out-Value it))
reads_is = fold_out-Value Reads reads_in

pub filter_is : (it : Value) → (reads it).filter ≡ filter_of (with_reads (out-Value it))
filter_is it = ap (λ (r : Reads). r.filter) (reads_is it)

pub filters_is : (it : Value) → (reads it).filters ≡ filters_of (with_reads (out-Value it))
filters_is it = ap (λ (r : Reads). r.filters) (reads_is it)

pub tests_is : (it : Value) → (reads it).tests ≡ tests_of (with_reads (out-Value it))
tests_is it = ap (λ (r : Reads). r.tests) (reads_is it)

pub element_is : (it : Value) → (reads it).element ≡ element_of (with_reads (out-Value it))
element_is it = ap (λ (r : Reads). r.element) (reads_is it)

it_is : (it : Value) → (reads_in (with_reads (out-Value it))).it ≡ it
it_is it = ap (λ (r : Reads). r.it) (sym (reads_is it)) ∙ kept it

pub operand_is : (it : Value) → (reads it).operand ≡ operand_of it (with_reads (out-Value it))
operand_is it = ap (λ (r : Reads). r.operand) (reads_is it) ∙ ap (λ (own : Value). operand_of own (with_reads (out-Value it))) (it_is it)

-- a document that is no set of operators is a value to be the same as
first_same : (doc : List (Pair Value)) → first_name (map read_field doc) ≡ first_name doc
first_same [] = refl
first_same (pair ∷ doc) = refl

pub equal_doc : (it : Value) (doc : List (Pair Value)) → it ≡ value.Doc doc → has_dollar (first_name doc) ≡ false
    → (reads it).operand ≡ Ok (test.Eq it ∷ [])
equal_doc it doc is none =
    operand_is it ∙ ap (λ (one : Value). operand_of it (with_reads (out-Value one))) is
    ∙ ap (λ (layer : Value-F Value). operand_of it (with_reads layer)) (value.outs-Doc doc)
    ∙ ap (λ (b : Bool). if b then pairs_tests (map read_field doc) else Ok (test.Eq it ∷ [])) (ap has_dollar (first_same doc) ∙ none)
