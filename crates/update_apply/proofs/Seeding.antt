-- What a filter puts, variant by variant.
use Rattle.std.proofs.Common.{◌≡◌, List, [], ◌∷◌, map, refl, ap, ◌∙◌}
use Rattle.std.specs.Prelude.{Ok}
use Rattle.std_words.specs.Steps.{◌>>=◌}
use Rattle.filter_syntax.specs.Meaning.{Doc}
use Rattle.filter_syntax.specs.declared.filter.Filter.{Filter, out-Filter}
use Rattle.filter_syntax.specs.declared.filter.Filter.TheOpen.{Filter-F, Test-F}
use Rattle.filter_syntax.specs.declared.filter.Filter.TheFolds.{fold_out-Filter, fold_out-Test, map-Filter, map-Test}
use Rattle.filter_syntax.specs.declared.filter.Filter.TheVariants as filter
use Rattle.filter_syntax.specs.declared.filter.Test.{Test, out-Test}
use Rattle.update_apply.specs.Seeds.{Makes, MakesAt, all_made, each_seeded, equal_in, equal_put, seeded, seeded_in}
use Rattle.update_syntax.specs.Conflicts.{Parts}

-- an operator, with what those in it put
abbrev pub putting_test : Test-F Filter Test → Test-F Makes MakesAt
putting_test layer = map-Test Filter Test Makes MakesAt seeded equal_put layer

abbrev pub putting_filter : Filter-F Filter Test → Filter-F Makes MakesAt
putting_filter layer = map-Filter Filter Test Makes MakesAt seeded equal_put layer

pub equal_is : (it : Test) (path : Parts) (doc : Doc) → equal_put it path doc ≡ equal_in (putting_test (out-Test it)) path doc
equal_is it path doc = ap (λ (makes : MakesAt). makes path doc) (fold_out-Test Makes MakesAt seeded_in equal_in it)

by_layer : (it : Filter) (layer : Filter-F Filter Test) (doc : Doc) → out-Filter it ≡ layer
    → seeded it doc ≡ seeded_in (putting_filter layer) doc
by_layer it layer doc is =
    ap (λ (makes : Makes). makes doc) (fold_out-Filter Makes MakesAt seeded_in equal_in it)
    ∙ ap (λ (l : Filter-F Filter Test). seeded_in (putting_filter l) doc) is

each_is : (filters : List Filter) → all_made (map seeded filters) ≡ each_seeded filters
each_is [] = refl
each_is (one ∷ more) = λ i doc. seeded one doc >>= each_is more i

pub seeded_all : (filters : List Filter) (doc : Doc) → seeded (filter.All filters) doc ≡ each_seeded filters doc
seeded_all filters doc =
    by_layer (filter.All filters) _ doc (filter.outs-All filters) ∙ ap (λ (makes : Makes). makes doc) (each_is filters)

pub seeded_any : (filters : List Filter) (doc : Doc) → seeded (filter.AnyOf filters) doc ≡ Ok doc
seeded_any filters doc = by_layer (filter.AnyOf filters) _ doc (filter.outs-AnyOf filters)

pub seeded_none : (filters : List Filter) (doc : Doc) → seeded (filter.NoneOf filters) doc ≡ Ok doc
seeded_none filters doc = by_layer (filter.NoneOf filters) _ doc (filter.outs-NoneOf filters)

pub seeded_on : (path : Parts) (it : Test) (doc : Doc) → seeded (filter.On path it) doc ≡ equal_put it path doc
seeded_on path it doc = by_layer (filter.On path it) _ doc (filter.outs-On path it)

pub ruleset by_variant = (seeded_all, seeded_any, seeded_none, seeded_on)
