-- What a filter pushes, variant by variant.
use Rattle.std.proofs.Common.{◌≡◌, ℕ, List, [], ap, ◌∙◌}
use Rattle.std.specs.List.{flat_map}
use Rattle.std.proofs.lemmas.List.Folds.{flat_map-map}
use Rattle.filter_syntax.specs.declared.filter.Filter.{Filter, out-Filter}
use Rattle.filter_syntax.specs.declared.filter.Filter.TheOpen.{Filter-F, Test-F}
use Rattle.filter_syntax.specs.declared.filter.Filter.TheFolds.{fold_out-Filter, fold_out-Test, map-Filter, map-Test}
use Rattle.filter_syntax.specs.declared.filter.Filter.TheVariants as filter
use Rattle.filter_syntax.specs.declared.filter.Test.{Test, out-Test}
use Rattle.jsonb_contain.specs.declared.cond.Cond.{Cond}
use Rattle.pushdown.specs.Pushed.{pushed_by, conjuncts_in, conjuncts, pushes}

-- the carriers of what is pushed
abbrev pub AtPath : Type 0
AtPath = List (List ℕ) → List Cond

-- an operator, with what those in it push
abbrev pub pushing : Test-F Filter Test → Test-F (List Cond) AtPath
pushing layer = map-Test Filter Test (List Cond) AtPath conjuncts pushes layer

abbrev pub pushing_filter : Filter-F Filter Test → Filter-F (List Cond) AtPath
pushing_filter layer = map-Filter Filter Test (List Cond) AtPath conjuncts pushes layer

pub pushes_is : (it : Test) (path : List (List ℕ)) → pushes it path ≡ pushed_by (pushing (out-Test it)) path
pushes_is it path = ap (λ (p : AtPath). p path) (fold_out-Test (List Cond) AtPath conjuncts_in pushed_by it)

by_layer : (it : Filter) (layer : Filter-F Filter Test) → out-Filter it ≡ layer → conjuncts it ≡ conjuncts_in (pushing_filter layer)
by_layer it layer is =
    fold_out-Filter (List Cond) AtPath conjuncts_in pushed_by it ∙ ap (λ (l : Filter-F Filter Test). conjuncts_in (pushing_filter l)) is

pub conjuncts_all : (filters : List Filter) → conjuncts (filter.All filters) ≡ flat_map conjuncts filters
conjuncts_all filters =
    by_layer (filter.All filters) _ (filter.outs-All filters) ∙ flat_map-map (λ (conds : List Cond). conds) conjuncts filters

pub conjuncts_any : (filters : List Filter) → conjuncts (filter.AnyOf filters) ≡ []
conjuncts_any filters = by_layer (filter.AnyOf filters) _ (filter.outs-AnyOf filters)

pub conjuncts_none : (filters : List Filter) → conjuncts (filter.NoneOf filters) ≡ []
conjuncts_none filters = by_layer (filter.NoneOf filters) _ (filter.outs-NoneOf filters)

pub conjuncts_on : (path : List (List ℕ)) (it : Test) → conjuncts (filter.On path it) ≡ pushes it path
conjuncts_on path it = by_layer (filter.On path it) _ (filter.outs-On path it)

pub ruleset by_variant = (conjuncts_all, conjuncts_any, conjuncts_none, conjuncts_on)
