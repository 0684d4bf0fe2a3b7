-- How lists of named values are stored: the parts of which formers of such types are made.
use mathlib.Core.Path.{◌≡◌, refl, sym, ap}
use mathlib.Core.List.{List, [], ◌∷◌, map}
use mathlib.Core.Former.{Former, this, const, pair, list, via, children}
use Rattle.std.specs.Prelude.{ℕ}
use base.Stored.{Gv, code_l, code_map, gcons, coded_list, coded_ℕ}
use denote.RattleType.{RattleType}
use denote.HoleLaws.{Alike}
use denote.HolePlaces.{Recodes, struct_places, laid}
use denote.Hole.Carrier.{listed}
use denote.Param.Weighed.{Weighed, w_list, w_pair, w_const, w_via}
use Rattle.bson_values.specs.declared.pairs.Pair.{Pair}
use Rattle.bson_values.specs.contracts.pairs.Pair as pair_type
use Rattle.bson_values.specs.Names.{names}

-- one pair: a name, which holds no value, and a value
abbrev pub named : Former {0} → Former {0}
named value =
    via (pair (const (List ℕ)) value) (λ X. Pair (value.Of X)) (λ X p. (p.name, p.value)) (λ X v. record { name = v.0; value = v.1 })
    (λ X p. refl) (λ X v. refl)

-- the pairs, in order
abbrev pub all_named : Former {0} → Former {0}
all_named value = list (named value)

abbrev pub all_weighed : {value : Former {0}} → Weighed value → Weighed (all_named value)
all_weighed {value} weighed =
    w_list (w_via (w_pair (w_const (List ℕ)) weighed) (λ X. Pair (value.Of X)) (λ X p. (p.name, p.value))
    (λ X v. record { name = v.0; value = v.1 }) (λ X p. refl) (λ X v. refl))

-- the values, in order
abbrev pub values_of : (X : Type 0) → List (Pair X) → List X
values_of X [] = []
values_of X (p ∷ ps) = p.value ∷ values_of X ps

pub values_listed : (X : Type 0) (pairs : List (Pair X)) → listed _ (children (all_named this) X pairs) ≡ values_of X pairs
values_listed X [] = refl
values_listed X (p ∷ ps) = ap (λ l. p.value ∷ l) (values_listed X ps)

-- a pair with another value
abbrev pub along : {X Y : Type 0} → (X → Y) → Pair X → Pair Y
along h p = record { name = p.name; value = h p.value }

-- other values keep the names
pub names_along : (X Y : Type 0) (h : X → Y) (pairs : List (Pair X)) → names (map (along h) pairs) ≡ names pairs
names_along X Y h [] = refl
names_along X Y h (p ∷ ps) = ap (λ more. p.name ∷ more) (names_along X Y h ps)

-- a pair's code: that of the name, and that of the value
abbrev pub pair_code : (R : RattleType) → Pair R.Denot → Gv
pair_code R p = gcons ((coded_list coded_ℕ).code p.name) (R.coded.code p.value)

module _ (R S : RattleType) (h : R.Denot → S.Denot) where
  pub pair_places : Alike R S h → Alike (pair_type.the_row R) (pair_type.the_row S) (along h)
  pair_places alike =
      struct_places (pair_type.the_type R) (pair_type.the_type S) (λ n. n, (h, tt)) _ (λ d. refl) refl
      ((refl, (λ n. refl, λ n. refl)), (laid _ _ _ alike, tt))

  -- pairs are stored by the same code where their values are
  pub pairs_coded : Recodes R S h → (pairs : List (Pair R.Denot)) → code_l (pair_code S) (map (along h) pairs) ≡ code_l (pair_code R) pairs
  pairs_coded recodes pairs =
      sym (code_map (pair_code R) (pair_code S) (along h) (λ x i. gcons ((coded_list coded_ℕ).code x.name) (sym (recodes x.value) i)) pairs)
