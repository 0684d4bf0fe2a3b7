-- How `Fields` store their values, so that a type may hold fields of itself.
use mathlib.Core.Path.{◌≡◌, refl, sym, ap, ◌∙◌}
use mathlib.Core.List.{List, [], map}
use mathlib.Core.Former.{Former, this, via, children}
use base.Stored.{coded_bool, Coded-set}
use denote.RattleType.{RattleType}
use denote.HoleLaws.{Alike}
use denote.HolePlaces.{Recodes, struct_places, laid}
use denote.Hole.Carrier.{listed}
use denote.Hole.Fix.{over}
use denote.Param.Weighed.{Weighed}
use denote.Model.Placed.{view_places}
use Rattle.bson_values.specs.formers.list.List as list_former
use Rattle.bson_values.specs.declared.pairs.Pair.{Pair}
use Rattle.bson_values.specs.contracts.pairs.Pair as pair_type
use Rattle.bson_values.specs.Named.{all_named, all_weighed, values_of, values_listed, along, names_along, pair_places, pairs_coded}
use Rattle.jsonb_contain.specs.Rising.{is_rising}
use Rattle.jsonb_contain.specs.declared.fields.Fields.TheInside.{Inside}
use Rattle.jsonb_contain.specs.declared.fields.Fields.TheView.{view, invariant}
use Rattle.jsonb_contain.specs.contracts.fields.Fields as type_of
use Rattle.jsonb_contain.specs.contracts.fields.Fields.TheInside as inside_of

-- what contracts see: the pairs, in order
abbrev pub the_former : Former {0} → Former {0}
the_former value = all_named value

abbrev pub the_weighed : {value : Former {0}} → Weighed value → Weighed (the_former value)
the_weighed weighed = all_weighed weighed

pub the_empty : List (Pair ⊥)
the_empty = []

abbrev pub the_items : (X : Type 0) → List (Pair X) → List X
the_items X pairs = values_of X pairs

pub the_items_listed : (X : Type 0) (pairs : List (Pair X)) → listed _ (children (the_former this) X pairs) ≡ the_items X pairs
the_items_listed X pairs = values_listed X pairs

-- the one field, a `List` of pairs
abbrev fields : Former {0}
fields = via (all_named this) Inside (λ X it. it.pairs) (λ X pairs. record { pairs = pairs }) (λ X it. refl) (λ X pairs. refl)

module _ (R S : RattleType) (h : R.Denot → S.Denot) where
  pub the_places : Alike R S h → Alike (type_of.the_row R) (type_of.the_row S) ((the_former this).map R.Denot S.Denot h)
  the_places alike =
      view_places fields (all_named this) view (λ X Y k u. refl) (λ X u. refl) R.Denot S.Denot h (type_of.the_row R).coded
      (type_of.the_row S).coded
      (invariant R.Denot) (invariant S.Denot) (λ u. Coded-set coded_bool _ _) (λ u. Coded-set coded_bool _ _)
      (λ u e. ap is_rising (names_along R.Denot S.Denot h u.pairs) ∙ e)
      (λ u e. ap is_rising (sym (names_along R.Denot S.Denot h u.pairs)) ∙ e)
      (over (inside_of.the_row R)) (over (inside_of.the_row S))
      (struct_places (inside_of.the_type R) (inside_of.the_type S) (map (along h), tt) _ (λ d. refl) refl
      (laid _ _ _ (list_former.the_places (pair_type.the_row R) (pair_type.the_row S) (along h) (pair_places R S h alike)), tt))

  pub the_codes_placed : Recodes R S h → Recodes (type_of.the_row R) (type_of.the_row S) ((the_former this).map R.Denot S.Denot h)
  the_codes_placed recodes pairs = pairs_coded R S h recodes pairs
