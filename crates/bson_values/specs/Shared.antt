-- How a counted reference that may be absent is stored: the parts of which formers of shared lists of named values are made.
use mathlib.Core.Path.{◌≡◌, refl}
use mathlib.Core.Logic.{◌⊎◌, inl, inr}
use mathlib.Core.List.{List, map}
use mathlib.Core.Former.{Former, this, const, pair, or, via}
use Rattle.std.specs.Prelude.{Option, None, Some}
use base.Stored.{gnil}
use base.Fml.{ftrue}
use denote.RattleType.{RattleType}
use denote.Memory.{part_of}
use denote.RawPtr.{Ptr}
use denote.Sharing.{nothing}
use denote.HoleLaws.{Alike}
use denote.HolePlaces.{enum_places, eachs, laid, one_value}
use Rattle.std.specs.declared.alloc.Global.{Global}
use Rattle.std.specs.contracts.alloc.Global as heap
use Rattle.std.specs.contracts.impls.GlobalAllocator.TheImpl.{ghosts}
use Rattle.std.specs.declared.sync.Arc.{Arc}
use Rattle.std.specs.contracts.sync.Arc as arc
use Rattle.std.specs.contracts.option.Option as option
use Rattle.bson_values.specs.declared.pairs.Pair.{Pair}
use Rattle.bson_values.specs.Named.{all_named, along}

-- what is shared: the address of its block, and the value
abbrev pub Shared : Type 0 → Type 0
Shared X = Arc X Global

-- a shared list of named values
abbrev pub shared : Former {0}
shared =
    via (pair (const Ptr) (all_named this)) (λ X. Shared (List (Pair X))) (λ X a. (a.ptr, a.value))
    (λ X v. record { ptr = v.0; value = v.1 }) (λ X a. refl) (λ X v. refl)

module _ {X : Type 0} where
  abbrev pub split : Option X → Unit {0} ⊎ X
  split None = inl tt
  split (Some it) = inr it

  abbrev pub join : Unit {0} ⊎ X → Option X
  join (inl u) = None
  join (inr it) = Some it

  pub join-split : (o : Option X) → join (split o) ≡ o
  join-split None = refl
  join-split (Some it) = refl

  pub split-join : (o : Unit {0} ⊎ X) → split (join o) ≡ o
  split-join (inl u) = refl
  split-join (inr it) = refl

-- there may be none
abbrev pub some_shared : Former {0}
some_shared =
    via (or (const (Unit {0})) shared) (λ X. Option (Shared (List (Pair X)))) (λ X. split) (λ X. join) (λ X. join-split) (λ X. split-join)

-- the same block, with another value
abbrev pub with_value : {X Y : Type 0} → Shared X → Y → Shared Y
with_value b y = record { ptr = b.ptr; value = y }

abbrev pub shared_along : {X Y : Type 0} → (X → Y) → Shared X → Shared Y
shared_along h it = with_value it (h it.value)

abbrev pub held_along : {X Y : Type 0} → (X → Y) → Option (Shared X) → Option (Shared Y)
held_along h None = None
held_along h (Some it) = Some (shared_along h it)

pub held_is : (X Y : Type 0) (h : X → Y) (o : Option (Shared (List (Pair X)))) → some_shared.map X Y h o ≡ held_along (map (along h)) o
held_is X Y h None = refl
held_is X Y h (Some it) = refl

abbrev pub arc_of : RattleType → RattleType
arc_of R = arc.the_row R heap.the_row ghosts

module _ (R S : RattleType) (h : R.Denot → S.Denot) where
  arc_places : Alike R S h → Alike (arc_of R) (arc_of S) (shared_along h)
  unfolding part_of
  arc_places a = record {
    mir_same = λ i. (arc_of (one_value R (a.mir_same i) (λ _. ftrue) (λ _ _. nothing) gnil)).mir;
    own_same = λ b i. (arc_of (one_value R (a.mir_same i) (a.own_same b.value i) (a.shr_same b.value i) gnil)).own_val (with_value b tt);
    shr_same = λ b i. (arc_of (one_value R (a.mir_same i) (a.own_same b.value i) (a.shr_same b.value i) gnil)).shr_at (with_value b tt);
  }

  variant : (o : Option (Shared R.Denot))
      → (option.enum (arc_of S)).as_values (held_along h o)
      ≡ eachs (option.enum (arc_of R)).parts (option.enum (arc_of S)).parts (tt, ((shared_along h, tt), tt))
      ((option.enum (arc_of R)).as_values o)
  variant None = refl
  variant (Some it) = refl

  -- it is stored alike where its value is
  pub held_places : Alike R S h → Alike (option.the_row (arc_of R)) (option.the_row (arc_of S)) (held_along h)
  held_places alike =
      enum_places (option.enum (arc_of R)) (option.enum (arc_of S)) (tt, ((shared_along h, tt), tt)) (held_along h) variant refl
      (tt, ((laid _ _ _ (arc_places alike), tt), tt))
