-- The index, by the bytes of keys.
use Rattle.std.proofs.Common.{◌≡◌, ◌∙◌, ℕ, Bool, true, false, List, Option, refl, sym, subst}
use Rattle.std.specs.Prelude.{Vec, if◌then◌else◌}
use Rattle.std.specs.BTreeMap.{BTreeMap, UpdatesBy}
use Rattle.std.specs.Cmp.Lexicographic.{slice_cmp}
use Rattle.std.specs.Map.{KeepsOthers}
use Rattle.std.specs.Ordering.{nat_cmp, is_eq}
use Rattle.std.specs.Str.{bytes_eq}
use Rattle.std.specs.declared.alloc.Global.{Global}
use Rattle.std.proofs.lemmas.Cmp.{eq_by_cmp_equiv, nat_list_cmp_total, nat_list_eq_equiv}
use Rattle.std.proofs.lemmas.Map.Text.{is_eq-slice_cmp}
use Rattle.std.proofs.lemmas.Slice.Eq.{bytes_eq-Decides}
use Rattle.keyed_rows.specs.Index.{place_at}

abbrev Held : Type 0
Held = Vec ℕ Global

-- one key's bytes are told apart from those of another
apart : (key other held : List ℕ) → bytes_eq key other ≡ false → is_eq (slice_cmp nat_cmp key held) ≡ true
    → is_eq (slice_cmp nat_cmp other held) ≡ false
apart key other held differs same =
    is_eq-slice_cmp other held
    ∙ nat_list_eq_equiv.symm other held
    ∙ sym (nat_list_eq_equiv.congr key held other (sym (is_eq-slice_cmp key held) ∙ same))
    ∙ differs

-- what a change at the bytes of a key leaves at any bytes
pub updated : (bytes key : List ℕ) (old new : BTreeMap Held ℕ) (place : Option ℕ) → bytes ≡ key
    → UpdatesBy (λ (x y : Held). slice_cmp nat_cmp x.items y.items) (λ (held : Held). slice_cmp nat_cmp bytes held.items) old new place
    → (other : List ℕ) → place_at other new ≡ (if bytes_eq key other then place else place_at other old)
unfolding KeepsOthers
updated bytes key old new place is updates other =
    subst (λ (it : List ℕ). place_at other new ≡ (if bytes_eq it other then place else place_at other old)) is
    (cases (bytes_eq bytes other) refl)
  where
    cases : (here : Bool) → bytes_eq bytes other ≡ here → place_at other new ≡ (if here then place else place_at other old)
    cases true e = subst (λ it. place_at it new ≡ place) ((bytes_eq-Decides bytes other).0 e) updates.1
    cases false e =
        updates.3 (λ held. is_eq (slice_cmp nat_cmp other held.items))
        (λ x y. (eq_by_cmp_equiv nat_list_cmp_total).congr other x.items y.items)
        (λ held. apart bytes other held.items e)
