-- Items that a second test keeps, where a first one has kept all of them and more.
use Rattle.std.proofs.Common.{◌≡◌, ◌∙◌, Bool, true, false, cond, List, [], ◌∷◌, map, refl, sym, ap}
use Rattle.std.specs.Prelude.{All}
use Rattle.std.proofs.lemmas.List.Elements.{All-head, All-tail}
use Rattle.std.specs.List.{filter}
use Rattle.filter_syntax.specs.Meaning.{holds}
use Rattle.filter_syntax.specs.declared.filter.Filter.{Filter}
use Rattle.pushdown.specs.Law.{Kept, IsSound, is_selected, matching, selected, docs_of}

module _ {A B : Type 0} (known : A → Type 0) (first : A → Bool) (made : A → B) (second : B → Bool)
    (implied : (x : A) → known x → second (made x) ≡ true → first x ≡ true) where
  by_tests : (kept passes : Bool) (x : A) (rest all : List A) → (passes ≡ true → kept ≡ true) → second (made x) ≡ passes
      → filter second (map made rest) ≡ filter second (map made all)
      → filter second (map made (cond kept (x ∷ rest) rest)) ≡ filter second (made x ∷ map made all)
  by_tests true passes x rest all must is same = ap (λ (more : List B). cond (second (made x)) (made x ∷ more) more) same
  by_tests false true x rest all must is same = absurd (cc (must refl))
  by_tests false false x rest all must is same =
      same ∙ sym (ap (λ (b : Bool). cond b (made x ∷ filter second (map made all)) (filter second (map made all))) is)

  pub same_kept : (all : List A) → All known all → filter second (map made (filter first all)) ≡ filter second (map made all)
  same_kept [] known_all = refl
  same_kept (x ∷ all) known_all =
      by_tests (first x) (second (made x)) x (filter first all) all (implied x (All-head known x all known_all)) refl
      (same_kept all (All-tail known x all known_all))

pub found_anyway : ((kept : Kept) → IsSound kept → (it : Filter) → holds it kept.doc ≡ true → is_selected it kept ≡ true)
    → (all : List Kept) → All IsSound all → (it : Filter) → matching it (docs_of (selected it all)) ≡ matching it (docs_of all)
found_anyway implied all sound it =
    same_kept IsSound (is_selected it) (λ (kept : Kept). kept.doc) (holds it) (λ kept known. implied kept known it) all sound
