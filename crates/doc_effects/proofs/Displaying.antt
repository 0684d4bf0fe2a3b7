-- As many documents as suffice show what all show.
use Rattle.std.proofs.Common.{◌≡◌, ◌≢◌, ◌≤◌, ◌<◌, ◌^◌, ◌+◌, ◌-◌, ◌==◌, min, nat_lt, zero, suc, slice_get, ℕ, Bool, true, false, List, [], ◌∷◌, ◌++◌, length, map, take, drop, nat_le}
use Rattle.std.proofs.Common.{Option, None, Some, refl, ap, sym, ◌∙◌, subst, arith}
use Rattle.std.specs.Prelude.{IfSome, if◌then◌else◌}
use Rattle.std.proofs.lemmas.Bool.{ne_eqb}
use Rattle.std.proofs.lemmas.Bool.Decides.{nat_tests}
use Rattle.std.proofs.lemmas.List.{drop-take, take-append-le}
use Rattle.bson_values.specs.Cut.{cut, further}
use Rattle.bson_values.specs.Measures.{size}
use Rattle.filter_syntax.specs.Meaning.{Doc}
use Rattle.doc_shape.specs.Shown.{nothing_hidden, shown}
use Rattle.doc_shape.specs.Sorted.{sorted}
use Rattle.doc_shape.specs.declared.shape.Shape.{Shape}
use Rattle.doc_shape.proofs.Layers.{all_shown}
use Rattle.doc_shape.proofs.Orders.{sorted_by_none}
use Rattle.doc_model.specs.Step.{cut_to, limited}
use Rattle.doc_effects.specs.Replies.{IsEnough, SufficeFor, are_enough, displayed}
use Rattle.doc_effects.specs.declared.aims.Show.{Show}

-- the first of some are the first of more
within : (most : ℕ) (docs more : List Doc) → nat_le most (length docs) ≡ true → take most docs ≡ take most (docs ++ more)
within most docs more e = sym (take-append-le most docs more (grind (arith, nat_tests, e)))

pub first_ones : (most : Option ℕ) (docs more all : List Doc) → are_enough most (length docs) ≡ true → docs ++ more ≡ all
    → IsEnough most all docs
first_ones None docs more all e is = absurd (cc e)
first_ones (Some most) docs more all e is = within most docs more e ∙ ap (take most) is

pub all_ones : (most : Option ℕ) (docs all : List Doc) → docs ≡ all → IsEnough most all docs
all_ones None docs all is = is
all_ones (Some most) docs all is = ap (take most) is

-- where the first that are skipped or shown are the same
limited_same : (skip limit : ℕ) (docs all : List Doc) → limit ≢ 0 → take (skip + limit) docs ≡ take (skip + limit) all
    → limited skip limit docs ≡ limited skip limit all
limited_same skip limit docs all some is =
    let test : (limit == 0) ≡ false = ne_eqb limit 0 some in
    rw test (sym (drop-take skip limit docs) ∙ ap (drop skip) is ∙ drop-take skip limit all)

pub enough_displayed : (show : Show) (most : Option ℕ) (docs all : List Doc) → IfSome most (SufficeFor show) → IsEnough most all docs
    → displayed show docs ≡ displayed show all
enough_displayed show None docs all suffice is = ap (displayed show) is
enough_displayed show (Some most) docs all suffice is =
    let same : limited show.skip show.limit docs ≡ limited show.skip show.limit all
    = limited_same show.skip show.limit docs all suffice.1 (subst (λ n. take n docs ≡ take n all) suffice.2 is) in
    ap (λ one. cut_to show.cut (map (shown show.shape) one))
    (sym (ap (limited show.skip show.limit) (sorted_by_none show.order docs suffice.0)) ∙ same
    ∙ ap (limited show.skip show.limit) (sorted_by_none show.order all suffice.0))

-- documents of which nothing is hidden are shown as they are
pub shown_whole : (shape : Shape) (docs : List Doc) → nothing_hidden shape ≡ true → docs ≡ map (shown shape) docs
shown_whole shape [] is = refl
shown_whole shape (doc ∷ docs) is = rw (← all_shown shape doc is) (ap (λ ds. doc ∷ ds) (shown_whole shape docs is))

-- a size that is told as 2^64 - 1, should it be more, is past the bytes of a batch either way
further_least : (bytes most : ℕ) (sizes : List ℕ) → further (min bytes (2 ^ 64 - 1)) sizes most ≡ further bytes sizes most
further_least bytes most [] = refl
further_least bytes zero (size ∷ sizes) = refl
further_least bytes (suc most) (size ∷ sizes) = cases (nat_le bytes (2 ^ 64 - 1)) refl
  where
    cases : (b : Bool) → nat_le bytes (2 ^ 64 - 1) ≡ b
        → further (min bytes (2 ^ 64 - 1)) (size ∷ sizes) (suc most) ≡ further bytes (size ∷ sizes) (suc most)
    cases true e =
        let low : bytes ≤ 2 ^ 64 - 1 = grind (arith, nat_tests, e) in
        let same : min bytes (2 ^ 64 - 1) ≡ bytes = omega (arith, low) in ap (λ b. further b (size ∷ sizes) (suc most)) same
    cases false e =
        let high : 2 ^ 64 - 1 < bytes = grind (arith, nat_tests, e) in
        let told : 16777216 < min bytes (2 ^ 64 - 1) + size = omega (arith, high) in
        let true_too : 16777216 < bytes + size = omega (arith, high) in
        let one : nat_lt 16777216 (min bytes (2 ^ 64 - 1) + size) ≡ true = grind (arith, nat_tests, told) in
        let other : nat_lt 16777216 (bytes + size) ≡ true = grind (arith, nat_tests, true_too) in rw (one, other) refl

-- a batch that has a first document
pub cut_begins : (docs : List Doc) (first : Doc) (bytes most n : ℕ) → Some first ≡ slice_get docs 0 → most ≢ 0
    → bytes ≡ min (size first) (2 ^ 64 - 1) → n ≡ further bytes (map size (drop 1 docs)) (most - 1) + 1 → n ≡ cut (map size docs) most
cut_begins [] first bytes most n at some long is = absurd (cc at)
cut_begins (doc ∷ docs) first bytes zero n at some long is = absurd (some refl)
cut_begins (doc ∷ docs) first bytes (suc most) n at some long is =
    let same : first ≡ doc = cc at in
    let less : suc most - 1 ≡ most = omega arith in
    is ∙ ap (λ k. further bytes (map size docs) k + 1) less ∙ ap (λ b. further b (map size docs) most + 1) long
    ∙ ap (λ (n : ℕ). n + 1) (further_least (size first) most (map size docs))
    ∙ ap (λ (d : Doc). further (size d) (map size docs) most + 1) same
