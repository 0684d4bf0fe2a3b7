-- Of keys the first, in two parts and in any grouping.
use Rattle.std.proofs.Common.{◌≡◌, Bool, true, false, cond, List, [], ◌∷◌, ◌++◌, Option, Some, None, refl, sym, ap, ◌∙◌}
use Rattle.std.specs.Ordering.{is_lt}
use Rattle.std.specs.Option.{is_none}
use Rattle.std.specs.Cmp.{IsTotalOrder, IsStrictWeakOrder}
use Rattle.std.specs.Cmp.Lexicographic.{options_total}
use Rattle.std.proofs.lemmas.Cmp.{back_total}
use Rattle.std.proofs.lemmas.List.Sorted.{ranks_by}
use Rattle.bson_values.specs.declared.value.Value.{Value}
use Rattle.bson_order.proofs.Total.{compared_total}
use Rattle.doc_shape.specs.Keys.{key_cmp, sooner, first_key}
use Rattle.doc_shape.specs.Bests.{kept, key_kept}
use Rattle.doc_shape.specs.declared.bests.Best.{Best}
use Rattle.doc_shape.specs.declared.bests.Best.TheVariants.{Unasked, Nothing, Missing, Empty, At}

abbrev Key : Type 0
Key = Option Value

pub key_total : (ascends : Bool) → IsTotalOrder (key_cmp ascends)
key_total true = options_total compared_total
key_total false = back_total (options_total compared_total)

abbrev pub before : Bool → Key → Key → Bool
before ascends one other = is_lt (key_cmp ascends one other)

pub before_ranks : (ascends : Bool) → IsStrictWeakOrder (before ascends)
before_ranks ascends = ranks_by (key_total ascends) (λ (key : Key). key)

-- ---- two kept keys

there : (best : Best) → is_none (kept best) ≡ false → kept best ≡ Some (key_kept best)
there Unasked h = absurd (cc)
there Nothing h = absurd (cc)
there Missing h = refl
there Empty h = refl
there (At it) h = refl

pub of_two : (ascends : Bool) (one other : Best) → is_none (kept one) ≡ false → is_none (kept other) ≡ false
    → sooner ascends (kept one) (kept other) ≡ Some (cond (before ascends (key_kept other) (key_kept one)) (key_kept other) (key_kept one))
of_two ascends one other h g = ap (λ key. sooner ascends key (kept other)) (there one h)
    ∙ ap (sooner ascends (Some (key_kept one))) (there other g)

-- ---- any grouping

pub sooner_none : (ascends : Bool) (one : Option Key) → sooner ascends one None ≡ one
sooner_none ascends None = refl
sooner_none ascends (Some one) = refl

grouped : (ascends : Bool) (x y z : Key) (c d e : Bool) → before ascends y x ≡ c → before ascends z y ≡ d → before ascends z x ≡ e
    → sooner ascends (Some (cond c y x)) (Some z) ≡ sooner ascends (Some x) (Some (cond d z y))
grouped ascends x y z true true true c d e = ap (λ b. Some (cond b z y)) d ∙ ap (λ b. Some (cond b z x)) (sym e)
grouped ascends x y z true true false c d e =
    let o = before_ranks ascends in
    let back : before ascends x y ≡ false = o.one_way y x c in
    let not : before ascends z y ≡ false = o.chain z x y e back in
    absurd (cc)
grouped ascends x y z true false e c d f = ap (λ b. Some (cond b z y)) d ∙ ap (λ b. Some (cond b y x)) (sym c)
grouped ascends x y z false true e c d f = refl
grouped ascends x y z false false e c d f =
    let o = before_ranks ascends in
    let not : before ascends z x ≡ false = o.chain z y x d c in
    ap (λ b. Some (cond b z x)) not ∙ ap (λ b. Some (cond b y x)) (sym c)

pub sooner_grouped : (ascends : Bool) (x y z : Option Key) → sooner ascends (sooner ascends x y) z ≡ sooner ascends x (sooner ascends y z)
sooner_grouped ascends None y z = refl
sooner_grouped ascends (Some x) None z = refl
sooner_grouped ascends (Some x) (Some y) None = refl
sooner_grouped ascends (Some x) (Some y) (Some z) =
    grouped ascends x y z (before ascends y x) (before ascends z y) (before ascends z x) refl refl refl

pub first_joined : (ascends : Bool) (xs ys : List Key) → first_key ascends (xs ++ ys) ≡ sooner ascends (first_key ascends xs)
    (first_key ascends ys)
first_joined ascends [] ys = refl
first_joined ascends (x ∷ xs) ys = ap (sooner ascends (Some x)) (first_joined ascends xs ys)
    ∙ sym (sooner_grouped ascends (Some x) (first_key ascends xs) (first_key ascends ys))
