-- Beginnings of one list.
use Rattle.std.proofs.Common.{◌≡◌, ◌≤◌, ◌<◌, if◌then◌else◌, true, false, List, [], ◌∷◌, ◌++◌, length, refl, ap, sym, ◌∙◌, arith}
use Rattle.std.proofs.Common.{append_assoc, length-append}
use Rattle.std.specs.Prelude.{nat_lt}
use Rattle.std.proofs.lemmas.Bool.Decides.{nat_tests}
use mathlib.Core.List.{IsPrefix}
use Rattle.history_lock.specs.Steps.{longer, shorter}

module _ {A : Type 0} where
  -- a beginning of a beginning is one
  pub prefix-trans : (xs ys zs : List A) → IsPrefix xs ys → IsPrefix ys zs → IsPrefix xs zs
  prefix-trans xs ys zs p q = (p.0 ++ q.0, sym (append_assoc xs p.0 q.0) ∙ (ap (λ w. w ++ q.0) p.1 ∙ q.1))

  -- it stays one where the list grows
  pub prefix-grows : (xs ys more : List A) → IsPrefix xs ys → IsPrefix xs (ys ++ more)
  prefix-grows xs ys more p = prefix-trans xs ys (ys ++ more) p (more, refl)

  -- of two beginnings of one list the shorter begins the longer
  pub prefix-shorter : (xs ys zs : List A) → IsPrefix xs zs → IsPrefix ys zs → length xs ≤ length ys → IsPrefix xs ys
  prefix-shorter [] ys zs p q le = (ys, refl)
  prefix-shorter (x ∷ xs) [] zs p q le = absurd (omega arith)
  prefix-shorter (x ∷ xs) (y ∷ ys) [] p q le = absurd (cc (p.1))
  prefix-shorter (x ∷ xs) (y ∷ ys) (z ∷ zs) p q le =
      let heads : x ≡ y = cc (p.1, q.1) in
      let rest = prefix-shorter xs ys zs (p.0, cc (p.1)) (q.0, cc (q.1)) (omega arith) in
      (rest.0, cc (heads, rest.1))

  -- a beginning as long as the whole is the whole
  pub prefix-whole : (xs ys : List A) → IsPrefix xs ys → length ys ≤ length xs → xs ≡ ys
  prefix-whole [] [] p le = refl
  prefix-whole [] (y ∷ ys) p le = absurd (omega arith)
  prefix-whole (x ∷ xs) [] p le = absurd (cc (p.1))
  prefix-whole (x ∷ xs) (y ∷ ys) p le =
      let rest = prefix-whole xs ys (p.0, cc (p.1)) (omega arith) in cc (p.1, rest)

  -- a beginning is no longer than the whole
  pub prefix-length : (xs ys : List A) → IsPrefix xs ys → length xs ≤ length ys
  prefix-length xs ys p = omega (arith, sym (ap length p.1) ∙ length-append xs p.0)

  -- what holds of the longer and the shorter of two lists, in either case
  pub by-length : (P : List A → List A → Type 0) (xs ys : List A) → (length xs < length ys → P ys xs) → (length ys ≤ length xs → P xs ys)
      → P (longer xs ys) (shorter xs ys)
  by-length P xs ys less more = elim (nat_lt (length xs) (length ys)) as (λ b. nat_lt (length xs) (length ys) ≡ b
      → P (if◌then◌else◌ b ys xs) (if◌then◌else◌ b xs ys)) [
        | true ↦ λ e. less (grind (arith, nat_tests))
        | false ↦ λ e. more
            (grind (arith, nat_tests))
      ] refl
