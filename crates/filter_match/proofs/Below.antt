-- Sets of tails: numbers below a bound that pass a test, and what is read of a path's parts.
use Rattle.std.proofs.Common.{◌≡◌, ℕ, zero, suc, ◌<◌, ◌^◌, Bool, true, false, ◌&&◌, ◌||◌, List, [], ◌∷◌}
use Rattle.std.proofs.Common.{replicate, get_or, nat_eq, refl, ap, ◌∙◌}
use Rattle.std.proofs.Common.{arith}
use Rattle.std.specs.declared.result.Result.TheVariants.{Err}
use Rattle.std.specs.Str.{all_ascii_digits}
use Rattle.std.specs.Str.Parse.{digits_value, ParsesUnsigned}
use Rattle.std.proofs.lemmas.Str.Parse.{IsNumeralModel, numerals_by_value, tells_all_ascii_digits, parse_digits}
use Rattle.doc_paths.specs.Reach.{is_index}
use Rattle.filter_match.specs.Tails.{is_open, any_below, tells}

-- ---- marks

false_at : (n k : ℕ) → get_or (replicate n false) k false ≡ false
false_at zero k = refl
false_at (suc n) zero = refl
false_at (suc n) (suc k) = false_at n k

pub first_alone : (n k : ℕ) → is_open (true ∷ replicate n false) k ≡ nat_eq k 0
first_alone n zero = refl
first_alone n (suc k) = false_at n k ∙ grind arith

-- ---- numbers below a bound

pub below_same : (n : ℕ) (p q : ℕ → Bool) → ((k : ℕ) → k < n → p k ≡ q k) → any_below n p ≡ any_below n q
below_same zero p q same = refl
below_same (suc n) p q same = ap (λ b. b || p n) (below_same n p q (λ k h. same k (omega arith)))
    ∙ ap (λ b. any_below n q || b) (same n (omega arith))

pub or_swap : (a b c d : Bool) → ((a || b) || (c || d)) ≡ ((a || c) || (b || d))
or_swap true b c d = refl
or_swap false true true d = refl
or_swap false true false d = refl
or_swap false false c d = refl

pub below_or : (n : ℕ) (p q : ℕ → Bool) → any_below n (λ k. p k || q k) ≡ (any_below n p || any_below n q)
below_or zero p q = refl
below_or (suc n) p q = ap (λ b. b || (p n || q n)) (below_or n p q) ∙ or_swap (any_below n p) (any_below n q) (p n) (q n)

or_assoc : (a b c : Bool) → ((a || b) || c) ≡ (a || (b || c))
or_assoc true b c = refl
or_assoc false b c = refl

pub below_first : (n : ℕ) (p : ℕ → Bool) → any_below (suc n) p ≡ (p 0 || any_below n (λ k. p (suc k)))
below_first zero p = both (p 0)
  where
    both : (b : Bool) → (false || b) ≡ (b || false)
    both true = refl
    both false = refl
below_first (suc n) p = ap (λ b. b || p (suc n)) (below_first n p) ∙ or_assoc (p 0) (any_below n (λ k. p (suc k))) (p (suc n))

and_or : (a b c : Bool) → ((a && c) || (b && c)) ≡ ((a || b) && c)
and_or true true true = refl
and_or true true false = refl
and_or true false true = refl
and_or true false false = refl
and_or false b c = refl

pub below_and : (n : ℕ) (p : ℕ → Bool) (b : Bool) → any_below n (λ k. p k && b) ≡ (any_below n p && b)
below_and zero p b = refl
below_and (suc n) p b = ap (λ c. c || (p n && b)) (below_and n p b) ∙ and_or (any_below n p) (p n) b

pub below_none : (n : ℕ) (p : ℕ → Bool) → ((k : ℕ) → k < n → p k ≡ false) → any_below n p ≡ false
below_none zero p none = refl
below_none (suc n) p none = ap (λ b. b || p n) (below_none n p (λ k h. none k (omega arith))) ∙ none n (omega arith)

-- ---- parts that tell places

own : IsNumeralModel (λ ds. all_ascii_digits ds ≡ true) (digits_value 10)
own = numerals_by_value _ tells_all_ascii_digits

digits_of : (part : List ℕ) → is_index part ≡ true → all_ascii_digits part ≡ true
digits_of [] is = absurd cc
digits_of (digit ∷ more) is = grind arith

pub told_past : (E : Type 0) (part : List ℕ) (error : E) → is_index part ≡ true → ParsesUnsigned {E = E} 64 10 part (Err error)
    → (place : ℕ) → place < 2 ^ 64 → false ≡ tells part place
told_past E part error is read place low =
    let past = parse_digits own {E = E} 64 part (Err error) read (digits_of part is) in
    let apart : nat_eq (digits_value 10 part) place ≡ false = grind (arith, past) in
    rw (is, apart) refl
