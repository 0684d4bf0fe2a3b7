-- A seat's own places.
use Rattle.std.proofs.Common.{◌≡◌, ℕ, ◌+◌, ◌<◌, ◌≤◌, ◌≢◌, ◌==◌, if◌then◌else◌, Bool, true, false, List, [], ◌∷◌, ◌++◌, refl, arith}
use Rattle.std.proofs.lemmas.Bool.Decides.{nat_tests}
use Rattle.history_lock.specs.Places.{times, is_own, Within, AllPlaces}
use Rattle.history_lock.specs.Rule.{below}
use Rattle.std_words.proofs.Tests.{or-not-first, or-not-second, or-neither}

-- how often a place is in two lists
pub times-append : (xs ys : List ℕ) (i : ℕ) → times (xs ++ ys) i ≡ times xs i + times ys i
times-append [] ys i = omega arith
times-append (x ∷ xs) ys i = let rest = times-append xs ys i in omega arith

-- a place that is not among them is there no time
pub times-none : (own : List ℕ) (i : ℕ) → is_own own i ≡ false → times own i ≡ 0
times-none [] i e = refl
times-none (j ∷ own) i e =
    let rest = times-none own i (or-not-second (j == i) (is_own own i) e) in
    rw (or-not-first (j == i) (is_own own i) e) (omega arith)

-- and one that is there a time is among them
pub own-times : (own : List ℕ) (i : ℕ) → times own i ≢ 0 → is_own own i ≡ true
own-times own i some_times = by (is_own own i) refl
  where
    by : (b : Bool) → is_own own i ≡ b → is_own own i ≡ true
    by true e = e
    by false e = absurd (some_times (times-none own i e))

-- one place more
pub within-more : (own : List ℕ) (n : ℕ) → Within (is_own own) n → Within (is_own (own ++ n ∷ [])) (n + 1)
within-more [] n w i le = grind (arith, nat_tests)
within-more (j ∷ own) n w i le =
    or-neither (j == i) (is_own (own ++ n ∷ []) i) (or-not-first (j == i) (is_own own i) (w i (omega arith)))
    (within-more own n (λ k l. or-not-second (j == k) (is_own own k) (w k l)) i le)

-- two lists of places together
pub within-join : (xs ys : List ℕ) (n : ℕ) → Within (is_own xs) n → Within (is_own ys) n → Within (is_own (xs ++ ys)) n
within-join [] ys n p q i le = q i le
within-join (x ∷ xs) ys n p q i le =
    or-neither (x == i) (is_own (xs ++ ys) i) (or-not-first (x == i) (is_own xs i) (p i le))
    (within-join xs ys n (λ k l. or-not-second (x == k) (is_own xs k) (p k l)) q i le)

-- a greater bound
pub within-wider : (own : List ℕ) (n m : ℕ) → n ≤ m → Within (is_own own) n → Within (is_own own) m
within-wider own n m le w i from = w i (omega (arith, le, from))

-- one place below, and none from there on
pub below-more : (n i : ℕ) → below (n + 1) i ≡ below n i + times (n ∷ []) i
below-more n i = grind (arith, nat_tests)

-- a place that is there no time is not among them
own-none : (own : List ℕ) (i : ℕ) → times own i ≡ 0 → is_own own i ≡ false
own-none [] i e = refl
own-none (j ∷ own) i e = or-neither (j == i) (is_own own i) (head (j == i) (times own i) e) (own-none own i (omega arith))
  where
    head : (b : Bool) (k : ℕ) → (if b then 1 else 0) + k ≡ 0 → b ≡ false
    head true k e = absurd (omega arith)
    head false k e = refl

-- where a list has all places, each is among them, and no other is
pub all-own : (own : List ℕ) (n : ℕ) → AllPlaces own n → (i : ℕ) → i < n → is_own own i ≡ true
all-own own n all i lt = own-times own i (λ none_there. let one = all.0 i lt in omega arith)

-- and none lies past the end
pub all-within : (own : List ℕ) (n : ℕ) → AllPlaces own n → Within (is_own own) n
all-within own n all i le = own-none own i (all.1 i le)
