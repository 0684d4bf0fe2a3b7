-- The least number above others.
use Rattle.std.proofs.Common.{◌≡◌, ℕ, ◌+◌, ◌≤◌, max, List, [], ◌∷◌, ◌++◌, arith}
use Rattle.table_store.specs.Loading.{past}

pub past-least : (least : ℕ) (ns : List ℕ) → least ≤ past least ns
past-least least [] = omega arith
past-least least (n ∷ ns) = let rest = past-least least ns in omega (arith, rest)

pub past-append : (least : ℕ) (ms ns : List ℕ) → past least (ms ++ ns) ≡ max (past least ms) (past least ns)
past-append least [] ns = let low = past-least least ns in omega (arith, low)
past-append least (m ∷ ms) ns = let rest = past-append least ms ns in omega (arith, rest)

-- one that is above the others
pub past-last : (least n : ℕ) (ns : List ℕ) → past least ns ≤ n → past least (ns ++ n ∷ []) ≡ n + 1
past-last least n ns le = let low = past-least least ns in let both = past-append least ns (n ∷ []) in omega (arith, low, both, le)

pub past-one : (ns : List ℕ) → past 1 ns ≡ max 1 (past 0 ns)
past-one [] = omega arith
past-one (n ∷ ns) = let rest = past-one ns in omega (arith, rest)
