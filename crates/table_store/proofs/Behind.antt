-- Lists that grow at their end.
use Rattle.std.proofs.Common.{◌≡◌, ℕ, ◌+◌, List, [], ◌∷◌, ◌++◌, length, ap, sym, ◌∙◌, subst, append_assoc, append-nil, arith}
use Rattle.std.specs.List.{AllZip}
use Rattle.table_store.specs.Loading.{EachGood}

-- one more that is good behind them
pub each-last : {A : Type 0} (Good : List A → A → Type 0) (before xs : List A) (x : A) → EachGood Good before xs → Good (before ++ xs) x
    → EachGood Good before (xs ++ x ∷ [])
each-last Good before [] x good last = (subst (λ front. Good front x) (append-nil before) last, tt)
each-last Good before (y ∷ ys) x good last =
    (good.0, each-last Good (before ++ y ∷ []) ys x good.1 (subst (λ front. Good front x) (sym (append_assoc before (y ∷ []) ys)) last))

pub zip-last : {A B : Type 0} (R : A → B → Type 0) (xs : List A) (ys : List B) (x : A) (y : B) → AllZip R xs ys → R x y
    → AllZip R (xs ++ x ∷ []) (ys ++ y ∷ [])
zip-last R [] [] x y all last = (last, tt)
zip-last R [] (v ∷ vs) x y all last = absurd all
zip-last R (u ∷ us) [] x y all last = absurd all
zip-last R (u ∷ us) (v ∷ vs) x y all last = (all.0, zip-last R us vs x y all.1 last)

-- those that a loop has behind it, and so many that are left
pub record Left {A : Type 0} (all so_far left : List A) (count : ℕ) : Type 0 where
  pub are : all ≡ so_far ++ left
  pub len : count ≡ length left

pub left-rest : {A : Type 0} (all so_far left rest : List A) (count : ℕ) (x : A) → Left all so_far left count → left ≡ x ∷ rest
    → all ≡ so_far ++ x ∷ rest
left-rest all so_far left rest count x at is = at.are ∙ ap (λ more. so_far ++ more) is

pub left-go : {A : Type 0} (all so_far left rest : List A) (count fewer : ℕ) (x : A) → Left all so_far left count → left ≡ x ∷ rest
    → fewer + 1 ≡ count
    → Left all (so_far ++ x ∷ []) rest fewer
left-go all so_far left rest count fewer x at is less = record {
  are = left-rest all so_far left rest count x at is ∙ sym (append_assoc so_far (x ∷ []) rest);
  len = let len = at.len in let lengths = ap length is in omega (arith, len, lengths, less);
}

-- the one behind the first of them is good
pub each-at : {A : Type 0} (Good : List A → A → Type 0) (before xs rest : List A) (x : A) → EachGood Good before (xs ++ x ∷ rest)
    → Good (before ++ xs) x
each-at Good before [] rest x good = subst (λ front. Good front x) (sym (append-nil before)) good.0
each-at Good before (y ∷ ys) rest x good =
    subst (λ front. Good front x) (append_assoc before (y ∷ []) ys) (each-at Good (before ++ y ∷ []) ys rest x good.1)
