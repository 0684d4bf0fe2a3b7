-- One after another: what was read before and what stands in the rest are all.
use Rattle.std.proofs.Common.{◌≡◌, ◌<◌, ℕ, ◌+◌, suc, List, [], ◌∷◌, ◌++◌, map, length, drop, get_or, refl, sym, ap, ◌∙◌}
use Rattle.std.proofs.Common.{append_assoc, add-one, drop-cons}
use Rattle.std.specs.Prelude.{Result, Ok, Err}
use Rattle.std_words.specs.Steps.{◌>>=◌}
use Rattle.filter_syntax.specs.Answers.{joined}
use Rattle.filter_syntax.specs.Operands.{all_of}

-- what was read so far, and then what the rest is read as, is what all are read as
pub record Goes {X Z Y : Type 0} (part : Z → Result (List Y) ℕ) (own : X → Z) (xs : List X) (i : ℕ) (out : List Y) : Type 0 where
  pub all : joined out (all_of part (map own (drop i xs))) ≡ all_of part (map own xs)

joined_more : {Y : Type 0} (out ys : List Y) (more : Result (List Y) ℕ)
    → joined out (more >>= λ zs. Ok (ys ++ zs)) ≡ joined (out ++ ys) more
joined_more out ys (Ok zs) = ap Ok (sym (append_assoc out ys zs))
joined_more out ys (Err kind) = refl

split : {X : Type 0} (xs : List X) (i : ℕ) (x : X) → i < length xs → x ≡ get_or xs i x → drop i xs ≡ x ∷ drop (i + 1) xs
split xs i x below is = rw (add-one, drop-cons xs i x) (ap (λ (y : _). y ∷ drop (suc i) xs) (sym is))

pub goes_on : {X Z Y : Type 0} (part : Z → Result (List Y) ℕ) (own : X → Z) (xs : List X) (i : ℕ) (x : X) (out new : List Y)
    → i < length xs → x ≡ get_or xs i x → Goes part own xs i out → joined out (part (own x)) ≡ Ok new
    → Goes part own xs (i + 1) new
goes_on {X} {Z} {Y} part own xs i x out new below is goes read = by (part (own x)) refl
  where
    by : (found : Result (List Y) ℕ) → part (own x) ≡ found → Goes part own xs (i + 1) new
    by (Ok ys) was =
        let same : ◌≡◌ {A = Result (List Y) ℕ} (Ok (out ++ ys)) (Ok new) =
        ap (λ (found : Result (List Y) ℕ). joined out found) (sym was) ∙ read in
        let new_is : out ++ ys ≡ new = cc in
        let rest = all_of part (map own (drop (i + 1) xs)) in
        record {
          all =
              ap (λ (them : List Y). joined them rest) (sym new_is) ∙ sym (joined_more out ys rest)
              ∙ ap (λ (found : Result (List Y) ℕ). joined out (found >>= λ ys. rest >>= λ more. Ok (ys ++ more))) (sym was)
              ∙ ap (λ (them : List X). joined out (all_of part (map own them))) (sym (split xs i x below is)) ∙ goes.all;
        }
    by (Err kind) was = absurd (cc (ap (λ (found : Result (List Y) ℕ). joined out found) (sym was) ∙ read))

-- nothing was read before
pub from_nothing : {Y : Type 0} (out new : List Y) (found : Result (List Y) ℕ) → out ≡ [] → joined out found ≡ Ok new → found ≡ Ok new
from_nothing out new (Ok ys) none is = ap (λ (them : List _). joined them (Ok ys)) (sym none) ∙ is
from_nothing out new (Err kind) none is = absurd cc
