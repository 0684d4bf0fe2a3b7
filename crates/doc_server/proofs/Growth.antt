-- Pieces that come one after another.
use Rattle.std.proofs.Common.{◌≡◌, ℕ, ◌+◌, ◌≤◌, List, [], ◌++◌, length, take, drop, refl, ap, arith, sym, ◌∙◌, append_assoc, length-take}
use Rattle.std.proofs.Common.{length-drop}
use Rattle.std.proofs.lemmas.List.{append-nil, take-append-drop}
use Rattle.std.proofs.Math.Seq.{take-append-add}
use Rattle.std.specs.Prelude.{Option, None, Some}
use Rattle.outside.specs.Told.{Grows, Shrinks}

-- nothing came
pub grows-none : (told : Option (List ℕ)) → Grows told told []
grows-none None = refl
grows-none (Some all) = sym (append-nil all)

-- one piece came, and then another
pub grows-on : (old mid new : Option (List ℕ)) (xs ys : List ℕ) → Grows old mid xs → Grows mid new ys → Grows old new (xs ++ ys)
grows-on None None new xs ys first second = second
grows-on None (Some mid) new xs ys first second = cc
grows-on (Some old) None None xs ys first second = tt
grows-on (Some old) None (Some new) xs ys first second = cc
grows-on (Some old) (Some mid) None xs ys first second = tt
grows-on (Some old) (Some mid) (Some new) xs ys first second = rw (second, first) (append_assoc old xs ys)

pub shrinks-none : (told : Option (List ℕ)) → Shrinks told told []
shrinks-none None = refl
shrinks-none (Some all) = refl

pub shrinks-on : (old mid new : Option (List ℕ)) (xs ys : List ℕ) → Shrinks old mid xs → Shrinks mid new ys → Shrinks old new (xs ++ ys)
shrinks-on None None new xs ys first second = second
shrinks-on None (Some mid) new xs ys first second = cc
shrinks-on (Some old) None None xs ys first second = tt
shrinks-on (Some old) None (Some new) xs ys first second = cc
shrinks-on (Some old) (Some mid) None xs ys first second = tt
shrinks-on (Some old) (Some mid) (Some new) xs ys first second = first ∙ ap (λ rest. xs ++ rest) second ∙ sym (append_assoc xs ys new)

pub take-further : (xs : List ℕ) (at n : ℕ) → at ≤ length xs → take (at + n) xs ≡ take at xs ++ take n (drop at xs)
take-further xs at n within =
    let front : length (take at xs) ≡ at = omega (arith, length-take at xs) in
    rw (front, take-append-drop) at (take-append-add (take at xs) (drop at xs) n)

-- a further piece of the same bytes
pub grows-further : (old mid new : Option (List ℕ)) (bytes rest : List ℕ) (at n : ℕ) → at ≤ length bytes → rest ≡ drop at bytes
    → Grows old mid (take at bytes) → Grows mid new (take n rest) → Grows old new (take (at + n) bytes)
grows-further old mid new bytes rest at n within is first second =
    rw (take-further bytes at n within) (grows-on old mid new (take at bytes) (take n (drop at bytes)) first (rw is at second))

pub further-within : (bytes rest : List ℕ) (at n : ℕ) → at ≤ length bytes → rest ≡ drop at bytes → n ≤ length rest → at + n ≤ length bytes
further-within bytes rest at n within is less = omega (arith, length-drop at bytes, ap length is)
