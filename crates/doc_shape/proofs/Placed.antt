-- What is read of a path's parts.
use Rattle.std.proofs.Common.{◌≡◌, ℕ, ◌<◌, ◌^◌, true, false, List, [], ◌∷◌, nat_eq, Option, Some, None, refl}
use Rattle.std.proofs.Common.{arith}
use Rattle.std.specs.declared.result.Result.TheVariants.{Err}
use Rattle.std.specs.Str.{all_ascii_digits}
use Rattle.std.specs.Str.Parse.{digits_value, ParsesUnsigned}
use Rattle.std.proofs.lemmas.Str.Parse.{IsNumeralModel, numerals_by_value, tells_all_ascii_digits, parse_digits}
use Rattle.doc_paths.specs.Reach.{is_index}
use Rattle.std.specs.Option.{option_eq}
use Rattle.doc_shape.specs.Bests.{tells, is_at}

own : IsNumeralModel (λ ds. all_ascii_digits ds ≡ true) (digits_value 10)
own = numerals_by_value _ tells_all_ascii_digits

digits_of : (part : List ℕ) → is_index part ≡ true → all_ascii_digits part ≡ true
digits_of [] is = absurd cc
digits_of (digit ∷ more) is = grind arith

pub told_past : (E : Type 0) (part : List ℕ) (error : E) → is_index part ≡ true → ParsesUnsigned {E = E} 64 10 part (Err error)
    → (place : ℕ) → place < 2 ^ 64 → false ≡ tells part place
told_past E part error is read place low =
    let past = parse_digits own {E = E} 64 part (Err error) read (digits_of part is) in
    let apart : nat_eq (digits_value 10 part) place ≡ false = grind (arith, past) in
    rw (is, apart) refl

pub at_some : (found : Option ℕ) (place : ℕ) → option_eq nat_eq found (Some place) ≡ is_at found place
at_some None place = refl
at_some (Some it) place = refl
