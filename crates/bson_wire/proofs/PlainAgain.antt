-- Values that hold no values: what is spelled so is read.
use Rattle.std.proofs.Common.{◌≡◌, ℕ, ℤ, ◌+◌, Bool, true, false, List, [], ◌∷◌, ◌++◌, length, length-append, refl, ap, ◌∙◌, append_assoc}
use Rattle.std.proofs.Common.{arith}
use Rattle.std.specs.Prelude.{Ok}
use Rattle.std.specs.Int.{w32, w64, cast_unsigned}
use Rattle.std.proofs.lemmas.Int.{ints, to_z-of_z}
use Rattle.bson_values.specs.declared.value.Binary.{Binary}
use Rattle.bson_values.specs.declared.value.Regex.{Regex}
use Rattle.bson_values.specs.declared.value.Value.TheVariants as value
use Rattle.bson_spelling.specs.Spelling.{int32, cstring, bool}
use Rattle.bson_wire.specs.Grammar.{IsString, IsBinary, IsRegex, IsInt, IsLong, IsStamp}
use Rattle.bson_wire.specs.Reading.{number_at, long_at, text_at, string_at, binary_at, id_at, bool_at, regex_at, int_at, date_at, stamp_at}
use Rattle.bson_wire.specs.Reading.{int64_at}
use Rattle.bson_wire.proofs.Texts.{text_again}
use Rattle.bson_wire.proofs.Numbers.{number_again, long_again, length_again}
use Rattle.bson_wire.proofs.Names.{name_again, part_again, ended_again}

pub text_part_again : (place : ℕ) (spelling text rest : List ℕ) → IsString spelling text
    → text_at place (spelling ++ rest) ≡ Ok (text, rest)
unfolding text_at
text_part_again place spelling text rest is =
    let regroup : spelling ++ rest ≡ int32 (length text + 1) ++ (cstring text ++ rest) = ap (λ (it : List ℕ). it ++ rest) is.whole
    ∙ append_assoc (int32 (length text + 1)) (cstring text) rest in
    let part = part_again place (length text + 1) (cstring text) rest (length-append text (0 ∷ [])) in
    ap (text_at place) regroup ∙ rw (
      length_again place 1 (length text + 1) (cstring text ++ rest) (omega arith) is.small,
      part,
      ended_again place text,
      text_again place text is.utf8,
    ) refl

pub string_again : (place : ℕ) (spelling text rest : List ℕ) → IsString spelling text
    → string_at place (spelling ++ rest) ≡ Ok (value.Str text, rest)
unfolding string_at
string_again place spelling text rest is = rw (text_part_again place spelling text rest is) refl

pub binary_again : (place : ℕ) (spelling : List ℕ) (it : Binary) (rest : List ℕ) → IsBinary spelling it
    → binary_at place (spelling ++ rest) ≡ Ok (value.Bin it, rest)
unfolding binary_at
binary_again place spelling it rest is =
    let len = length it.bytes in
    let part = it.subtype ∷ it.bytes in
    let regroup : spelling ++ rest ≡ int32 len ++ (part ++ rest) = ap (λ (all : List ℕ). all ++ rest) is.whole
    ∙ append_assoc (int32 len) part rest in
    let parted = part_again place (len + 1) part rest (omega arith) in
    ap (binary_at place) regroup ∙ rw (length_again place 0 len (part ++ rest) (omega arith) is.small, parted) refl

pub id_again : (place : ℕ) (spelling id rest : List ℕ) → length spelling ≡ 12 → spelling ≡ id
    → id_at place (spelling ++ rest) ≡ Ok (value.Id id, rest)
unfolding id_at
id_again place spelling id rest len is = rw (part_again place 12 spelling rest len) (ap (λ (it : List ℕ). Ok (value.Id it, rest)) is)

pub bool_again : (place : ℕ) (spelling : List ℕ) (truth : Bool) (rest : List ℕ) → spelling ≡ bool truth
    → bool_at place (spelling ++ rest) ≡ Ok (value.Bool truth, rest)
unfolding bool_at
bool_again place spelling true rest is = ap (λ (it : List ℕ). bool_at place (it ++ rest)) is
    ∙ rw (part_again place 1 (1 ∷ []) rest refl) refl
bool_again place spelling false rest is = ap (λ (it : List ℕ). bool_at place (it ++ rest)) is
    ∙ rw (part_again place 1 (0 ∷ []) rest refl) refl

pub regex_again : (place : ℕ) (spelling : List ℕ) (it : Regex) (rest : List ℕ) → IsRegex spelling it
    → regex_at place (spelling ++ rest) ≡ Ok (value.Regex it, rest)
unfolding regex_at
regex_again place spelling it rest is =
    let regroup : spelling ++ rest ≡ cstring it.pattern ++ (cstring it.options ++ rest) = ap (λ (all : List ℕ). all ++ rest) is.whole
    ∙ append_assoc (cstring it.pattern) (cstring it.options) rest in
    ap (regex_at place) regroup ∙ rw (
      name_again place it.pattern (cstring it.options ++ rest) is.pattern,
      name_again place it.options rest is.options,
    ) refl

pub int_again : (place : ℕ) (spelling : List ℕ) (number : ℤ) (rest : List ℕ) → IsInt spelling number
    → int_at place (spelling ++ rest) ≡ Ok (value.Int number, rest)
int_again place spelling number rest is =
    let bits : number_at place (spelling ++ rest) ≡ Ok (cast_unsigned w32 number, rest) =
    rw is.whole (number_again place (cast_unsigned w32 number) rest (omega (arith, ints))) in
    rw bits (ap (λ (n : ℤ). Ok (value.Int n, rest)) (to_z-of_z w32 number is.fits))

long_bits : (place : ℕ) (spelling : List ℕ) (number : ℤ) (rest : List ℕ) → IsLong spelling number
    → long_at place (spelling ++ rest) ≡ Ok (cast_unsigned w64 number, rest)
long_bits place spelling number rest is = rw is.whole (long_again place (cast_unsigned w64 number) rest (omega (arith, ints)))

pub date_again : (place : ℕ) (spelling : List ℕ) (number : ℤ) (rest : List ℕ) → IsLong spelling number
    → date_at place (spelling ++ rest) ≡ Ok (value.Date number, rest)
date_again place spelling number rest is = rw (long_bits place spelling number rest is)
    (ap (λ (n : ℤ). Ok (value.Date n, rest)) (to_z-of_z w64 number is.fits))

pub long_value_again : (place : ℕ) (spelling : List ℕ) (number : ℤ) (rest : List ℕ) → IsLong spelling number
    → int64_at place (spelling ++ rest) ≡ Ok (value.Long number, rest)
long_value_again place spelling number rest is = rw (long_bits place spelling number rest is)
    (ap (λ (n : ℤ). Ok (value.Long n, rest)) (to_z-of_z w64 number is.fits))

pub stamp_again : (place : ℕ) (spelling : List ℕ) (stamp : ℕ) (rest : List ℕ) → IsStamp spelling stamp
    → stamp_at place (spelling ++ rest) ≡ Ok (value.Stamp stamp, rest)
stamp_again place spelling stamp rest is =
    let bits : long_at place (spelling ++ rest) ≡ Ok (stamp, rest) = rw is.whole (long_again place stamp rest is.fits) in
    rw bits refl
