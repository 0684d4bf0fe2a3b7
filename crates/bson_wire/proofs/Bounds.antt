-- A fault stands no later than where the bytes end.
use Rattle.std.proofs.Common.{ℕ, zero, suc, ◌+◌, ◌-◌, ◌≤◌, Bool, true, false, ◌==◌, ◌||◌, List, [], ◌∷◌, length, take, drop, arith}
use Rattle.std.specs.Prelude.{nat_lt, if◌then◌else◌, slice_index, Option, None, Some, Result, Ok, Err}
use Rattle.std.specs.List.{position}
use Rattle.std.specs.Str.{is_utf8}
use Rattle.byteorder.specs.Endian.{little_number}
use Rattle.bson_values.specs.declared.value.Value.{Value}
use Rattle.bson_values.specs.declared.value.Value.TheVariants as value
use Rattle.bson_wire.specs.declared.foreign.Foreign.{Foreign}
use Rattle.std_words.specs.Steps.{◌>>=◌}
use Rattle.bson_wire.specs.Reading.{number_at, long_at, length_at, part_at, ended_at, text_of, nul_at, name_at, text_at, string_at}
use Rattle.bson_wire.specs.Reading.{binary_at, id_at, bool_at, regex_at, int_at, date_at, stamp_at, int64_at, scalar_at, is_foreign}
use Rattle.bson_wire.specs.Reading.{past_at, past_text_at, past_scoped_at, foreign_at, value_at, element_at, elements_at, enclosed_at}
use Rattle.bson_wire.specs.Reading.{document_at, array_at}
use Rattle.bson_wire.proofs.Values.{Doc}

-- the fault, where there is one, is at no later place
abbrev pub NotPast : {A : Type 0} → ℕ → Result A ℕ → Type 0
NotPast end (Ok found) = Unit {0}
NotPast end (Err place) = place ≤ end

either : {A : Type 0} (end : ℕ) (test : Bool) (x y : Result A ℕ) → NotPast end x → NotPast end y → NotPast end (if test then x else y)
either end true x y one other = one
either end false x y one other = other

then_ : {A B : Type 0} (end : ℕ) (found : Result A ℕ) (next : A → Result B ℕ) → NotPast end found → ((it : A) → NotPast end (next it))
    → NotPast end (found >>= next)
then_ end (Err place) next one other = one
then_ end (Ok it) next one other = other it

later : {A : Type 0} (end end' : ℕ) (found : Result A ℕ) → end ≤ end' → NotPast end found → NotPast end' found
later end end' (Err place) low one = omega (arith, low, one)
later end end' (Ok it) low one = tt

nul-not : (place : ℕ) (len : Option ℕ) → NotPast place (nul_at place len)
unfolding nul_at
nul-not place None = omega arith
nul-not place (Some len) = tt

number-not : (place : ℕ) (bytes : List ℕ) → NotPast place (number_at place bytes)
unfolding number_at
number-not place bytes = either place (nat_lt (length bytes) 4) (Err place) (Ok (little_number 4 bytes, drop 4 bytes)) (omega arith) tt

long-not : (place : ℕ) (bytes : List ℕ) → NotPast place (long_at place bytes)
unfolding long_at
long-not place bytes = either place (nat_lt (length bytes) 8) (Err place) (Ok (little_number 8 bytes, drop 8 bytes)) (omega arith) tt

length-not : (place least : ℕ) (bytes : List ℕ) → NotPast place (length_at place least bytes)
unfolding length_at
length-not place least bytes = then_ place (number_at place bytes) _ (number-not place bytes)
    (λ n. either place (nat_lt n.0 least || nat_lt 2147483647 n.0) (Err place) (Ok n) (omega arith) tt)

part-not : (place len : ℕ) (bytes : List ℕ) → NotPast place (part_at place len bytes)
unfolding part_at
part-not place len bytes = either place (nat_lt (length bytes) len) (Err place) (Ok (take len bytes, drop len bytes)) (omega arith) tt

ended-not : (place : ℕ) (bytes : List ℕ) → NotPast place (ended_at place bytes)
unfolding ended_at
ended-not place bytes = either place (slice_index bytes (length bytes - 1) == 0) (Ok (take (length bytes - 1) bytes)) (Err place) tt
    (omega arith)

text-not : (place : ℕ) (bytes : List ℕ) → NotPast place (text_of place bytes)
unfolding text_of
text-not place bytes = either place (is_utf8 bytes) (Ok bytes) (Err place) tt (omega arith)

name-not : (place : ℕ) (bytes : List ℕ) → NotPast place (name_at place bytes)
unfolding name_at
name-not place bytes =
    then_ place (nul_at place (position (λ byte. byte == 0) bytes)) _ (nul-not place (position (λ byte. byte == 0) bytes))
    (λ len. then_ place (text_of place (take len bytes)) _ (text-not place (take len bytes)) (λ name. tt))

text-part-not : (place : ℕ) (bytes : List ℕ) → NotPast place (text_at place bytes)
unfolding text_at
text-part-not place bytes =
    then_ place (length_at place 1 bytes) _ (length-not place 1 bytes)
    (λ n. then_ place (part_at place n.0 n.1) _ (part-not place n.0 n.1)
    (λ part. then_ place (ended_at place part.0) _ (ended-not place part.0)
    (λ content. then_ place (text_of place content) _ (text-not place content) (λ text. tt))))

string-not : (place : ℕ) (bytes : List ℕ) → NotPast place (string_at place bytes)
unfolding string_at
string-not place bytes = then_ place (text_at place bytes) _ (text-part-not place bytes) (λ text. tt)

binary-not : (place : ℕ) (bytes : List ℕ) → NotPast place (binary_at place bytes)
unfolding binary_at
binary-not place bytes = then_ place (length_at place 0 bytes) _ (length-not place 0 bytes)
    (λ n. then_ place (part_at place (n.0 + 1) n.1) _ (part-not place (n.0 + 1) n.1) (λ part. tt))

id-not : (place : ℕ) (bytes : List ℕ) → NotPast place (id_at place bytes)
unfolding id_at
id-not place bytes = then_ place (part_at place 12 bytes) _ (part-not place 12 bytes) (λ part. tt)

bool-not : (place : ℕ) (bytes : List ℕ) → NotPast place (bool_at place bytes)
unfolding bool_at
bool-not place bytes =
    then_ place (part_at place 1 bytes) _ (part-not place 1 bytes)
    (λ part. either place (slice_index part.0 0 == 0) _ _ tt (either place (slice_index part.0 0 == 1) _ (Err place) tt (omega arith)))

regex-not : (place : ℕ) (bytes : List ℕ) → NotPast place (regex_at place bytes)
unfolding regex_at
regex-not place bytes = then_ place (name_at place bytes) _ (name-not place bytes)
    (λ pattern. then_ place (name_at place pattern.1) _ (name-not place pattern.1) (λ options. tt))

scalar-not : (place code : ℕ) (bytes : List ℕ) → NotPast place (scalar_at place code bytes)
unfolding scalar_at
scalar-not place code bytes =
    either place (code == 2) _ _ (string-not place bytes)
    (either place (code == 5) _ _ (binary-not place bytes)
    (either place (code == 7) _ _ (id-not place bytes)
    (either place (code == 8) _ _ (bool-not place bytes)
    (either place (code == 9) (date_at place bytes) _ (then_ place (long_at place bytes) _ (long-not place bytes) (λ n. tt))
    (either place (code == 10) (Ok (value.Null, bytes)) _ tt
    (either place (code == 11) _ _ (regex-not place bytes)
    (either place (code == 16) (int_at place bytes) _ (then_ place (number_at place bytes) _ (number-not place bytes) (λ n. tt))
    (either place (code == 17) (stamp_at place bytes) _ (then_ place (long_at place bytes) _ (long-not place bytes) (λ n. tt))
    (either place (code == 18) (int64_at place bytes) (Err place) (then_ place (long_at place bytes) _ (long-not place bytes) (λ n. tt))
    (omega arith))))))))))

past-not : (place len : ℕ) (bytes : List ℕ) → NotPast place (past_at place len bytes)
unfolding past_at
past-not place len bytes = then_ place (part_at place len bytes) _ (part-not place len bytes) (λ part. tt)

past-text-not : (place : ℕ) (bytes : List ℕ) → NotPast place (past_text_at place bytes)
unfolding past_text_at
past-text-not place bytes = then_ place (text_at place bytes) _ (text-part-not place bytes) (λ text. tt)

past-scoped-not : (place : ℕ) (bytes : List ℕ) → NotPast place (past_scoped_at place bytes)
unfolding past_scoped_at
past-scoped-not place bytes = then_ place (length_at place 14 bytes) _ (length-not place 14 bytes) (λ n. past-not place (n.0 - 4) n.1)

foreign-not : (place code : ℕ) (bytes : List ℕ) → NotPast place (foreign_at place code bytes)
unfolding foreign_at
foreign-not place code bytes =
    either place (code == 1) _ _ (past-not place 8 bytes)
    (either place (code == 6) (Ok bytes) _ tt
    (either place (code == 12) _ _ (then_ place (past_text_at place bytes) _ (past-text-not place bytes) (λ rest. past-not place 12 rest))
    (either place (code == 13) _ _ (past-text-not place bytes)
    (either place (code == 14) _ _ (past-text-not place bytes)
    (either place (code == 15) _ _ (past-scoped-not place bytes)
    (either place (code == 19) _ _ (past-not place 16 bytes)
    (either place (code == 127) (Ok bytes) _ tt (either place (code == 255) (Ok bytes) (Err place) tt (omega arith)))))))))

module _ (document : ℕ → List ℕ → Result (Doc × List Foreign × List ℕ) ℕ) (array : ℕ → List ℕ
    → Result (List Value × List Foreign × List ℕ) ℕ) (docs : (end : ℕ) (bytes : List ℕ)
    → NotPast end (document end bytes)) (arrays : (end : ℕ) (bytes : List ℕ) → NotPast end (array end bytes)) where
  value-not : (end place code : ℕ) (bytes : List ℕ) → place ≤ end → NotPast end (value_at document array end place code bytes)
  unfolding value_at
  value-not end place code bytes within =
      either end (code == 3) _ _ (then_ end (document end bytes) _ (docs end bytes) (λ doc. tt))
      (either end (code == 4) _ _ (then_ end (array end bytes) _ (arrays end bytes) (λ items. tt))
      (either end (is_foreign code) _ _ (then_ end (foreign_at place code bytes) _
      (later place end (foreign_at place code bytes) within (foreign-not place code bytes)) (λ rest. tt))
      (then_ end (scalar_at place code bytes) _ (later place end (scalar_at place code bytes) within (scalar-not place code bytes))
      (λ it. tt))))

  element-not : (end code : ℕ) (bytes : List ℕ) → NotPast end (element_at document array end code bytes)
  unfolding element_at
  element-not end code bytes =
      let place = end - (length bytes + 1) in
      let within : place ≤ end = omega arith in
      then_ end (name_at place bytes) _ (later place end (name_at place bytes) within (name-not place bytes))
      (λ name. then_ end (value_at document array end place code name.1) _ (value-not end place code name.1 within) (λ v. tt))

  elements-not : (most end : ℕ) (bytes : List ℕ) → NotPast end (elements_at document array most end bytes)
  unfolding elements_at
  elements-not zero end bytes = omega arith
  elements-not (suc most) end [] = tt
  elements-not (suc most) end (code ∷ bytes) =
      then_ end (element_at document array end code bytes) _ (element-not end code bytes)
      (λ first. then_ end (elements_at document array most end first.1) _ (elements-not most end first.1) (λ others. tt))

  enclosed-not : (end : ℕ) (bytes : List ℕ) → NotPast end (enclosed_at document array end bytes)
  unfolding enclosed_at
  enclosed-not end bytes =
      let place = end - length bytes in
      let within : place ≤ end = omega arith in
      then_ end (length_at place 5 bytes) _ (later place end (length_at place 5 bytes) within (length-not place 5 bytes)) (λ n.
      then_ end (part_at place (n.0 - 4) n.1) _ (later place end (part_at place (n.0 - 4) n.1) within (part-not place (n.0 - 4) n.1))
      (λ part.
      let inner = end - (length part.1 + 1) in
      let inside = take (length part.0 - 1) part.0 in
      then_ end (elements_at document array (length inside + 1) inner inside) _
      (later inner end (elements_at document array (length inside + 1) inner inside) (omega arith)
      (elements-not (length inside + 1) inner inside)) (λ found.
      then_ end (ended_at place part.0) _ (later place end (ended_at place part.0) within (ended-not place part.0)) (λ it. tt))))

within-not : (levels : ℕ) → ((end : ℕ) (bytes : List ℕ) → NotPast end (document_at levels end bytes))
    × ((end : ℕ) (bytes : List ℕ) → NotPast end (array_at levels end bytes))
unfolding document_at array_at
within-not zero = (λ end bytes. omega arith, λ end bytes. omega arith)
within-not (suc levels) =
    let inner = within-not levels in
    let enclosed = enclosed-not (document_at levels) (array_at levels) inner.0 inner.1 in (
      λ end bytes. then_ end (enclosed_at (document_at levels) (array_at levels) end bytes) _ (enclosed end bytes) (λ found. tt),
      λ end bytes. then_ end (enclosed_at (document_at levels) (array_at levels) end bytes) _ (enclosed end bytes) (λ found. tt),
    )

pub document-not : (end : ℕ) (bytes : List ℕ) → NotPast end (document_at 128 end bytes)
document-not = (within-not 128).0
