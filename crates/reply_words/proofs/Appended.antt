-- Lists that are written one after another.
use Rattle.std.proofs.Common.{◌≡◌, ℕ, suc, ◌+◌, ◌<◌, List, [], ◌∷◌, ◌++◌, length, take, drop, set, get_or}
use Rattle.std.proofs.Common.{refl, sym, ap, ◌∙◌, append_assoc, arith}
use Rattle.std.proofs.lemmas.List.{length-append, set_split, set_at, get_or_at}

pub two_more : (before first second one two whole : List ℕ) → first ≡ before ++ one → second ≡ first ++ two → whole ≡ one ++ two
    → second ≡ before ++ whole
two_more before first second one two whole first_is second_is whole_is =
    second_is ∙ ap (λ (it : List ℕ). it ++ two) first_is ∙ append_assoc before one two ∙ ap (λ (it : List ℕ). before ++ it) (sym whole_is)

pub three_more : (before first second third one two three whole : List ℕ) → first ≡ before ++ one → second ≡ first ++ two
    → third ≡ second ++ three → whole ≡ one ++ two ++ three → third ≡ before ++ whole
three_more before first second third one two three whole first_is second_is third_is whole_is =
    two_more before second third (one ++ two) three whole
    (two_more before first second one two (one ++ two) first_is second_is (λ _. one ++ two)) third_is whole_is

pub four_more : (before first second third fourth one two three four whole : List ℕ) → first ≡ before ++ one → second ≡ first ++ two
    → third ≡ second ++ three → fourth ≡ third ++ four → whole ≡ one ++ two ++ three ++ four → fourth ≡ before ++ whole
four_more before first second third fourth one two three four whole first_is second_is third_is fourth_is whole_is =
    two_more before third fourth (one ++ two ++ three) four whole
    (three_more before first second third one two three (one ++ two ++ three) first_is second_is third_is (λ _. one ++ two ++ three))
    fourth_is whole_is

-- ---- a byte in its place

pub put_at : (bytes : List ℕ) (place byte : ℕ) → place < length bytes
    → take place bytes ++ byte ∷ [] ++ drop (place + 1) bytes ≡ set bytes place byte
put_at bytes place byte within =
    let next : place + 1 ≡ suc place = omega arith in
    append_assoc (take place bytes) (byte ∷ []) (drop (place + 1) bytes)
    ∙ ap (λ (it : ℕ). take place bytes ++ byte ∷ drop it bytes) next
    ∙ sym (set_split bytes place byte within)

regroup : (before name rest : List ℕ) (byte : ℕ) → before ++ byte ∷ [] ++ name ++ rest ≡ before ++ byte ∷ (name ++ rest)
regroup before name rest byte = append_assoc (before ++ byte ∷ []) name rest ∙ append_assoc before (byte ∷ []) (name ++ rest)

-- the byte behind the name goes in front of it
pub moved : (before name content one two three five : List ℕ) (code place : ℕ) → one ≡ before ++ 0 ∷ [] → two ≡ one ++ name
    → three ≡ two ++ code ∷ content → place ≡ length before + 1 + length name
    → five ≡ set (set three (length before) (get_or three place 0)) place 0
    → five ≡ before ++ code ∷ (name ++ 0 ∷ [] ++ content)
moved before name content one two three five code place one_is two_is three_is place_is five_is =
    let front : (byte : ℕ) → length (before ++ byte ∷ [] ++ name) ≡ place = λ byte.
    omega (arith, place_is, length-append (before ++ byte ∷ []) name, length-append before (byte ∷ [])) in
    let whole : three ≡ before ++ 0 ∷ [] ++ name ++ code ∷ content = three_is
    ∙ ap (λ (it : List ℕ). it ++ code ∷ content) (two_is ∙ ap (λ (it : List ℕ). it ++ name) one_is) in
    let found : get_or three place 0 ≡ code = ap (λ (it : List ℕ). get_or it place 0) whole
    ∙ get_or_at (before ++ 0 ∷ [] ++ name) code content 0 place (front 0) in
    let first : set three (length before) (get_or three place 0) ≡ before ++ code ∷ [] ++ name ++ code ∷ content =
    (λ i. set (whole i) (length before) (found i))
    ∙ ap (λ (it : List ℕ). set it (length before) code) (regroup before name (code ∷ content) 0)
    ∙ set_at before 0 (name ++ code ∷ content) code (length before) refl
    ∙ sym (regroup before name (code ∷ content) code) in
    five_is
    ∙ ap (λ (it : List ℕ). set it place 0) first
    ∙ set_at (before ++ code ∷ [] ++ name) code content 0 place (front code)
    ∙ regroup before name (0 ∷ content) code
    ∙ ap (λ (it : List ℕ). before ++ code ∷ it) (sym (append_assoc name (0 ∷ []) content))
