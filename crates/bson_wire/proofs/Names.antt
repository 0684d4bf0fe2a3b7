-- Parts, names, and what a 00 byte ends.
use Rattle.std.proofs.Common.{◌≡◌, ◌≢◌, ℕ, ◌+◌, ◌-◌, ◌<◌, ◌≤◌, true, false, ltb, eqb, List, [], ◌∷◌, ◌++◌, length, get_or, take, drop, All}
use Rattle.std.proofs.Common.{refl, sym, ap, subst, ◌∙◌, append_assoc, arith}
use Rattle.std.specs.Prelude.{Option, Some, None, Ok, position, ◌==◌, slice_index}
use Rattle.std.proofs.lemmas.Bool.{ltb-false, le-ltb, lt-ltb, eqb-true, eqb-false, ne_eqb}
use Rattle.std.proofs.lemmas.List.{length-append, length-take, append-nil, drop_all, take-append-drop, take_at, drop_at, drop_more}
use Rattle.std.proofs.lemmas.List.{get_or_at, get_or-take, get_or_append_left}
use Rattle.std.proofs.lemmas.List.Elements.{All-get_or, All-from_get_or}
use Rattle.std.proofs.lemmas.List.Quantifiers.{position-Some}
use Rattle.std.proofs.lemmas.List.Sums.{position_or_len_is}
use Rattle.bson_spelling.specs.Spelling.{cstring}
use Rattle.bson_wire.specs.Grammar.{IsName}
use Rattle.std_words.specs.Steps.{◌>>=◌}
use Rattle.bson_wire.specs.Reading.{text_of, nul_at, name_at, part_at, ended_at}
use Rattle.std_words.proofs.Faults.{same_Ok, bind_ok, unless_ok, when_ok, at_found}
use Rattle.bson_wire.proofs.Texts.{text_again, text_takes}

-- a 00 byte ends what stands before it
nul_ends : (bytes : List ℕ) (place : ℕ) → place < length bytes → get_or bytes place 0 ≡ 0
    → bytes ≡ cstring (take place bytes) ++ drop (place + 1) bytes
nul_ends bytes place within nul =
    let rest = drop (place + 1) bytes in
    sym (take-append-drop place bytes)
    ∙ ap (λ (part : List ℕ). take place bytes ++ part) (drop_more bytes place 0 within ∙ ap (λ (byte : ℕ). byte ∷ rest) nul)
    ∙ sym (append_assoc (take place bytes) (0 ∷ []) rest)

-- a 00 byte that was found
nul_found : (place : ℕ) (found : Option ℕ) (len : ℕ) → nul_at place found ≡ Ok len → found ≡ Some len
unfolding nul_at
nul_found place None len is = absurd cc
nul_found place (Some len') len is = ap (λ (n : ℕ). Some n) (same_Ok len' len is)

nul_again : (place : ℕ) (found : Option ℕ) (len : ℕ) → found ≡ Some len → nul_at place found ≡ Ok len
unfolding nul_at
nul_again place found len is = rw is refl

pub name_takes : (place : ℕ) (bytes : List ℕ) (found : List ℕ × List ℕ) → name_at place bytes ≡ Ok found
    → (bytes ≡ cstring found.0 ++ found.1) × IsName found.0
unfolding name_at
name_takes place bytes found is =
    let len = bind_ok (nul_at place (position (λ byte. byte == 0) bytes)) (λ len. text_of place (take len bytes) >>=
    λ name. Ok (name, drop (len + 1) bytes)) found is in
    let text = bind_ok (text_of place (take len.0 bytes)) (λ name. Ok (name, drop (len.0 + 1) bytes)) found len.2 in
    let first = position-Some (λ byte. byte == 0) bytes len.0 0 (nul_found place (position (λ byte. byte == 0) bytes) len.0 len.1) in
    let utf8 = text_takes place (take len.0 bytes) text.0 text.1 in
    let ended = nul_ends bytes len.0 first.0 (eqb-true _ _ first.1) in
    let no_nul : All (λ byte. byte ≢ 0) (take len.0 bytes) = All-from_get_or (λ byte. byte ≢ 0) (take len.0 bytes) 0
    (λ i within. let below : i < len.0 = omega (arith, length-take len.0 bytes) in rw (get_or-take len.0 bytes i 0 below)
    (eqb-false _ _ (first.2 i below))) in
    at_found (λ it. (bytes ≡ cstring it.0 ++ it.1) × IsName it.0) (text.0, drop (len.0 + 1) bytes) found text.2 (
      ended ∙ ap (λ (text : List ℕ). cstring text ++ drop (len.0 + 1) bytes) utf8.0,
      record { utf8 = utf8.1; no_nul = subst (λ (text : List ℕ). All (λ byte. byte ≢ 0) text) utf8.0 no_nul },
    )

-- the first 00 byte is the one that ends the name
nul_behind : (name rest : List ℕ) → All (λ byte. byte ≢ 0) name → position (λ byte. byte == 0) (name ++ 0 ∷ rest) ≡ Some (length name)
nul_behind name rest no_nul =
    let len = length-append name (0 ∷ rest) in
    let place = position_or_len_is (λ byte. byte == 0) (name ++ 0 ∷ rest) (length name) 0 (omega arith)
    (λ k below. rw (get_or_append_left name (0 ∷ rest) 0 k below) (ne_eqb _ _ (All-get_or (λ byte. byte ≢ 0) name k 0 below no_nul)))
    (λ below. rw (get_or_at name 0 rest 0 (length name) refl) refl) in
    let within : ltb (length name) (length (name ++ 0 ∷ rest)) ≡ true = lt-ltb _ _ (omega arith) in
    rw (place, within) refl

pub name_again : (place : ℕ) (name rest : List ℕ) → IsName name → name_at place (cstring name ++ rest) ≡ Ok (name, rest)
unfolding name_at
name_again place name rest is =
    let regroup : cstring name ++ rest ≡ name ++ 0 ∷ rest = append_assoc name (0 ∷ []) rest in
    let first : position (λ byte. byte == 0) (cstring name ++ rest) ≡ Some (length name) = rw regroup (nul_behind name rest is.no_nul) in
    let len = nul_again place (position (λ byte. byte == 0) (cstring name ++ rest)) (length name) first in
    let front : take (length name) (cstring name ++ rest) ≡ name = rw regroup (take_at name (0 ∷ rest) (length name) refl) in
    let after : drop (length name + 1) (cstring name ++ rest) ≡ rest =
    drop_at (cstring name) rest (length name + 1) (length-append name (0 ∷ [])) in
    rw (len, front, after, text_again place name is.utf8) refl

pub part_takes : (place len : ℕ) (bytes : List ℕ) (found : List ℕ × List ℕ) → part_at place len bytes ≡ Ok found
    → (bytes ≡ found.0 ++ found.1) × (length found.0 ≡ len)
unfolding part_at
part_takes place len bytes found is =
    let test = unless_ok (ltb (length bytes) len) place (Ok (take len bytes, drop len bytes)) found is in
    let long : len ≤ length bytes = ltb-false _ _ test.0 in
    at_found (λ it. (bytes ≡ it.0 ++ it.1) × (length it.0 ≡ len)) (take len bytes, drop len bytes) found test.1
    (sym (take-append-drop len bytes), omega (arith, length-take len bytes))

pub part_again : (place len : ℕ) (front rest : List ℕ) → length front ≡ len → part_at place len (front ++ rest) ≡ Ok (front, rest)
unfolding part_at
part_again place len front rest is =
    let long : ltb (length (front ++ rest)) len ≡ false = le-ltb _ _ (omega (arith, length-append front rest)) in
    rw (long, take_at front rest len is, drop_at front rest len is) refl

pub ended_takes : (place : ℕ) (bytes inside : List ℕ) → 0 < length bytes → ended_at place bytes ≡ Ok inside
    → (bytes ≡ cstring inside) × (take (length bytes - 1) bytes ≡ inside)
unfolding ended_at
ended_takes place bytes inside some is =
    let test = when_ok (eqb (slice_index bytes (length bytes - 1)) 0) place (Ok (take (length bytes - 1) bytes)) inside is in
    let same : take (length bytes - 1) bytes ≡ inside = same_Ok (take (length bytes - 1) bytes) inside test.1 in
    let ended = nul_ends bytes (length bytes - 1) (omega arith) (eqb-true _ _ test.0) in
    let none : drop (length bytes - 1 + 1) bytes ≡ [] = drop_all (length bytes - 1 + 1) bytes (omega arith) in (
      ended ∙ ap (λ (rest : List ℕ). cstring (take (length bytes - 1) bytes) ++ rest) none
          ∙ append-nil (cstring (take (length bytes - 1) bytes)) ∙ ap cstring same,
      same,
    )

pub ended_again : (place : ℕ) (inside : List ℕ) → ended_at place (cstring inside) ≡ Ok inside
unfolding ended_at
ended_again place inside =
    let len : length inside ≡ length (cstring inside) - 1 = omega (arith, length-append inside (0 ∷ [])) in
    let nul : slice_index (cstring inside) (length (cstring inside) - 1) ≡ 0 = get_or_at inside 0 [] 0 (length (cstring inside) - 1) len in
    rw (nul, take_at inside (0 ∷ []) (length (cstring inside) - 1) len) refl
