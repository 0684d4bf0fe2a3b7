-- Documents: what is read is spelled so, and what is spelled so is read.
use Rattle.std.proofs.Common.{◌≡◌, ℕ, zero, suc, ◌+◌, ◌-◌, ◌^◌, ◌<◌, ◌≤◌, List, [], ◌∷◌, ◌++◌, length, take, refl, sym, ap, subst, ◌∙◌}
use Rattle.std.proofs.Common.{append_assoc, arith}
use Rattle.std.specs.Prelude.{Result, Ok}
use Rattle.std.proofs.lemmas.List.{length-append, take_at, append_cancel_right}
use Rattle.byteorder.specs.Numbers.{length-bytes_low_first}
use Rattle.bson_values.specs.declared.value.Value.{Value}
use Rattle.bson_wire.specs.declared.foreign.Foreign.{Foreign}
use Rattle.bson_spelling.specs.Spelling.{int32, cstring}
use Rattle.bson_wire.specs.Grammar.{Element, kept, foreigns, values, AreElements, Encloses, spells_within, spells}
use Rattle.std_words.specs.Steps.{◌>>=◌}
use Rattle.bson_wire.specs.Reading.{length_at, part_at, ended_at, all_at, enclosed_at, document_at, array_at}
use Rattle.std_words.proofs.Faults.{same_Ok, bind_ok, at_found}
use Rattle.std_words.proofs.Bytes.{IsBytes, IsBytes-front, IsBytes-rest, Takes, regrouped}
use Rattle.bson_wire.proofs.Numbers.{length_takes, length_again}
use Rattle.bson_wire.proofs.Names.{part_takes, part_again, ended_takes, ended_again}
use Rattle.bson_wire.proofs.Values.{Doc, AreTaken, AreRead, IsArrayAt, elements_take, elements_again}

-- a length, a part that a 00 byte ends, and the rest
cut_so : (stated : ℕ) (bytes behind part inside rest : List ℕ) → bytes ≡ int32 stated ++ behind → behind ≡ part ++ rest
    → part ≡ cstring inside → length part ≡ stated - 4
    → (bytes ≡ (int32 stated ++ cstring inside) ++ rest) × (length bytes ≡ 4 + (length inside + 1 + length rest))
    × (length inside + 1 ≡ stated - 4)
cut_so stated bytes behind part inside rest front parted ended counted =
    let whole = regrouped bytes (int32 stated) behind (cstring inside) rest front (parted ∙ ap (λ (it : List ℕ). it ++ rest) ended) in
    let lengths = ap length whole in (
      whole,
      omega (
        arith,
        lengths,
        length-append (int32 stated ++ cstring inside) rest,
        length-append (int32 stated) (cstring inside),
        length-append inside (0 ∷ []),
        length-bytes_low_first 0 4 stated,
      ),
      omega (arith, counted, ap length ended, length-append inside (0 ∷ [])),
    )

module _ (IsDocument : ℕ → List ℕ → Doc → List Foreign → Type 0) (document : ℕ → List ℕ → Result (Doc × List Foreign × List ℕ) ℕ) (array : ℕ
    → List ℕ → Result (List Value × List Foreign × List ℕ) ℕ) where
  -- elements between their stated length and a 00 byte are a document
  document_made : (stated place : ℕ) (inside : List ℕ) (elements : List Element) → length inside + 1 ≡ stated - 4 → 5 ≤ stated
      → stated < 2 ^ 31 → AreElements IsDocument (place + 4) inside elements
      → Encloses IsDocument place (int32 stated ++ cstring inside) elements
  document_made stated place inside elements counted least small are =
      let spelling = int32 stated ++ cstring inside in
      let len : length spelling ≡ stated = omega (
        arith,
        length-append (int32 stated) (cstring inside),
        length-append inside (0 ∷ []),
        length-bytes_low_first 0 4 stated,
      ) in
      let whole : spelling ≡ int32 (length spelling) ++ cstring inside = ap (λ (n : ℕ). int32 n ++ cstring inside) (sym len) in
      record {
        inside = inside;
        small = omega arith;
        whole = whole
            ∙ sym (append_assoc (int32 (length spelling)) inside (0 ∷ []));
        are = are;
      }

  -- what is read behind the length: elements in a part, and the 00 byte that ends it
  abbrev inside_at : ℕ → ℕ → List ℕ × List ℕ → Result (List Element × List ℕ) ℕ
  inside_at here end part = all_at document array (end - (length part.1 + 1)) (take (length part.0 - 1) part.0) >>=
      λ found. ended_at here part.0 >>= λ inside. Ok (found, part.1)

  -- a length, a part, the elements in it and its 00 byte, each of them read
  parts_take : AreTaken IsDocument document → AreTaken (IsArrayAt IsDocument) array
      → (here end place : ℕ) (bytes inside : List ℕ) (number : ℕ × List ℕ) (part : List ℕ × List ℕ) (elements : List Element)
      → IsBytes bytes → place + length bytes ≡ end → length_at here 5 bytes ≡ Ok number → part_at here (number.0 - 4) number.1 ≡ Ok part
      → all_at document array (end - (length part.1 + 1)) (take (length part.0 - 1) part.0) ≡ Ok elements → ended_at here part.0 ≡ Ok inside
      → Takes (Encloses IsDocument place) bytes (elements, part.1)
  parts_take docs arrays here end place bytes inside number part elements fits at counted parted read closed =
      let front = take (length part.0 - 1) part.0 in
      let stated = length_takes here 5 bytes number fits counted in
      let cut = part_takes here (number.0 - 4) number.1 part parted in
      let ended = ended_takes here part.0 inside (omega (arith, stated.1, cut.1)) closed in
      let fits_part = IsBytes-front part.0 part.1 number.1 cut.0 (IsBytes-rest (int32 number.0) number.1 bytes stated.0 fits) in
      let fits_front : IsBytes front = subst IsBytes (sym ended.1) (IsBytes-front inside (0 ∷ []) part.0 ended.0 fits_part) in
      let so = cut_so number.0 bytes number.1 part.0 inside part.1 stated.0 cut.0 ended.0 cut.1 in
      let long : length front ≡ length inside = ap (λ (it : List ℕ). length it) ended.1 in
      let within : (place + 4) + length front ≡ end - (length part.1 + 1) = omega (arith, at, so.1, long) in
      let taken = elements_take IsDocument document array docs arrays (length front + 1) (end - (length part.1 + 1))
      (place + 4) front elements fits_front within read in
      let are = subst (λ (it : List ℕ). AreElements IsDocument (place + 4) it elements) ended.1 taken in
      (int32 number.0 ++ cstring inside, so.0, document_made number.0 place inside elements so.2 stated.1 stated.2 are)

  enclosed_takes : AreTaken IsDocument document → AreTaken (IsArrayAt IsDocument) array
      → (end place : ℕ) (bytes : List ℕ) (found : List Element × List ℕ) → IsBytes bytes → place + length bytes ≡ end
      → enclosed_at document array end bytes ≡ Ok found → Takes (Encloses IsDocument place) bytes found
  unfolding enclosed_at
  enclosed_takes docs arrays end place bytes found fits at is =
      let here = end - length bytes in
      let number = bind_ok (length_at here 5 bytes) (λ n. part_at here (n.0 - 4) n.1 >>= λ part. inside_at here end part) found is in
      let part = bind_ok (part_at here (number.0.0 - 4) number.0.1) (λ part. inside_at here end part) found number.2 in
      let all = bind_ok (all_at document array (end - (length part.0.1 + 1)) (take (length part.0.0 - 1) part.0.0))
      (λ found. ended_at here part.0.0 >>= λ inside. Ok (found, part.0.1)) found part.2 in
      let inside = bind_ok (ended_at here part.0.0) (λ inside. Ok (all.0, part.0.1)) found all.2 in
      at_found (Takes (Encloses IsDocument place) bytes) (all.0, part.0.1) found inside.2
      (parts_take docs arrays here end place bytes inside.0 number.0 part.0 all.0 fits at number.1 part.1 all.1 inside.1)

  enclosed_again : AreRead IsDocument document → AreRead (IsArrayAt IsDocument) array
      → (end place : ℕ) (spelling rest : List ℕ) (elements : List Element) → Encloses IsDocument place spelling elements
      → place + length (spelling ++ rest) ≡ end → enclosed_at document array end (spelling ++ rest) ≡ Ok (elements, rest)
  unfolding enclosed_at
  enclosed_again docs arrays end place spelling rest elements is at =
      let stated = int32 (length spelling) in
      let whole : spelling ≡ stated ++ cstring is.inside = is.whole ∙ append_assoc stated is.inside (0 ∷ []) in
      let regroup : spelling ++ rest ≡ stated ++ (cstring is.inside ++ rest) = ap (λ (it : List ℕ). it ++ rest) whole
      ∙ append_assoc stated (cstring is.inside) rest in
      let lengths : length (stated ++ cstring is.inside) ≡ 4 + (length is.inside + 1) =
      omega (
        arith,
        length-append stated (cstring is.inside),
        length-append is.inside (0 ∷ []),
        length-bytes_low_first 0 4 (length spelling),
      ) in
      let len : length spelling ≡ 4 + (length is.inside + 1) = ap length whole ∙ lengths in
      let here = end - length (stated ++ (cstring is.inside ++ rest)) in
      let counted = length_again here 5 (length spelling) (cstring is.inside ++ rest) (omega arith) is.small in
      let parted = part_again here (length spelling - 4) (cstring is.inside) rest (omega (arith, length-append is.inside (0 ∷ []))) in
      let cut : take (length (cstring is.inside) - 1) (cstring is.inside) ≡ is.inside =
      take_at is.inside (0 ∷ []) (length (cstring is.inside) - 1) (omega (arith, length-append is.inside (0 ∷ []))) in
      let within : (place + 4) + length is.inside ≡ end - (length rest + 1) = omega (arith, at, len, length-append spelling rest) in
      let all = elements_again IsDocument document array docs arrays elements (length is.inside + 1) (end - (length rest + 1))
      (place + 4) is.inside is.are within (omega arith) in
      ap (enclosed_at document array end) regroup ∙ rw (counted, parted, cut, all, ended_again here is.inside) refl

-- ---- level by level

within_take : (levels : ℕ) → AreTaken (spells_within levels) (document_at levels)
    × AreTaken (IsArrayAt (spells_within levels)) (array_at levels)
unfolding spells_within document_at array_at
within_take zero = (λ end place bytes found fits at is. absurd (cc is), λ end place bytes found fits at is. absurd (cc is))
within_take (suc levels) =
    let inner = within_take levels in (
      λ end place bytes found fits at is.
          let all = bind_ok (enclosed_at (document_at levels) (array_at levels) end bytes)
          (λ it. Ok (kept it.0, foreigns it.0, it.1)) found is in
          let taken = enclosed_takes (spells_within levels) (document_at levels)
          (array_at levels) inner.0 inner.1 end place bytes all.0 fits at all.1 in
          at_found (λ (found : Doc × List Foreign × List ℕ). Takes
          (λ (spelling : List ℕ) (it : Doc). spells_within (suc levels) place spelling it found.1) bytes (found.0, found.2))
          (kept all.0.0, foreigns all.0.0, all.0.1) found all.2
          (taken.0, taken.1, (all.0.0, taken.2, refl, refl)),
      λ end place bytes found fits at is.
          let all = bind_ok (enclosed_at (document_at levels) (array_at levels) end bytes)
          (λ it. Ok (values (kept it.0), foreigns it.0, it.1)) found is in
          let taken = enclosed_takes (spells_within levels) (document_at levels)
          (array_at levels) inner.0 inner.1 end place bytes all.0 fits at all.1 in
          at_found (λ (found : List Value × List Foreign × List ℕ). Takes
          (λ (spelling : List ℕ) (it : List Value). IsArrayAt (spells_within (suc levels)) place spelling it found.1) bytes
          (found.0, found.2)) (values (kept all.0.0), foreigns all.0.0, all.0.1) found all.2
          (taken.0, taken.1, (kept all.0.0, (all.0.0, taken.2, refl, refl), refl)),
    )

within_again : (levels : ℕ) → AreRead (spells_within levels) (document_at levels)
    × AreRead (IsArrayAt (spells_within levels)) (array_at levels)
unfolding spells_within document_at array_at
within_again zero = (λ end place spelling rest doc foreign is at. absurd is, λ end place spelling rest items foreign is at. absurd is.1)
within_again (suc levels) =
    let inner = within_again levels in (
      λ end place spelling rest doc foreign is at.
          ap (λ (all : Result (List Element × List ℕ) ℕ). all >>= λ it. Ok (kept it.0, foreigns it.0, it.1))
          (enclosed_again (spells_within levels) (document_at levels)
          (array_at levels) inner.0 inner.1 end place spelling rest is.0 is.1 at)
          ∙ ap (λ (it : Doc). Ok (it, foreigns is.0, rest)) is.2
          ∙ ap (λ (it : List Foreign). Ok (doc, it, rest)) is.3,
      λ end place spelling rest items foreign is at.
          let doc = is.1 in
          ap (λ (all : Result (List Element × List ℕ) ℕ). all >>= λ it. Ok (values (kept it.0), foreigns it.0, it.1))
          (enclosed_again (spells_within levels) (document_at levels)
          (array_at levels) inner.0 inner.1 end place spelling rest doc.0 doc.1 at)
          ∙ ap (λ (it : Doc). Ok (values it, foreigns doc.0, rest)) doc.2
          ∙ ap (λ (it : List Foreign). Ok (values is.0, it, rest)) doc.3
          ∙ ap (λ (it : List Value). Ok (it, foreign, rest)) is.2,
    )

pub document_takes : (bytes : List ℕ) (found : Doc × List Foreign × List ℕ) → IsBytes bytes
    → document_at 128 (length bytes) bytes ≡ Ok found → Takes (λ spelling it. spells spelling it found.1) bytes (found.0, found.2)
document_takes bytes found fits is = (within_take 128).0 (length bytes) 0 bytes found fits (omega arith) is

pub document_again : (spelling rest : List ℕ) (doc : Doc) (foreign : List Foreign) → spells spelling doc foreign
    → document_at 128 (length (spelling ++ rest)) (spelling ++ rest) ≡ Ok (doc, foreign, rest)
document_again spelling rest doc foreign is = (within_again 128).0 (length (spelling ++ rest)) 0 spelling rest doc foreign is (omega arith)

-- no spelling begins another
pub same_spelling : (a b x y : List ℕ) (m n : Doc) (f g : List Foreign) → spells a m f → spells b n g → a ++ x ≡ b ++ y
    → (a ≡ b) × (m ≡ n) × (f ≡ g)
same_spelling a b x y m n f g one other same =
    let both = same_Ok (m, f, x) (n, g, y) (sym (document_again a x m f one) ∙ ap (λ (it : List ℕ). document_at 128 (length it) it) same
    ∙ document_again b y n g other) in
    let rest : x ≡ y = ap (λ (it : Doc × List Foreign × List ℕ). it.2) both in (
      append_cancel_right a b y (ap (λ (it : List ℕ). a ++ it) (sym rest) ∙ same),
      ap (λ (it : Doc × List Foreign × List ℕ). it.0) both,
      ap (λ (it : Doc × List Foreign × List ℕ). it.1) both,
    )
