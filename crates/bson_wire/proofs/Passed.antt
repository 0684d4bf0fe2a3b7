-- Values of foreign types: what is passed over is spelled so, and what is spelled so is passed over.
use Rattle.std.proofs.Common.{◌≡◌, ℕ, ◌-◌, ◌^◌, ◌<◌, ◌≤◌, true, false, eqb, List, [], ◌∷◌, ◌++◌, length, length-append, refl, sym, ap}
use Rattle.std.proofs.Common.{subst, ◌∙◌, append_assoc, arith, inl, inr}
use Rattle.std.specs.Prelude.{Result, Ok}
use Rattle.byteorder.specs.Numbers.{length-bytes_low_first}
use Rattle.bson_spelling.specs.declared.form.Form.TheVariants.{Bson}
use Rattle.bson_spelling.specs.Spelling.{int32, string}
use Rattle.bson_wire.specs.Grammar.{IsString, IsPointer, IsScoped, IsForeign}
use Rattle.std_words.specs.Steps.{◌>>=◌}
use Rattle.bson_wire.specs.Reading.{length_at, part_at, text_at, is_foreign, past_at, past_text_at, past_scoped_at, foreign_at}
use Rattle.std_words.proofs.Faults.{same_Ok, bind_ok, at_found}
use Rattle.std_words.proofs.Bytes.{IsBytes, regrouped}
use Rattle.bson_wire.proofs.Numbers.{length_takes, length_again}
use Rattle.bson_wire.proofs.Names.{part_takes, part_again}
use Rattle.bson_wire.proofs.Plain.{by_type, text_part_takes}
use Rattle.bson_wire.proofs.PlainAgain.{text_part_again}

-- ---- what is passed over is spelled so

-- bytes that are so, and the rest
abbrev pub Passes : (List ℕ → Type 0) → List ℕ → List ℕ → Type 0
Passes IsSo bytes rest = (content : List ℕ) × (bytes ≡ content ++ rest) × IsSo content

abbrev HasLength : ℕ → List ℕ → Type 0
HasLength len content = length content ≡ len

abbrev IsText : List ℕ → Type 0
IsText content = (text : List ℕ) × IsString content text

past_takes : (place len : ℕ) (bytes rest : List ℕ) → past_at place len bytes ≡ Ok rest → Passes (HasLength len) bytes rest
unfolding past_at
past_takes place len bytes rest is =
    let part = bind_ok (part_at place len bytes) (λ part. Ok part.1) rest is in
    let parted = part_takes place len bytes part.0 part.1 in
    at_found (Passes (HasLength len) bytes) part.0.1 rest part.2 (part.0.0, parted.0, parted.1)

past_text_takes : (place : ℕ) (bytes rest : List ℕ) → IsBytes bytes → past_text_at place bytes ≡ Ok rest
    → (text : List ℕ) × (bytes ≡ string Bson text ++ rest) × IsString (string Bson text) text
unfolding past_text_at
past_text_takes place bytes rest fits is =
    let text = bind_ok (text_at place bytes) (λ text. Ok text.1) rest is in
    let taken = text_part_takes place bytes text.0 fits text.1 in
    at_found (λ (it : List ℕ). (text : List ℕ) × (bytes ≡ string Bson text ++ it) × IsString (string Bson text) text) text.0.1 rest text.2
    (text.0.0, taken.0, taken.1)

text_takes : (place : ℕ) (bytes rest : List ℕ) → IsBytes bytes → past_text_at place bytes ≡ Ok rest → Passes IsText bytes rest
text_takes place bytes rest fits is = let taken = past_text_takes place bytes rest fits is in
    (string Bson taken.0, taken.1, (taken.0, taken.2))

pointer_takes : (place : ℕ) (bytes rest : List ℕ) → IsBytes bytes → (past_text_at place bytes >>= λ rest. past_at place 12 rest) ≡ Ok rest
    → Passes IsPointer bytes rest
pointer_takes place bytes rest fits is =
    let behind = bind_ok (past_text_at place bytes) (λ rest. past_at place 12 rest) rest is in
    let text = past_text_takes place bytes behind.0 fits behind.1 in
    let id = past_takes place 12 behind.0 rest behind.2 in
    let pointer : IsPointer (string Bson text.0 ++ id.0) = record {
      text = text.0;
      id = id.0;
      utf8 = text.2.utf8;
      small =
          text.2.small;
      twelve = id.2;
      whole = refl;
    } in
    (string Bson text.0 ++ id.0, regrouped bytes (string Bson text.0) behind.0 id.0 rest text.1 id.1, pointer)

scoped_made : (stated : ℕ) (inside : List ℕ) → length inside ≡ stated - 4 → 14 ≤ stated → stated < 2 ^ 31
    → IsScoped (int32 stated ++ inside)
scoped_made stated inside counted least small =
    let content = int32 stated ++ inside in
    let len : length content ≡ stated = omega (arith, counted, length-append (int32 stated) inside, length-bytes_low_first 0 4 stated) in
    record {
      inside = inside;
      least = omega (arith, len, least);
      small = omega (arith, len, small);
      whole =
          ap (λ (n : ℕ). int32 n ++ inside) (sym len);
    }

scoped_takes : (place : ℕ) (bytes rest : List ℕ) → IsBytes bytes → past_scoped_at place bytes ≡ Ok rest → Passes IsScoped bytes rest
unfolding past_scoped_at
scoped_takes place bytes rest fits is =
    let number = bind_ok (length_at place 14 bytes) (λ n. past_at place (n.0 - 4) n.1) rest is in
    let stated = length_takes place 14 bytes number.0 fits number.1 in
    let inside = past_takes place (number.0.0 - 4) number.0.1 rest number.2 in (
      int32 number.0.0 ++ inside.0,
      regrouped bytes (int32 number.0.0) number.0.1 inside.0 rest stated.0 inside.1,
      scoped_made number.0.0 inside.0 inside.2 stated.1 stated.2,
    )

nothing_takes : (bytes rest : List ℕ) → ◌≡◌ {A = Result (List ℕ) ℕ} (Ok bytes) (Ok rest) → Passes (HasLength 0) bytes rest
nothing_takes bytes rest is = ([], same_Ok bytes rest is, refl)

pub foreign_takes : (place code : ℕ) (bytes rest : List ℕ) → IsBytes bytes → foreign_at place code bytes ≡ Ok rest
    → Passes (IsForeign code) bytes rest
unfolding foreign_at
foreign_takes place code bytes rest fits is =
    by_type Is 1 code _ _ rest is (λ is. let taken = past_takes place 8 bytes rest is in (taken.0, taken.1, inl (refl, taken.2)))
    (λ is. by_type Is 6 code _ _ rest is (λ is. let taken = nothing_takes bytes rest is in (taken.0, taken.1, inr (inl (refl, taken.2))))
    (λ is. by_type Is 12 code _ _ rest is (λ is. let taken = pointer_takes place bytes rest fits is in
    (taken.0, taken.1, inr (inr (inl (refl, taken.2)))))
    (λ is. by_type Is 13 code _ _ rest is (λ is. let taken = text_takes place bytes rest fits is in
    (taken.0, taken.1, inr (inr (inr (inl (refl, taken.2.0, taken.2.1))))))
    (λ is. by_type Is 14 code _ _ rest is (λ is. let taken = text_takes place bytes rest fits is in
    (taken.0, taken.1, inr (inr (inr (inr (inl (refl, taken.2.0, taken.2.1)))))))
    (λ is. by_type Is 15 code _ _ rest is (λ is. let taken = scoped_takes place bytes rest fits is in
    (taken.0, taken.1, inr (inr (inr (inr (inr (inl (refl, taken.2))))))))
    (λ is. by_type Is 19 code _ _ rest is (λ is. let taken = past_takes place 16 bytes rest is in
    (taken.0, taken.1, inr (inr (inr (inr (inr (inr (inl (refl, taken.2)))))))))
    (λ is. by_type Is 127 code _ _ rest is (λ is. let taken =
    nothing_takes bytes rest is in (taken.0, taken.1, inr (inr (inr (inr (inr (inr (inr (inl (refl, taken.2))))))))))
    (λ is. by_type Is 255 code _ _ rest is (λ is. let taken =
    nothing_takes bytes rest is in (taken.0, taken.1, inr (inr (inr (inr (inr (inr (inr (inr (refl, taken.2))))))))))
    (λ is. absurd (cc is)))))))))) where
      Is : ℕ → Type 0
      Is c = Passes (IsForeign c) bytes rest

-- ---- what is spelled so is passed over

past_again : (place len : ℕ) (content rest : List ℕ) → length content ≡ len → past_at place len (content ++ rest) ≡ Ok rest
unfolding past_at
past_again place len content rest is = rw (part_again place len content rest is) refl

past_text_again : (place : ℕ) (content text rest : List ℕ) → IsString content text → past_text_at place (content ++ rest) ≡ Ok rest
unfolding past_text_at
past_text_again place content text rest is = rw (text_part_again place content text rest is) refl

pointer_again : (place : ℕ) (content rest : List ℕ) → IsPointer content
    → (past_text_at place (content ++ rest) >>= λ rest. past_at place 12 rest) ≡ Ok rest
pointer_again place content rest is =
    let regroup : content ++ rest ≡ string Bson is.text ++ (is.id ++ rest) = ap (λ (it : List ℕ). it ++ rest) is.whole
    ∙ append_assoc (string Bson is.text) is.id rest in
    let text = past_text_again place (string Bson is.text) is.text (is.id ++ rest)
    (record { utf8 = is.utf8; small = is.small; whole = refl }) in
    ap (λ (it : List ℕ). past_text_at place it >>= λ rest. past_at place 12 rest) regroup
    ∙ ap (λ (it : Result (List ℕ) ℕ). it >>= λ rest. past_at place 12 rest) text ∙ past_again place 12 is.id rest is.twelve

scoped_again : (place : ℕ) (content rest : List ℕ) → IsScoped content → past_scoped_at place (content ++ rest) ≡ Ok rest
unfolding past_scoped_at
scoped_again place content rest is =
    let len = length content in
    let regroup : content ++ rest ≡ int32 len ++ (is.inside ++ rest) = ap (λ (it : List ℕ). it ++ rest) is.whole
    ∙ append_assoc (int32 len) is.inside rest in
    let counted : length is.inside ≡ len - 4 = omega (
      arith,
      ap length is.whole,
      length-append (int32 len) is.inside,
      length-bytes_low_first 0 4 len,
    ) in
    ap (past_scoped_at place) regroup ∙ rw (length_again place 14 len (is.inside ++ rest) is.least is.small)
    (past_again place (len - 4) is.inside rest counted)

nothing_again : (content rest : List ℕ) → length content ≡ 0 → ◌≡◌ {A = Result (List ℕ) ℕ} (Ok (content ++ rest)) (Ok rest)
nothing_again [] rest none = refl
nothing_again (byte ∷ content) rest none = absurd (omega (arith, none))

-- by its type byte it is no container, and it is passed over
abbrev pub IsPassed : ℕ → List ℕ → List ℕ → ℕ → Type 0
IsPassed place content rest code = (eqb code 3 ≡ false) × (eqb code 4 ≡ false) × (is_foreign code ≡ true)
    × (foreign_at place code (content ++ rest) ≡ Ok rest)

pub foreign_again : (place code : ℕ) (content rest : List ℕ) → IsForeign code content → IsPassed place content rest code
unfolding foreign_at is_foreign
foreign_again place code content rest is =
    elim is [
      | inl it ↦ subst Is (sym it.0) (refl, refl, refl, past_again place 8 content rest it.1)
      | inr is ↦ elim is [
        | inl it ↦ subst Is (sym it.0) (refl, refl, refl, nothing_again content rest it.1)
        | inr is ↦ elim is [
          | inl it ↦ subst Is (sym it.0) (refl, refl, refl, pointer_again place content rest it.1)
          | inr is ↦ elim is [
            | inl it ↦ subst Is (sym it.0) (refl, refl, refl, past_text_again place content it.1 rest it.2)
            | inr is ↦ elim is [
              | inl it ↦ subst Is (sym it.0) (refl, refl, refl, past_text_again place content it.1 rest it.2)
              | inr is ↦ elim is [
                | inl it ↦ subst Is (sym it.0) (refl, refl, refl, scoped_again place content rest it.1)
                | inr is ↦ elim is [
                  | inl it ↦ subst Is (sym it.0) (refl, refl, refl, past_again place 16 content rest it.1)
                  | inr is ↦ elim is [
                    | inl it ↦ subst Is (sym it.0) (refl, refl, refl, nothing_again content rest it.1)
                    | inr it ↦ subst Is (sym it.0) (refl, refl, refl, nothing_again content rest it.1)
                  ]
                ]
              ]
            ]
          ]
        ]
      ]
    ] where
      Is : ℕ → Type 0
      Is c = IsPassed place content rest c
