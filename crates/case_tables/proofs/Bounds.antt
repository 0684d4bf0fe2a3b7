-- How great the codes and how long the texts of refusals are.
use Rattle.std.proofs.Common.{◌≡◌, ℕ, ◌≤◌, Bool, true, false, cond, eqb, leb, List, [], ◌∷◌, length, refl}
use Rattle.std.specs.List.{list_all}
use Rattle.std.proofs.lemmas.Bool.{leb-true}
use Rattle.case_tables.specs.Types.{types, type_name_of}
use Rattle.std_words.proofs.Tests.{and-both}
use Rattle.case_tables.specs.Refusals.{beside, kind_codes, kind_texts, error_codes, code_of, text_of, code_name_of}

-- what holds of what stands for no row and of each row holds of what is found
found : {A : Type 0} (test : A → Bool) (none : A) (number : ℕ) (rows : List (ℕ × A)) → test none ≡ true
    → list_all (λ (row : ℕ × A). test row.1) rows ≡ true → test (beside none number rows) ≡ true
found test none number [] base all = base
found {A} test none number (row ∷ rows) base all =
    let parts = and-both (test row.1) (list_all (λ (it : ℕ × A). test it.1) rows) all in
    pick test row.1 (beside none number rows) (eqb row.0 number) parts.0 (found test none number rows base parts.1)
  where
    pick : {A : Type 0} (test : A → Bool) (one other : A) (is : Bool) → test one ≡ true → test other ≡ true
        → test (cond is one other) ≡ true
    pick test one other true first second = first
    pick test one other false first second = second

pub code_small : (kind : ℕ) → code_of kind ≤ 20003
unfolding code_of
code_small kind = leb-true _ _ (found (λ code. leb code 20003) 0 kind kind_codes refl refl)

pub text_short : (kind : ℕ) → length (text_of kind) ≤ 50
unfolding text_of
text_short kind = leb-true _ _ (found (λ text. leb (length text) 50) [] kind kind_texts refl refl)

pub name_short : (kind : ℕ) → length (code_name_of kind) ≤ 50
unfolding code_name_of
name_short kind = leb-true _ _ (found (λ name. leb (length name) 50) [] (code_of kind) error_codes refl refl)

pub type_name_short : (code : ℕ) → length (type_name_of code) ≤ 50
unfolding type_name_of
type_name_short code = leb-true _ _ (found (λ name. leb (length name) 50) [] code types refl refl)
