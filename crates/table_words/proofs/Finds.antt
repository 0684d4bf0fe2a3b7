-- Which table is found by its number, and which by its space.
use Rattle.std.proofs.Common.{◌≡◌, ℕ, ◌<◌, ◌≤◌, ◌==◌, Bool, true, false, List, [], ◌∷◌, ◌++◌, Option, None, Some, refl, ap, sym, ◌∙◌, subst, arith}
use Rattle.std.proofs.lemmas.Bool.{eqb-true, and_parts}
use Rattle.std.proofs.lemmas.Bool.Decides.{nat_tests}
use Rattle.std.proofs.lemmas.Slice.Eq.{bytes_eq-Decides}
use Rattle.std.specs.Str.{bytes_eq}
use Rattle.bson_values.specs.declared.space.Space.{Space}
use Rattle.bson_values.specs.Names.{same_space}
use Rattle.std_words.proofs.Tests.{never-both}
use Rattle.table_words.specs.Tables.{Table, Tables, named, numbered}
use Rattle.table_words.specs.Sound.{IsApart, SoundTable, SoundTables}

pub number-same : (n : ℕ) → (n == n) ≡ true
number-same n = grind (arith, nat_tests)

pub number-apart : (n m : ℕ) → m < n → (n == m) ≡ false
number-apart n m less = grind (arith, nat_tests)

-- the test on spaces is equality
pub space-equal : (a b : Space) → same_space a b ≡ true → a ≡ b
space-equal a b same =
    let both = and_parts (bytes_eq a.db b.db) (bytes_eq a.coll b.coll) same in
    let db = (bytes_eq-Decides a.db b.db).0 both.0 in
    let coll = (bytes_eq-Decides a.coll b.coll).0 both.1 in
    λ i. record { db = db i; coll = coll i }

pub space-same : (a : Space) → same_space a a ≡ true
space-same a = rw ((bytes_eq-Decides a.db a.db).1 refl, (bytes_eq-Decides a.coll a.coll).1 refl) refl

pub space-swap : (a b : Space) → same_space a b ≡ false → same_space b a ≡ false
space-swap a b apart = cases (same_space b a) refl
  where
    cases : (x : Bool) → same_space b a ≡ x → same_space b a ≡ false
    cases true e = never-both (same_space a b) (subst (λ (y : Space). same_space a y ≡ true) (sym (space-equal b a e)) (space-same a)) apart
    cases false e = e

-- a table that is found is the first one or stands in the rest
pub found-number : {P : Type 0} (n : ℕ) (v t : Table) (vs : List Table) → numbered n (v ∷ vs) ≡ Some t
    → ((n == v.number) ≡ true → v ≡ t → P) → ((n == v.number) ≡ false → numbered n vs ≡ Some t → P) → P
found-number {P} n v t vs found here there = cases (n == v.number) refl
  where
    cases : (b : Bool) → (n == v.number) ≡ b → P
    cases true e = let same : Some v ≡ Some t = rw e at found in here e cc
    cases false e = there e (rw e at found)

pub found-space : {P : Type 0} (space : Space) (v t : Table) (vs : List Table) → named space (v ∷ vs) ≡ Some t
    → (same_space space v.space ≡ true → v ≡ t → P) → (same_space space v.space ≡ false → named space vs ≡ Some t → P) → P
found-space {P} space v t vs found here there = cases (same_space space v.space) refl
  where
    cases : (b : Bool) → same_space space v.space ≡ b → P
    cases true e = let same : Some v ≡ Some t = rw e at found in here e cc
    cases false e = there e (rw e at found)

-- it has the number, or the space
pub has-number : (n : ℕ) (t : Table) (vs : List Table) → numbered n vs ≡ Some t → t.number ≡ n
has-number n t [] found = absurd cc
has-number n t (v ∷ vs) found =
    found-number n v t vs found (λ e same. sym (eqb-true n t.number (subst (λ (x : Table). (n == x.number) ≡ true) same e)))
    (λ e more. has-number n t vs more)

pub has-space : (space : Space) (t : Table) (vs : List Table) → named space vs ≡ Some t → space ≡ t.space
has-space space t [] found = absurd cc
has-space space t (v ∷ vs) found =
    found-space space v t vs found (λ e same. space-equal space t.space (subst (λ (x : Table). same_space space x.space ≡ true) same e))
    (λ e more. has-space space t vs more)

-- what is apart from all is apart from the one that is found
pub number-rises : (v t : Table) (n : ℕ) (vs : List Table) → IsApart v vs → numbered n vs ≡ Some t → v.number < n
number-rises v t n [] apart found = absurd cc
number-rises v t n (u ∷ us) apart found =
    found-number n u t us found (λ e same. subst (λ k. v.number < k) (sym (eqb-true n u.number e)) apart.1)
    (λ e more. number-rises v t n us apart.2 more)

pub spaces-apart : (v t : Table) (n : ℕ) (vs : List Table) → IsApart v vs → numbered n vs ≡ Some t → same_space v.space t.space ≡ false
spaces-apart v t n [] apart found = absurd cc
spaces-apart v t n (u ∷ us) apart found =
    found-number n u t us found (λ e same. subst (λ (x : Table). same_space v.space x.space ≡ false) same apart.0)
    (λ e more. spaces-apart v t n us apart.2 more)

-- what is found behind a table that is apart is found with it too
pub numbered-skip : (n : ℕ) (v t : Table) (vs : List Table) → IsApart v vs → numbered n vs ≡ Some t → numbered n (v ∷ vs) ≡ Some t
numbered-skip n v t vs apart found = rw (number-apart n v.number (number-rises v t n vs apart found)) found

-- what is found by its number is found by its space, and the other way round
pub named-numbered : (next n : ℕ) (t : Table) (vs : List Table) → SoundTables next vs → numbered n vs ≡ Some t → named t.space vs ≡ Some t
named-numbered next n t [] sound found = absurd cc
named-numbered next n t (v ∷ vs) sound found = found-number n v t vs found
    (λ e same. subst (λ (x : Table). named x.space (v ∷ vs) ≡ Some x) same (rw (space-same v.space) refl))
    (λ e more. rw (space-swap v.space t.space (spaces-apart v t n vs sound.1 more)) (named-numbered next n t vs sound.2 more))

pub numbered-named : (next : ℕ) (space : Space) (t : Table) (vs : List Table) → SoundTables next vs → named space vs ≡ Some t
    → numbered t.number vs ≡ Some t
numbered-named next space t [] sound found = absurd cc
numbered-named next space t (v ∷ vs) sound found = found-space space v t vs found
    (λ e same. subst (λ (x : Table). numbered x.number (v ∷ vs) ≡ Some x) same (rw (number-same v.number) refl))
    (λ e more. numbered-skip t.number v t vs sound.1 (numbered-named next space t vs sound.2 more))

-- the table that is found is sound
pub sound-found : (next n : ℕ) (t : Table) (vs : List Table) → SoundTables next vs → numbered n vs ≡ Some t → SoundTable next t
sound-found next n t [] sound found = absurd cc
sound-found next n t (v ∷ vs) sound found = found-number n v t vs found
    (λ e same. subst (λ (x : Table). SoundTable next x) same sound.0)
    (λ e more. sound-found next n t vs sound.2 more)
