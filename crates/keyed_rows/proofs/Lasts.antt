-- The last place among entries.
use Rattle.std.proofs.Common.{◌≡◌, ◌<◌, ◌≤◌, ◌&&◌, ℕ, Bool, true, false, cond, Option, Some, List, [], ◌∷◌, refl, sym, arith}
use Rattle.std.specs.Prelude.{IsSome, nat_lt}
use Rattle.std.specs.BTreeMap.{is_at}
use Rattle.std.specs.Map.{lookup}
use Rattle.std.specs.Ordering.{MatchOrdering, is_eq, is_lt, nat_cmp}
use Rattle.std.specs.declared.cmp.Ordering.{Ordering}
use Rattle.std.specs.declared.cmp.Ordering.TheVariants.{Less, Equal, Greater}
use Rattle.std.proofs.lemmas.Bool.{le-ltb, lt-ltb, ltb-false, ltb-true}
use Rattle.std.proofs.lemmas.Cmp.{ranked}
use Rattle.std.proofs.lemmas.Map.Keys.{ge_from_not_lt}
use Rattle.keyed_rows.specs.declared.entry.Entry.{Entry}
use Rattle.keyed_rows.specs.Entries.{above}
use Rattle.keyed_rows.specs.Index.{stored}
use Rattle.keyed_rows.proofs.Finds.{itself}
use Rattle.keyed_rows.proofs.Edits.{and-made}

module _ {V : Type 0} (last place : ℕ) where
  abbrev at : ℕ → List (Entry V) → Option (Entry V)
  at other entries = lookup (is_at (nat_cmp other)) (stored entries)

  -- each place is at most the last one
  abbrev IsLast : List (Entry V) → Type 0
  IsLast entries = (other : ℕ) → IsSome (at other entries) → is_lt (nat_cmp last other) ≡ false

  above_all : (entries : List (Entry V)) → IsLast entries → last < place → above place entries ≡ true
  above_all [] all far = refl
  above_all (entry ∷ entries) all far =
      let near = ge_from_not_lt last entry.place (all entry.place (rw (itself entry.place) refl)) in
      and-made _ _ (lt-ltb entry.place place (omega (arith, near)))
      (above_all entries (λ other is. all other (cases (is_at (nat_cmp other) entry.place) other is)) far)
    where
      cases : (here : Bool) (other : ℕ) → IsSome (at other entries) → IsSome (cond here (Some entry) (at other entries))
      cases true other is = refl
      cases false other is = is

  above_not : (there : Entry V) (entries : List (Entry V)) → at last entries ≡ Some there → place ≤ last → above place entries ≡ false
  above_not there [] is near = absurd cc
  above_not there (entry ∷ entries) is near =
      cases (nat_cmp last entry.place) is (ranked last entry.place (nat_cmp last entry.place) refl) (above_not there entries)
    where
      later : (rest : Bool) → rest ≡ false → (nat_lt entry.place place && rest) ≡ false
      later rest e = cases (nat_lt entry.place place)
        where
          cases : (b : Bool) → (b && rest) ≡ false
          cases true = e
          cases false = refl

      cases : (o : Ordering) → cond (is_eq o) (Some entry) (at last entries) ≡ Some there
          → MatchOrdering o (last < entry.place) (last ≡ entry.place) (entry.place < last)
          → (at last entries ≡ Some there → place ≤ last → above place entries ≡ false) → above place (entry ∷ entries) ≡ false
      cases Less is order rest = later _ (rest is near)
      cases Equal is order rest =
          let one : nat_lt entry.place place ≡ false = le-ltb entry.place place (omega (arith, order)) in
          rw one refl
      cases Greater is order rest = later _ (rest is near)

  -- a place is above all exactly where it is above the last one
  pub above_last : (there : Entry V) (entries : List (Entry V)) → at last entries ≡ Some there → IsLast entries
      → nat_lt last place ≡ above place entries
  above_last there entries is all = cases (nat_lt last place) refl
    where
      cases : (b : Bool) → nat_lt last place ≡ b → b ≡ above place entries
      cases true e = sym (above_all entries all (ltb-true last place e))
      cases false e = sym (above_not there entries is (ltb-false last place e))
