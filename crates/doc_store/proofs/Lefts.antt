-- Entries that left the documents.
use Rattle.std.proofs.Common.{◌≡◌, ⊎_elim, ℕ, ◌+◌, ◌<◌, Bool, true, false, ◌&&◌, List, [], ◌∷◌, ◌++◌, length, refl, sym, ◌∙◌, subst, arith, MatchBool}
use Rattle.history_lock.specs.declared.entry.Who.{Who}
use Rattle.history_lock.specs.Places.{same_who, picks, has, Belong, Within}
use Rattle.history_lock.specs.Legal.{replay}
use Rattle.std_words.proofs.Tests.{never-both, or-first, or-second, or-either}
use Rattle.history_lock.proofs.Picks.{either, within-later}
use Rattle.doc_model.specs.Run.{Done}
use Rattle.table_words.specs.Tables.{Tables}
use Rattle.table_words.specs.Step.{tables_after}
use Rattle.doc_history.specs.Docs.{docs}
use Rattle.doc_history.specs.Told.{Tcall, after, at_entry, acts, unlogged, told_op, Last}
use Rattle.doc_store.specs.Ended.{Left}

longer : (e : Tcall) (es : List Tcall) → length (e ∷ es) ≡ length es + 1
longer e es = grind arith

-- of no place
pub left-past : (m : ℕ → Bool) (who : Who) (s : Tables) (i : ℕ) (es : List Tcall) → Within m i → Left m who s i es
left-past m who s i [] w = tt
left-past m who s i (e ∷ es) w = ((λ here. never-both (m i) here (w i (omega arith))), left-past m who (after s e) (i + 1) es (within-later m i (i + 1) (omega arith) w))

-- entries past all places
pub left-grows : (m : ℕ → Bool) (who : Who) (s : Tables) (i : ℕ) (es more : List Tcall) → Within m (i + length es) → Left m who s i es → Left m who s i (es ++ more)
left-grows m who s i [] more w left = left-past m who s i more (λ j le. w j (omega (arith, le)))
left-grows m who s i (e ∷ es) more w left = let long = longer e es in (left.0, left-grows m who (after s e) (i + 1) es more (λ j le. w j (omega (arith, le))) left.1)

-- places of two lists
pub left-either : (m n : ℕ → Bool) (who : Who) (s : Tables) (i : ℕ) (es : List Tcall) → Left m who s i es → Left n who s i es → Left (either m n) who s i es
left-either m n who s i [] p q = tt
left-either m n who s i (e ∷ es) p q = ((λ here. ⊎_elim p.0 q.0 (or-either (m i) (n i) here)), left-either m n who (after s e) (i + 1) es p.1 q.1)

-- the same places by another test
pub left-places : (m n : ℕ → Bool) (who : Who) (s : Tables) (i : ℕ) (es : List Tcall) → ((j : ℕ) → j < i + length es → n j ≡ m j) → Left m who s i es → Left n who s i es
left-places m n who s i [] f left = tt
left-places m n who s i (e ∷ es) f left = let long = longer e es in ((λ here. left.0 (sym (f i (omega arith)) ∙ here)), left-places m n who (after s e) (i + 1) es (λ j le. f j (omega (arith, le))) left.1)

-- one more
pub left-last : (m : ℕ → Bool) (who : Who) (s : Tables) (i : ℕ) (es : List Tcall) (e : Tcall) → Left m who s i es → same_who e.who who ≡ true → docs (after (replay tables_after s es) e) ≡ docs (replay tables_after s es) → Left m who s i (es ++ e ∷ [])
left-last m who s i [] e left mine same = ((λ here. (mine, same)), tt)
left-last m who s i (x ∷ xs) e left mine same = (left.0, left-last m who (after s x) (i + 1) xs e left.1 mine same)

-- so all of these entries are the operation's
pub left-belong : (m : ℕ → Bool) (who : Who) (s : Tables) (i : ℕ) (es : List Tcall) (e : Tcall) → Left m who s i es → same_who e.who who ≡ true → Belong m (who ∷ []) i (es ++ e ∷ [])
left-belong m who s i [] e left mine = ((λ here. or-first (same_who e.who who) false mine), tt)
left-belong m who s i (x ∷ xs) e left mine = ((λ here. or-first (same_who x.who who) false (left.0 here).0), left-belong m who (after s x) (i + 1) xs e left.1 mine)

has-last : (m : ℕ → Bool) (who : Who) (i : ℕ) (xs : List Tcall) (e : Tcall) → ((j : ℕ) → j ≡ i + length xs → picks m who j e ≡ true) → has m who i (xs ++ e ∷ []) ≡ true
has-last m who i [] e p = or-first (picks m who i e) false (p i (omega arith))
has-last m who i (x ∷ xs) e p = let long = longer x xs in or-second (picks m who i x) (has m who (i + 1) (xs ++ e ∷ [])) (has-last m who (i + 1) xs e (λ j q. p j (omega (arith, q))))

early : (s : Tables) (x : Tcall) (d : Done) (here mine : Bool) → (here ≡ true → (mine ≡ true) × (docs (after s x) ≡ docs s)) → at_entry (here && mine) true s x d
early s x d true true f = (f refl).1
early s x d true false f = tt
early s x d false mine f = tt

acts-last : (m : ℕ → Bool) (s : Tables) (i : ℕ) (xs : List Tcall) (e : Tcall) (d : Done) → Left m d.who s i xs → ((j : ℕ) → j ≡ i + length xs → picks m d.who j e ≡ true) → Last (replay tables_after s xs) e d → acts m s i (xs ++ e ∷ []) d
acts-last m s i [] e d left p last = (subst (λ b. at_entry b false s e d) (sym (p i (omega arith))) last, tt)
acts-last m s i (x ∷ xs) e d left p last =
    let long = longer x xs in
    let later : has m d.who (i + 1) (xs ++ e ∷ []) ≡ true = has-last m d.who (i + 1) xs e (λ j q. p j (omega (arith, q))) in (
      subst (λ b. at_entry (picks m d.who i x) b s x d) (sym later) (early s x d (m i) (same_who x.who d.who) left.0),
      acts-last m (after s x) (i + 1) xs e d left.1 (λ j q. p j (omega (arith, q))) last,
    )

-- an operation whose earlier entries left the documents, and whose last one is its step
pub told-last : (m : ℕ → Bool) (s : Tables) (xs : List Tcall) (e : Tcall) (d : Done) → Left m d.who s 0 xs → picks m d.who (length xs) e ≡ true → Last (replay tables_after s xs) e d → told_op m s (xs ++ e ∷ []) d
told-last m s xs e d left p last =
    let at : (j : ℕ) → j ≡ 0 + length xs → picks m d.who j e ≡ true = λ j q. subst (λ k. picks m d.who k e ≡ true) (omega (arith, q)) p in
    subst (λ b. MatchBool b (acts m s 0 (xs ++ e ∷ []) d) (unlogged d)) (sym (has-last m d.who 0 xs e at)) (acts-last m s 0 xs e d left at last)
