-- A history that is one entry longer, and what is legal in one.
use Rattle.std.proofs.Common.{◌≡◌, ℕ, Bool, true, List, [], ◌∷◌, ◌++◌, refl, subst}
use Rattle.history_lock.specs.declared.entry.Entry.{Entry}
use Rattle.history_lock.specs.Legal.{replay, count_after, legal}
use Rattle.history_lock.specs.Places.{Each}

module _ {S C R : Type 0} (next : S → C → R → S) where
  -- the state after two lists
  pub replay-append : (s : S) (es fs : List (Entry C R)) → replay next s (es ++ fs) ≡ replay next (replay next s es) fs
  replay-append s [] fs = refl
  replay-append s (e ∷ es) fs = replay-append (next s e.call e.reply) es fs

module _ {C R : Type 0} where
  -- the count after two lists
  pub count_after-append : (n : ℕ) (es fs : List (Entry C R)) → count_after n (es ++ fs) ≡ count_after (count_after n es) fs
  count_after-append n [] fs = refl
  count_after-append n (e ∷ es) fs = count_after-append e.after es fs

module _ {S C R : Type 0} (allows : S → C → R → ℕ → ℕ → Type 0) (next : S → C → R → S) where
  -- a history may be taken up where it stands
  pub legal-append : (s : S) (n : ℕ) (es fs : List (Entry C R)) → legal allows next s n es
      → legal allows next (replay next s es) (count_after n es) fs → legal allows next s n (es ++ fs)
  legal-append s n [] fs l m = m
  legal-append s n (e ∷ es) fs l m = (l.0, l.1, legal-append (next s e.call e.reply) e.after es fs l.2 m)

  -- the beginning of a legal history is legal
  pub legal-front : (s : S) (n : ℕ) (es fs : List (Entry C R)) → legal allows next s n (es ++ fs) → legal allows next s n es
  legal-front s n [] fs l = tt
  legal-front s n (e ∷ es) fs l = (l.0, l.1, legal-front (next s e.call e.reply) e.after es fs l.2)

  -- and so is what comes behind it, from where it leads
  pub legal-back : (s : S) (n : ℕ) (es fs : List (Entry C R)) → legal allows next s n (es ++ fs)
      → legal allows next (replay next s es) (count_after n es) fs
  legal-back s n [] fs l = l
  legal-back s n (e ∷ es) fs l = legal-back (next s e.call e.reply) e.after es fs l.2

  -- one call more
  pub legal-more : (s : S) (n : ℕ) (es : List (Entry C R)) (e : Entry C R) → legal allows next s n es
      → e.before ≡ count_after n es → allows (replay next s es) e.call e.reply e.before e.after → legal allows next s n (es ++ e ∷ [])
  legal-more s n es e l before may =
      legal-append s n es (e ∷ []) l (before, subst (λ k. allows (replay next s es) e.call e.reply k e.after) before may, tt)

module _ {S C R : Type 0} (accepts : C → Type 0) (allows : S → C → R → ℕ → ℕ → Type 0) (next : S → C → R → S) where
  -- where a reply is allowed to a call that may be made alone, each call of a legal history might be made
  pub legal-accepted : ((s : S) (call : C) (reply : R) (before after : ℕ) → allows s call reply before after → accepts call)
      → (s : S) (n : ℕ) (es : List (Entry C R)) → legal allows next s n es → Each (λ e. accepts e.call) es
  legal-accepted only s n [] l = tt
  legal-accepted only s n (e ∷ es) l =
      (only s e.call e.reply n e.after l.1, legal-accepted only (next s e.call e.reply) e.after es l.2)
