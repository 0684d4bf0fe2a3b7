-- What a desk did, and then did further.
use Rattle.std.proofs.Common.{◌≡◌, ⊎_elim, ℕ, ◌+◌, ◌≤◌, false, List, [], ◌∷◌, ◌++◌, length, MatchBool}
use Rattle.std.proofs.Common.{refl, ap, arith, sym, ◌∙◌, subst, append_assoc, length-append}
use Rattle.std_words.proofs.Tests.{never-both, or-either, or-neither}
use Rattle.history_lock.specs.Places.{is_own, Within}
use Rattle.history_lock.proofs.Picks.{own-append, has-past, belong-past}
use Rattle.doc_model.specs.Run.{Done}
use Rattle.table_words.specs.Tables.{Tables}
use Rattle.doc_history.specs.Told.{told_part, unlogged, acts}
use Rattle.doc_history.specs.Part.{Views, Served}
use Rattle.doc_history.specs.Laws.{ServedNone, ServedOn}
use Rattle.doc_history.proofs.Parts.{law_grows, law_joins}

pub append-nil : {X : Type 0} (xs : List X) → xs ++ [] ≡ xs
append-nil [] = refl
append-nil (x ∷ xs) = ap (λ t. x ∷ t) (append-nil xs)

none-within : (n : ℕ) → Within (is_own []) n
none-within n i le = refl

-- nothing was done
pub served_none : ServedNone
served_none s v = record {
  more = [];
  places = [];
  seen = sym (append-nil v.seen);
  own = sym (append-nil v.own);
  fresh = λ i e. never-both false e refl;
  within = none-within (length v.seen);
  told = record { each = tt; none_else = belong-past (is_own []) [] 0 v.seen (none-within 0) };
}

later : (i a b m : ℕ) → b ≡ a + m → b ≤ i → a ≤ i
later i a b m e le = omega (arith, e, le)

-- some operations, and then others
pub served_on : ServedOn
served_on s a b c xs ys apart p q =
    let grown : Within (is_own p.places) (length c.seen) =
    λ i le. p.within i (omega (arith, le, ap length q.seen, length-append b.seen q.more)) in
    record {
      more = p.more ++ q.more;
      places = p.places ++ q.places;
      seen = q.seen ∙ ap (λ t. t ++ q.more) p.seen ∙ append_assoc a.seen p.more q.more;
      own = q.own ∙ ap (λ t. t ++ q.places) p.own ∙ append_assoc a.own p.places q.places;
      fresh = λ i t. ⊎_elim (p.fresh i)
          (λ u. later i (length a.seen) (length b.seen) (length p.more) (ap length p.seen ∙ length-append a.seen p.more) (q.fresh i u))
          (or-either (is_own p.places i) (is_own q.places i) (sym (own-append p.places q.places i) ∙ t));
      within = λ i le. own-append p.places q.places i
          ∙ or-neither (is_own p.places i) (is_own q.places i) (grown i le) (q.within i le);
      told = law_joins s c.seen p.places q.places xs ys apart
          (subst (λ h. told_part s h p.places xs) (sym q.seen) (law_grows s b.seen q.more p.places xs p.within p.told)) q.told;
    }

-- an operation that asked nothing of the desk
pub served_unlogged : (s : Tables) (v : Views) (d : Done) → unlogged d → Served s v v (d ∷ [])
served_unlogged s v d u = record {
  more = [];
  places = [];
  seen = sym (append-nil v.seen);
  own = sym (append-nil v.own);
  fresh = λ i e. never-both false e refl;
  within = none-within (length v.seen);
  told = record {
    each = (
      subst (λ b. MatchBool b (acts (is_own []) s 0 v.seen d) (unlogged d))
          (sym (has-past (is_own []) d.who 0 v.seen (none-within 0))) u,
      tt,
    );
    none_else = belong-past (is_own []) (d.who ∷ []) 0 v.seen (none-within 0);
  };
}
