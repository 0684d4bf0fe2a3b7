-- Logging a call keeps the rule.
use Rattle.std.proofs.Common.{◌≡◌, ◌≢◌, ℕ, ◌+◌, ◌%◌, ◌^◌, inr, List, [], ◌∷◌, ◌++◌, length, get_or, set, refl, ap, sym, ◌∙◌}
use Rattle.std.proofs.Common.{subst, arith, Some, length-append}
use Rattle.std.proofs.lemmas.List.{append-nil}
use mathlib.Core.Option.{none, some}
use lib.ListN.{get_elem?}
use Rattle.atomic_table.specs.Table.{State, Me, step, keeps, Allows}
use Rattle.history_lock.specs.declared.entry.Entry.{Entry}
use Rattle.history_lock.specs.declared.rule.Origin.{Origin}
use Rattle.history_lock.specs.declared.rule.Note.{Note}
use Rattle.history_lock.specs.declared.rule.Held.{Held}
use Rattle.history_lock.specs.declared.rule.Held.TheVariants.{Made}
use Rattle.history_lock.specs.declared.rule.Stage.{Stage}
use Rattle.history_lock.specs.declared.rule.Stage.TheVariants.{Serves}
use Rattle.history_lock.specs.declared.rule.Known.{Known}
use Rattle.history_lock.specs.Places.{times, is_own, Within}
use Rattle.history_lock.specs.Legal.{legal}
use Rattle.history_lock.specs.Rule.{Meaning, total, below, HasTicket, parts_of, queued_of, times_of, Fits, Kept}
use Rattle.history_lock.specs.Steps.{entry_of, logged, logs}
use Rattle.history_lock.proofs.Keeping.{next-mod, same-stage}
use Rattle.history_lock.proofs.Beginnings.{prefix-grows}
use Rattle.history_lock.proofs.Totals.{total-set, total-kept}
use Rattle.history_lock.proofs.Owning.{times-append, within-more, below-more}
use Rattle.history_lock.proofs.Queue.{set-at, each-set, distinct-set, out-with}

module _ {O S C R : Type 0} (m : Meaning O S C R) (key : Origin S) where
  abbrev Rule : State (Held O C R) (Known S C R) → Type 0
  Rule = Kept m key

  -- a place more in the list of one seat
  placed : (s : State (Held O C R) (Known S C R)) (r : Rule s) (id : ℕ) (v w : Known S C R) → get_elem? s.views id ≡ some v
      → w.at.own ≡ v.at.own ++ length r.log ∷ []
      → (i : ℕ) → total (times_of i) (set s.views id w) ≡ below (length r.log + 1) i
  placed s r id v w at own i =
      let t = total-set (times_of i) s.views id v w at in
      let more : times w.at.own i ≡ times v.at.own i + times (length r.log ∷ []) i = ap (λ (l : List ℕ). times l i) own
      ∙ times-append v.at.own (length r.log ∷ []) i in
      let p = r.places i in
      let b = below-more (length r.log) i in omega arith

  -- another seat's view, where the history is one entry longer
  others-log : (s : State (Held O C R) (Known S C R)) (r : Rule s) (id : ℕ) (v : Known S C R) → get_elem? s.views id ≡ some v
      → v.stage ≡ Serves r.passed → (e : Entry C R) (j : ℕ) (u : Known S C R) → j ≢ id
      → get_elem? s.views j ≡ some u → Fits key (r.log ++ e ∷ []) r.drawn r.passed u
  others-log s r id v at serving e j u other there = let f = r.each j u there in record {
    origin = f.origin;
    sits = f.sits;
    ticket = f.ticket;
    serves = λ t h.
        let mine : HasTicket v.stage r.passed = subst (λ (z : Stage). HasTicket z r.passed) (sym serving) refl in
        let its : HasTicket u.stage r.passed = subst (λ (z : Stage). HasTicket z r.passed) (sym h) (f.serves t h).0 in
        absurd (other (r.apart j id r.passed u v there at its mine));
    seen = prefix-grows u.at.seen r.log (e ∷ []) f.seen;
    told = f.told;
    own = f.own;
    idle = f.idle;
  }

  -- the seat whose ticket is served logs an entry
  logs-next : (s : State (Held O C R) (Known S C R)) (r : Rule s) (id : ℕ) (v : Known S C R) → get_elem? s.views id ≡ some v
      → v.stage ≡ Serves r.passed → (e : Entry C R)
      → legal m.allows m.next key.opening key.first (r.log ++ e ∷ [])
      → Rule record {
        words = set s.words 0 ((get_or s.words 0 0 + 1) % 2 ^ 64);
        homes = s.homes;
        views = set s.views id (record v { at = record { seen = v.at.seen ++ e ∷ []; own = v.at.own ++ length v.at.seen ∷ [] } });
      }
  logs-next s r id v at serving e may =
      let w : Known S C R = record v { at = record { seen = v.at.seen ++ e ∷ []; own = v.at.own ++ length v.at.seen ∷ [] } } in
      let f = r.each id v at in
      let all : v.at.seen ≡ r.log = (f.serves r.passed serving).1 in
      let long : length (r.log ++ e ∷ []) ≡ length r.log + 1 = length-append r.log (e ∷ []) in record {
        log = r.log ++ e ∷ [];
        drawn = r.drawn;
        passed = r.passed;
        words = ap (λ (l : List ℕ). set l 0 ((get_or l 0 0 + 1) % 2 ^ 64)) r.words
            ∙ ap (λ (k : ℕ). k ∷ (r.drawn % 2 ^ 64) ∷ (r.passed % 2 ^ 64) ∷ []) (next-mod (length r.log)
            ∙ ap (λ (k : ℕ). k % 2 ^ 64) (sym long));
        legally = may;
        bounded = r.bounded;
        parts = total-kept parts_of s.views id v w at refl ∙ r.parts;
        queue = let t = total-kept queued_of s.views id v w at refl in let q = r.queue in omega arith;
        places = λ i. placed s r id v w at (ap (λ (l : List (Entry C R)). v.at.own ++ length l ∷ []) all) i
            ∙ ap (λ (k : ℕ). below k i) (sym long);
        each = each-set (Fits key (r.log ++ e ∷ []) r.drawn r.passed) s.views id w record {
          origin = f.origin;
          sits = f.sits;
          ticket = f.ticket;
          serves = λ t h. ((f.serves t h).0, ap (λ (l : List (Entry C R)). l ++ e ∷ []) all);
          seen = ([], append-nil (v.at.seen ++ e ∷ []) ∙ ap (λ (l : List (Entry C R)). l ++ e ∷ []) all);
          told = prefix-grows v.told v.at.seen (e ∷ []) f.told;
          own = subst (Within (is_own (v.at.own ++ length v.at.seen ∷ []))) (sym (length-append v.at.seen (e ∷ [])))
              (within-more v.at.own (length v.at.seen) f.own);
          idle = λ h. let p = f.sits r.passed (subst (λ (z : Stage). HasTicket z r.passed) (sym serving) refl) in absurd (omega arith);
        } (others-log s r id v at serving e);
        apart = distinct-set s.views id w r.apart (same-stage m key s r id v at);
        home = inr (
          out-with m key r.log r.passed id r.passed s.homes s.views v at serving r.home,
          (id, w, set-at s.views id v w at, serving),
        );
      }

  -- the seat whose ticket is served may log the call of its note
  pub logs-allowed : (slots id t : ℕ) (me : Me (Held O C R) (Known S C R)) (o : Origin S) (n : Note O C R) → me.0.stage ≡ Serves t
      → me.0.origin ≡ Some o → me.1 ≡ (0, Made n) ∷ []
      → legal m.allows m.next o.opening o.first (me.0.at.seen ++ entry_of m.faults n ∷ [])
      → Allows Rule slots id me 0 (λ k. (k + 1) % 2 ^ 64) (logs m.faults (step slots 0 1 0 none) me)
  logs-allowed slots id t me o n serves from slot may s r deep at fits =
      let v : Known S C R = me.0 in
      let f = r.each id v at in
      let here = f.serves t serves in
      let now : v.stage ≡ Serves r.passed = serves ∙ ap (λ (k : ℕ). Serves k) here.0 in
      let legally = subst (λ (z : Origin S × List (Entry C R)). legal m.allows m.next z.0.opening z.0.first
      (z.1 ++ entry_of m.faults n ∷ [])) (λ i. (f.origin o from i, here.1 i)) may in (
        record v { at = logged m.faults n v.at },
        keeps,
        tt,
        logs-next s r id v at now (entry_of m.faults n) legally,
        λ n' e. let pair : ◌≡◌ {A = ℕ × Held O C R} (0, Made n) (0, Made n') = cc (slot, e) in let held : Made n ≡ Made n' =
            ap (λ (x : ℕ × Held O C R). x.1) pair in let same : n ≡ n' = cc (held) in
            ap (λ (x : Note O C R). let y : Me (Held O C R) (Known S C R) = (record v { at = logged m.faults x v.at }, me.1) in y) same,
      )
