-- Passing the turn on keeps the rule.
use Rattle.std.proofs.Common.{◌≡◌, ◌≢◌, ℕ, ◌+◌, ◌%◌, ◌^◌, inl, List, [], ◌∷◌, length, get_or, set, refl, ap, sym, ◌∙◌, subst, arith, Some}
use mathlib.Core.Option.{none, some}
use lib.ListN.{get_elem?}
use Rattle.atomic_table.specs.Table.{State, Me, step, gives, rest, stepped, Allows}
use Rattle.history_lock.specs.declared.entry.Entry.{Entry}
use Rattle.history_lock.specs.declared.rule.Origin.{Origin}
use Rattle.history_lock.specs.declared.rule.Held.{Held}
use Rattle.history_lock.specs.declared.rule.Held.TheVariants.{Here}
use Rattle.history_lock.specs.declared.rule.Stage.{Stage}
use Rattle.history_lock.specs.declared.rule.Stage.TheVariants.{Free, Serves}
use Rattle.history_lock.specs.declared.rule.Known.{Known}
use Rattle.history_lock.specs.Rule.{Meaning, queued, HasTicket, parts_of, queued_of, times_of, StandsAt, Fits, Kept}
use Rattle.history_lock.specs.Steps.{passes}
use Rattle.history_lock.proofs.Keeping.{next-mod}
use Rattle.history_lock.proofs.Totals.{total-set, total-kept}
use Rattle.history_lock.proofs.Queue.{each-set, distinct-set, out-with}

module _ {O S C R : Type 0} (m : Meaning O S C R) (key : Origin S) where
  abbrev Rule : State (Held O C R) (Known S C R) → Type 0
  Rule = Kept m key

  -- another seat's view, where the next ticket is served
  others-pass : (s : State (Held O C R) (Known S C R)) (r : Rule s) (id : ℕ) (v : Known S C R) → get_elem? s.views id ≡ some v
      → HasTicket v.stage r.passed → (j : ℕ) (u : Known S C R) → j ≢ id
      → get_elem? s.views j ≡ some u → Fits key r.log r.drawn (r.passed + 1) u
  others-pass s r id v at mine j u other there =
      let f = r.each j u there in
      let apart : HasTicket u.stage r.passed → ⊥ = λ its. other (r.apart j id r.passed u v there at its mine) in record {
        origin = f.origin;
        sits = f.sits;
        ticket = λ t h. let k = f.ticket t h in let lo = k.0 in let ne : t ≢ r.passed = λ e. apart (subst (HasTicket u.stage) e h) in
            (omega arith, k.1);
        serves = λ t h. absurd (apart (subst (λ (z : Stage). HasTicket z r.passed) (sym h) (f.serves t h).0));
        seen = f.seen;
        told = f.told;
        own = f.own;
        idle = f.idle;
      }

  -- the seat whose ticket is served gives the object back where the history leads
  passes-next : (s : State (Held O C R) (Known S C R)) (r : Rule s) (id : ℕ) (v : Known S C R) → get_elem? s.views id ≡ some v
      → v.stage ≡ Serves r.passed → (object : O) → StandsAt m key r.log object
      → Rule record {
        words = set s.words 2 ((get_or s.words 2 0 + 1) % 2 ^ 64);
        homes = set s.homes 0 (some (Here object));
        views = set s.views id (record v { stage = Free });
      }
  passes-next s r id v at serving object stands =
      let w : Known S C R = record v { stage = Free } in
      let f = r.each id v at in
      let mine : HasTicket v.stage r.passed = subst (λ (z : Stage). HasTicket z r.passed) (sym serving) refl in
      let out = out-with m key r.log r.passed id r.passed s.homes s.views v at serving r.home in record {
        log = r.log;
        drawn = r.drawn;
        passed = r.passed + 1;
        words = ap (λ (l : List ℕ). set l 2 ((get_or l 2 0 + 1) % 2 ^ 64)) r.words
            ∙ ap (λ (k : ℕ). (length r.log % 2 ^ 64) ∷ (r.drawn % 2 ^ 64) ∷ k ∷ []) (next-mod r.passed);
        legally = r.legally;
        bounded = r.bounded;
        parts = total-kept parts_of s.views id v w at refl ∙ r.parts;
        queue = let t = total-set queued_of s.views id v w at in let one : queued_of v ≡ 1 = ap queued serving in let q = r.queue in
            omega arith;
        places = λ i. total-kept (times_of i) s.views id v w at refl ∙ r.places i;
        each = each-set (Fits key r.log r.drawn (r.passed + 1)) s.views id w record {
          origin = f.origin;
          sits = λ t h. absurd h;
          ticket = λ t h. absurd h;
          serves = λ t e. absurd cc;
          seen = f.seen;
          told = f.told;
          own = f.own;
          idle = f.idle;
        } (others-pass s r id v at mine);
        apart = distinct-set s.views id w r.apart (λ j t u other there x y. y);
        home = inl (
          object,
          ap (λ l. set l 0 (some (Here object))) out,
          stands,
          each-set (λ u. (t : ℕ) → u.stage ≡ Serves t → ⊥) s.views id w (λ t e. cc)
              (λ j u other there t h. other (r.apart j id r.passed u v there at
              (subst (λ (z : Stage). HasTicket z r.passed) (sym h) ((r.each j u there).serves t h).0) mine)),
        );
      }

  -- the seat whose ticket is served may pass the turn on, with the object in the slot
  pub passes-allowed : (slots id t : ℕ) (me : Me (Held O C R) (Known S C R)) (o : Origin S) (object : O) → me.0.stage ≡ Serves t
      → me.0.origin ≡ Some o → me.1 ≡ (0, Here object) ∷ []
      → StandsAt m o me.0.at.seen object → Allows Rule slots id me 2 (λ k. (k + 1) % 2 ^ 64) (passes (step slots 2 1 0 none) me)
  passes-allowed slots id t me o object serves from slot stands s r deep at fits =
      let v : Known S C R = me.0 in
      let f = r.each id v at in
      let here = f.serves t serves in
      let now : v.stage ≡ Serves r.passed = serves ∙ ap (λ (k : ℕ). Serves k) here.0 in
      let stands' : StandsAt m key r.log object =
      subst (λ (z : Origin S × List (Entry C R)). StandsAt m z.0 z.1 object) (λ i. (f.origin o from i, here.1 i)) stands in
      let w : Known S C R = record v { stage = Free } in (
        w,
        gives,
        tt,
        subst (λ (l : List (ℕ × Held O C R)). Rule (stepped s 2 ((get_or s.words 2 0 + 1) % 2 ^ 64) id l w gives)) (sym slot)
            (passes-next s r id v at now object stands'),
        ap (λ (l : List (ℕ × Held O C R)). (w, rest l)) slot,
      )
