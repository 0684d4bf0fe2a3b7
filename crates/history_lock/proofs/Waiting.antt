-- Drawing a ticket, and looking whether it is served, keep the rule.
use Rattle.std.proofs.Common.{◌≡◌, ℕ, ◌+◌, ◌%◌, ◌^◌, ◌<◌, ⊎_elim, inr, List, [], ◌∷◌, ◌++◌, length, get_or, set, refl, ap, sym}
use Rattle.std.proofs.Common.{◌∙◌, subst, arith, Option, Some}
use Rattle.std.proofs.lemmas.List.{append-nil}
use mathlib.Core.Logic.{dite}
use mathlib.Core.Option.{none, some, some-injective}
use native.Mathlib.Decide.{ℕ_discrete}
use lib.ListN.{get_elem?}
use Rattle.atomic_table.specs.Table.{State, Me, step, keeps, takes, Allows}
use Rattle.history_lock.specs.declared.entry.Entry.{Entry}
use Rattle.history_lock.specs.declared.view.View.{View}
use Rattle.history_lock.specs.declared.rule.Origin.{Origin}
use Rattle.history_lock.specs.declared.rule.Held.{Held}
use Rattle.history_lock.specs.declared.rule.Held.TheVariants.{Here}
use Rattle.history_lock.specs.declared.rule.Stage.{Stage}
use Rattle.history_lock.specs.declared.rule.Stage.TheVariants.{Free, Waits, Serves}
use Rattle.history_lock.specs.declared.rule.Known.{Known}
use Rattle.history_lock.specs.Legal.{legal}
use Rattle.history_lock.specs.Rule.{Meaning, queued, HasTicket, parts_of, queued_of, times_of, StandsAt, Fits, Kept}
use Rattle.history_lock.specs.Steps.{draws, looks}
use Rattle.history_lock.proofs.Keeping.{next-mod, same-stage, load-same, unchanged}
use Rattle.history_lock.proofs.Whole.{sees-all}
use Rattle.history_lock.proofs.Beginnings.{prefix-grows, prefix-length}
use Rattle.history_lock.proofs.Totals.{total-set, total-kept}
use Rattle.history_lock.proofs.Owning.{within-wider}
use Rattle.history_lock.proofs.Queue.{set-at, each-set, distinct-set, placed-set, same-ticket, first-in-line}

module _ {O S C R : Type 0} (m : Meaning O S C R) (key : Origin S) where
  abbrev Rule : State (Held O C R) (Known S C R) → Type 0
  Rule = Kept m key

  -- what holds of a view still does when a ticket is drawn
  later-ticket : (log : List (Entry C R)) (drawn passed : ℕ) (v : Known S C R) → Fits key log drawn passed v
      → Fits key log (drawn + 1) passed v
  later-ticket log drawn passed v f = record {
    origin = f.origin;
    sits = f.sits;
    ticket = λ t h. let k = f.ticket t h in let hi = k.1 in (k.0, omega arith);
    serves = f.serves;
    seen = f.seen;
    told = f.told;
    own = f.own;
    idle = f.idle;
  }

  -- a seat that has none may draw a ticket
  pub draws-allowed : (slots id : ℕ) (me : Me (Held O C R) (Known S C R)) → me.0.stage ≡ Free → 0 < me.0.parts
      → Allows Rule slots id me 1 (λ n. (n + 1) % 2 ^ 64) (draws (step slots 1 1 0 none) me)
  draws-allowed slots id me free some_parts s r deep at fits =
      let v : Known S C R = me.0 in
      let w : Known S C R = record v { stage = Waits r.drawn } in
      let none_yet : queued_of v ≡ 0 = ap queued free in (
        w,
        keeps,
        tt,
        record {
          log = r.log;
          drawn = r.drawn + 1;
          passed = r.passed;
          words = ap (λ (l : List ℕ). set l 1 ((get_or l 1 0 + 1) % 2 ^ 64)) r.words
              ∙ ap (λ (k : ℕ). (length r.log % 2 ^ 64) ∷ k ∷ (r.passed % 2 ^ 64) ∷ []) (next-mod r.drawn);
          legally = r.legally;
          bounded = r.bounded;
          parts = total-kept parts_of s.views id v w at refl ∙ r.parts;
          queue = let t = total-set queued_of s.views id v w at in let q = r.queue in omega arith;
          places = λ i. total-kept (times_of i) s.views id v w at refl ∙ r.places i;
          each = each-set (Fits key r.log (r.drawn + 1) r.passed) s.views id w (let f = r.each id v at in record {
            origin = f.origin;
            sits = λ t h. some_parts;
            ticket = λ t h. let e : r.drawn ≡ t = h in let q = r.queue in (omega arith, omega arith);
            serves = λ t h. absurd cc;
            seen = f.seen;
            told = f.told;
            own = f.own;
            idle = f.idle;
          }) (λ j u _ there. later-ticket r.log r.drawn r.passed u (r.each j u there));
          apart = distinct-set s.views id w r.apart (λ j t u other there x y. let hi = ((r.each j u there).ticket t x).1 in
              let e : r.drawn ≡ t = y in omega arith);
          home = placed-set m key r.log r.passed id s.homes s.views v w at (λ e. absurd (cc (free, e))) (λ t e. absurd (cc (e))) r.home;
        },
        (r.drawn, ap (λ (l : List ℕ). get_or l 1 0) r.words, refl),
      )

  -- the seat whose ticket is served finds the object at home
  at-home : (s : State (Held O C R) (Known S C R)) (r : Rule s) (id : ℕ) (v : Known S C R) → get_elem? s.views id ≡ some v
      → v.stage ≡ Waits r.passed
      → (object : O) × (s.homes ≡ some (Here object) ∷ []) × StandsAt m key r.log object
  at-home s r id v at waits =
      ⊎_elim (λ h. (h.0, h.1, h.2))
      (λ h. let t = h.1 in
      let here : HasTicket v.stage r.passed = subst (λ (z : Stage). HasTicket z r.passed) (sym waits) refl in
      let there : HasTicket t.1.stage r.passed = subst (λ (z : Stage). HasTicket z r.passed) (sym t.3) refl in
      let same : id ≡ t.0 = r.apart id t.0 r.passed v t.1 at t.2 here there in
      let stage : v.stage ≡ t.1.stage =
      ap (λ (z : Known S C R). z.stage) (some-injective v t.1 (sym at ∙ (ap (get_elem? s.views) same ∙ t.2))) in
      absurd (cc (waits, t.3, stage)))
      r.home

  -- the seat whose ticket is served takes the object, and sees the whole history
  serves-next : (s : State (Held O C R) (Known S C R)) (r : Rule s) (id : ℕ) (v : Known S C R) → get_elem? s.views id ≡ some v
      → v.stage ≡ Waits r.passed → (more : List (Entry C R)) → v.at.seen ++ more ≡ r.log
      → Rule record {
        words = set s.words 2 (get_or s.words 2 0);
        homes = none ∷ [];
        views = set s.views id (record v { stage = Serves r.passed; at = record { seen = v.at.seen ++ more; own = v.at.own } });
      }
  serves-next s r id v at waits more all =
      let w : Known S C R = record v { stage = Serves r.passed; at = record { seen = v.at.seen ++ more; own = v.at.own } } in
      let ticket : (t : ℕ) → r.passed ≡ t → HasTicket v.stage t = λ t e. subst (λ (z : Stage). HasTicket z t) (sym waits) e in record {
        log = r.log;
        drawn = r.drawn;
        passed = r.passed;
        words = load-same s.words 2 ∙ r.words;
        legally = r.legally;
        bounded = r.bounded;
        parts = total-kept parts_of s.views id v w at refl ∙ r.parts;
        queue = let t = total-kept queued_of s.views id v w at (sym (ap queued waits)) in let q = r.queue in omega arith;
        places = λ i. total-kept (times_of i) s.views id v w at refl ∙ r.places i;
        each = each-set (Fits key r.log r.drawn r.passed) s.views id w (let f = r.each id v at in record {
          origin = f.origin;
          sits = λ t h. f.sits t (ticket t h);
          ticket = λ t h. f.ticket t (ticket t h);
          serves = λ t e. (cc (e), all);
          seen = ([], cc (all, append-nil (v.at.seen ++ more)));
          told = prefix-grows v.told v.at.seen more f.told;
          own = within-wider v.at.own (length v.at.seen) (length (v.at.seen ++ more))
              (prefix-length v.at.seen (v.at.seen ++ more) (more, refl)) f.own;
          idle = f.idle;
        }) (λ j u _. r.each j u);
        apart = distinct-set s.views id w r.apart (λ j t u other there x y. same-stage m key s r id v at j t u other there x (ticket t y));
        home = inr (refl, (id, w, set-at s.views id v w at, refl));
      }

  -- a seat that waits may look
  pub looks-allowed : (slots id t : ℕ) (me : Me (Held O C R) (Known S C R)) (o : Origin S) → me.0.stage ≡ Waits t → me.0.origin ≡ Some o
      → me.1 ≡ []
      → Allows Rule slots id me 2 (λ n. n) (looks m (step slots 2 0 0 none) me)
  looks-allowed slots id t me o waits from empty s r deep at fits =
      let v : Known S C R = me.0 in
      let found : get_or s.words 2 0 ≡ r.passed % 2 ^ 64 = ap (λ (l : List ℕ). get_or l 2 0) r.words in
      let has : HasTicket v.stage t = subst (λ (z : Stage). HasTicket z t) (sym waits) refl in
      let mine : (u : ℕ) → v.stage ≡ Waits u → t ≡ u = λ u e. cc (waits, e) in
      let origin : v.origin ≡ Some key = from
      ∙ ap (λ (z : Origin S). let x : Option (Origin S) = Some z in x) ((r.each id v at).origin o from) in
      let first : (o : Origin S) → v.origin ≡ Some o → v.parts ≡ o.parts → get_or s.words 2 0 ≡ t % 2 ^ 64 =
      λ o e all. found ∙ ap (λ (k : ℕ). k % 2 ^ 64)
      (sym (first-in-line m key s r id t v at has (all ∙ ap (λ (z : Origin S). z.parts) ((r.each id v at).origin o e)))) in
      dite (ℕ_discrete (get_or s.words 2 0) (t % 2 ^ 64))
      (λ hit.
      let same : t ≡ r.passed = same-ticket m key s r id t v at has (sym found ∙ hit) in
      let now : v.stage ≡ Waits r.passed = waits ∙ ap (λ (k : ℕ). Waits k) same in
      let pre = (r.each id v at).seen in
      let h = at-home s r id v at now in
      let w : Known S C R = record v { stage = Serves r.passed; at = record { seen = v.at.seen ++ pre.0; own = v.at.own } } in (
        w,
        takes 0 (Here h.0),
        ap (λ l. get_elem? l 0) h.1,
        subst (λ l. Rule record { words = set s.words 2 (get_or s.words 2 0); homes = set l 0 none; views = set s.views id w }) (sym h.1)
            (serves-next s r id v at now pre.0 pre.1),
        λ u e. (
          (λ miss. absurd (miss (hit ∙ ap (λ (k : ℕ). k % 2 ^ 64) (mine u e)))),
          (λ _. record {
            key = key;
            object = h.0;
            more = pre.0;
            origin = origin;
            view = ap (λ (k : ℕ). let z : Known S C R = record v {
              stage = Serves k;
              at = record { seen = v.at.seen ++ pre.0; own = v.at.own };
            } in z) (sym same ∙ mine u e);
            slot = ap (λ l. (0, Here h.0) ∷ l) empty;
            stands = subst (λ l. StandsAt m key l h.0) (sym pre.1) h.2;
            legally = subst (legal m.allows m.next key.opening key.first) (sym pre.1) r.legally;
            alone = λ all. ap (λ (l : List (Entry C R)). let z : View C R = record { seen = l; own = v.at.own } in z) (pre.1
                ∙ sym (sees-all m key s r id v at all));
          }),
          λ o a b. first o a b ∙ ap (λ (k : ℕ). k % 2 ^ 64) (mine u e),
        ),
      ))
      (λ miss. (
        v,
        keeps,
        tt,
        unchanged m key s r 2 id v at,
        λ u e. (
          (λ _. refl),
          (λ hit. absurd (miss (hit ∙ ap (λ (k : ℕ). k % 2 ^ 64) (sym (mine u e))))),
          λ o a b. first o a b
              ∙ ap (λ (k : ℕ). k % 2 ^ 64) (mine u e),
        ),
      ))
