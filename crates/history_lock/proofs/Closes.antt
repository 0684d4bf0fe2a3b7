-- A history as it is made, and what is left where a seat has all parts.
use Rattle.history_lock.specs.declared.rule.Start.{Start}
use Rattle.history_lock.specs.Rule.{Meaning, Kept, origin_of}
use Rattle.history_lock.specs.Steps.{Ends, Closing}
use Rattle.std.proofs.Common.{◌≡◌, ℕ, zero, suc, ◌%◌, ◌^◌, ◌<◌, ⊎_elim, inl, List, [], ◌∷◌, length, refl, ap, sym, ◌∙◌, subst, arith}
use Rattle.std.proofs.lemmas.Bool.Decides.{nat_tests}
use mathlib.Core.Option.{some, some-injective, some-ne-none}
use lib.ListN.{get_elem?}
use Rattle.atomic_table.specs.Table.{Final, Seen, State, opening}
use Rattle.history_lock.specs.declared.entry.Entry.{Entry}
use Rattle.history_lock.specs.declared.view.View.{View}
use Rattle.history_lock.specs.declared.rule.Origin.{Origin}
use Rattle.history_lock.specs.declared.rule.Held.{Held}
use Rattle.history_lock.specs.declared.rule.Held.TheVariants.{Here}
use Rattle.history_lock.specs.declared.rule.Stage.TheVariants.{Free}
use Rattle.history_lock.specs.declared.rule.Known.{Known}
use Rattle.history_lock.specs.Places.{AllPlaces}
use Rattle.history_lock.specs.Legal.{legal}
use Rattle.history_lock.specs.Rule.{Meaning, total, queued, HasTicket, parts_of, queued_of, StandsAt, Fits, Kept}
use Rattle.history_lock.specs.Steps.{newly, Closing}
use Rattle.history_lock.proofs.Whole.{owns-all, sees-all}
use Rattle.history_lock.proofs.Totals.{total-at, total-alone}
use Rattle.history_lock.proofs.Queue.{queued-none}

module _ {O S C R : Type 0} (m : Meaning O S C R) (key : Origin S) where
  abbrev Rule : State (Held O C R) (Known S C R) → Type 0
  Rule = Kept m key

  -- the table as it is made
  pub opens : (object : O) → key.opening ≡ m.state object → key.first ≡ m.faults object → key.parts < 2 ^ 64
      → Rule (opening (0 ∷ 0 ∷ 0 ∷ []) (Here object ∷ []) (newly key))
  opens object state faults small =
      let only : (i : ℕ) (u : Known S C R) → get_elem? (newly key ∷ []) i ≡ some u → newly key ≡ u = single (newly key) in record {
        log = [];
        drawn = 0;
        passed = 0;
        words = refl;
        legally = tt;
        bounded = small;
        parts = omega arith;
        queue = refl;
        places = λ i. grind (arith, nat_tests);
        each = λ i u at. subst (Fits key [] 0 0) (only i u at) record {
          origin = λ o e. cc (e);
          sits = λ t h. absurd h;
          ticket = λ t h. absurd h;
          serves = λ t e. absurd cc;
          seen = ([], refl);
          told = ([], refl);
          own = λ i le. refl;
          idle = λ e. refl;
        };
        apart = λ i j t v w p q x y. absurd (subst (λ (z : Known S C R). HasTicket z.stage t) (sym (only i v p)) x);
        home = inl (
          object,
          refl,
          (sym state, sym faults),
          (λ i u at t e. let stage : u.stage ≡ Free = ap (λ (z : Known S C R). z.stage) (sym (only i u at)) in cc (e, stage)),
        );
      }
    where
      single : (v : Known S C R) (i : ℕ) (u : Known S C R) → get_elem? (v ∷ []) i ≡ some u → v ≡ u
      single v zero u at = some-injective v u at
      single v (suc i) u at = absurd (some-ne-none u (sym at))

  -- a seat with all parts, in no turn, has seen all and made all, and the object is at home
  pub closes : (id : ℕ) (v : Known S C R) (ws : List ℕ) (xs : List (Held O C R)) → v.stage ≡ Free → v.parts ≡ key.parts
      → Final (Seen Rule id v) ws xs → Closing m key v.at ws xs
  closes id v ws xs free all f =
      let s = f.0 in let r = f.1.0 in let at = f.1.1 in
      let whole : total parts_of s.views ≡ parts_of v = r.parts ∙ sym all in
      let own = owns-all m key s r id v at all in
      let queue : total queued_of s.views ≡ queued_of v =
      total-alone parts_of queued_of s.views id v at whole
      (λ j u there none_left. queued-none u.stage (λ k h. let p = (r.each j u there).sits k h in omega arith)) in
      let seen = sees-all m key s r id v at all in
      let home : (object : O) × (s.homes ≡ some (Here object) ∷ []) × StandsAt m key r.log object =
      ⊎_elim (λ h. (h.0, h.1, h.2)) (λ h. absurd (let t = h.1 in let one : queued_of t.1 ≡ 1 = ap queued t.3 in
      let none_there : queued_of v ≡ 0 = ap queued free in let most = total-at queued_of s.views t.0 t.1 t.2 in omega arith)) r.home in
      record {
        object = home.0;
        slot = f.4 0 (Here home.0) (ap (λ l. get_elem? l 0) home.1);
        word = ap (λ (l : List ℕ). get_elem? l 0) (sym f.2 ∙ r.words) ∙ ap (λ (l : List (Entry C R)). some (length l % 2 ^ 64)) (sym seen);
        ends = record {
          counted = refl;
          stands = subst (λ l. StandsAt m key l home.0) (sym seen) home.2;
          legally = subst (legal m.allows m.next key.opening key.first) (sym seen) r.legally;
          places = subst (λ (l : List (Entry C R)). AllPlaces v.at.own (length l)) (sym seen)
              ((λ i lt. sym (own i) ∙ grind (arith, nat_tests)), (λ i le. sym (own i) ∙ grind (arith, nat_tests)));
        };
      }

module _ {O S C R : Type 0} (m : Meaning O S C R) where
  -- the same of the start that the table was told
  pub may-close : (told start : Start O) (id : ℕ) (v : Known S C R) (ws : List ℕ) (xs : List (Held O C R)) → told ≡ start → v.stage ≡ Free
      → v.parts ≡ start.parts
      → Final (Seen (Kept m (origin_of m.state m.faults told)) id v) ws xs → Closing m (origin_of m.state m.faults start) v.at ws xs
  may-close told start id v ws xs same free all final =
      closes m (origin_of m.state m.faults start) id v ws xs free all
      (subst (λ (z : Start O). Final (Seen (Kept m (origin_of m.state m.faults z)) id v) ws xs) same final)

module _ {O S C R : Type 0} (m : Meaning O S C R) (key : Origin S) (v : View C R) (ws : List ℕ) (xs : List (Held O C R))
    (closing : Closing m key v ws xs) where
  -- what was taken out of the slot is the object
  pub is-here : (held : Held O C R) → get_elem? xs 0 ≡ some held → held ≡ Here closing.object
  is-here held taken = some-injective held (Here closing.object) (sym taken ∙ closing.slot)

  -- the object and the number that were taken out
  pub ends : (held : Held O C R) (object : O) (count : ℕ) → get_elem? xs 0 ≡ some held → held ≡ Here object → get_elem? ws 0 ≡ some count
      → Ends m key v object count
  ends held object count taken is word =
      let same : Here closing.object ≡ Here object = sym (is-here held taken) ∙ is in
      let object_is : closing.object ≡ object = cc (same) in
      let count_is = some-injective _ _ (sym closing.word ∙ word) in
      subst (λ (z : O × ℕ). Ends m key v z.0 z.1) (λ i. (object_is i, count_is i)) closing.ends
