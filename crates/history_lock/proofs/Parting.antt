-- Cutting a seat in two, and making one seat of two, keep the rule.
use Rattle.std.proofs.Common.{◌≡◌, ℕ, ◌<◌, ⊎_elim, inl, inr, List, [], ◌∷◌, ◌++◌, length, set, refl, ap, sym, ◌∙◌, subst, arith}
use mathlib.Core.Option.{none, some, some-injective, some-ne-none}
use mathlib.Core.Option as maybe
use mathlib.Core.List.{IsPrefix}
use lib.ListN.{get_elem?}
use Rattle.atomic_table.specs.Table.{State, Splits, Joins}
use Rattle.atomic_table.proofs.Lists.{set_else, at_snoc, at_longer}
use Rattle.history_lock.specs.declared.entry.Entry.{Entry}
use Rattle.history_lock.specs.declared.rule.Origin.{Origin}
use Rattle.history_lock.specs.declared.rule.Held.{Held}
use Rattle.history_lock.specs.declared.rule.Stage.{Stage}
use Rattle.history_lock.specs.declared.rule.Stage.TheVariants.{Free, Serves}
use Rattle.history_lock.specs.declared.rule.Known.{Known}
use Rattle.history_lock.specs.Places.{is_own, Within}
use Rattle.history_lock.specs.Rule.{Meaning, queued, HasTicket, parts_of, queued_of, times_of, Fits, Placed, Kept}
use Rattle.history_lock.specs.Steps.{staying, leaving, merged, spent}
use Rattle.history_lock.proofs.Keeping.{same-stage}
use Rattle.history_lock.proofs.Beginnings.{prefix-shorter, by-length}
use Rattle.history_lock.proofs.Totals.{total-set, total-kept, total-more}
use Rattle.history_lock.proofs.Owning.{times-append, within-join, within-wider}
use Rattle.history_lock.proofs.Queue.{Distinct, each-set, distinct-set, placed-set}

module _ {O S C R : Type 0} (m : Meaning O S C R) (key : Origin S) where
  abbrev Rule : State (Held O C R) (Known S C R) → Type 0
  Rule = Kept m key

  -- a list of views, and one more
  each-more : (F : Known S C R → Type 0) (vs : List (Known S C R)) (w : Known S C R)
      → ((j : ℕ) (u : Known S C R) → get_elem? vs j ≡ some u → F u) → F w
      → (j : ℕ) (u : Known S C R) → get_elem? (vs ++ w ∷ []) j ≡ some u → F u
  each-more F vs w others mine j u at =
      ⊎_elim (λ (h : get_elem? vs j ≡ some u). others j u h) (λ (h : w ≡ u). subst F h mine) (at_snoc vs w u j at)

  -- where the last one has no ticket
  distinct-more : (vs : List (Known S C R)) (w : Known S C R) → w.stage ≡ Free → Distinct vs → Distinct (vs ++ w ∷ [])
  distinct-more vs w free apart i j t a b p q x y =
      ⊎_elim
      (λ (h : get_elem? vs i ≡ some a). ⊎_elim (λ (k : get_elem? vs j ≡ some b). apart i j t a b h k x y)
      (λ (k : w ≡ b). absurd (none_of b k y)) (at_snoc vs w b j q))
      (λ (h : w ≡ a). absurd (none_of a h x)) (at_snoc vs w a i p)
    where
      none_of : (u : Known S C R) → w ≡ u → HasTicket u.stage t → ⊥
      none_of u e h = subst (λ (z : Stage). HasTicket z t) (ap (λ (z : Known S C R). z.stage) (sym e) ∙ free) h

  -- the object is where it was
  placed-more : (log : List (Entry C R)) (passed : ℕ) (homes : List (maybe.Option (Held O C R))) (vs : List (Known S C R))
      (w : Known S C R) → w.stage ≡ Free → Placed m key log passed homes vs → Placed m key log passed homes (vs ++ w ∷ [])
  placed-more log passed homes vs w free p =
      ⊎_elim
      (λ h. inl (h.0, h.1, h.2, each-more (λ u. (t : ℕ) → u.stage ≡ Serves t → ⊥) vs w h.3 (λ t e. cc (free, e))))
      (λ h. let s = h.1 in inr (h.0, (s.0, s.1, at_longer vs (w ∷ []) s.0 s.1 s.2, s.3))) p

  -- a seat in no turn is cut in two
  pub splits-allowed : (id : ℕ) (v : Known S C R) → v.stage ≡ Free → 0 < v.offer → v.offer < v.parts
      → Splits Rule id v (staying v) (leaving v)
  splits-allowed id v free some_parts fewer s r at =
      let w : Known S C R = staying v in
      let n : Known S C R = leaving v in
      let vs : List (Known S C R) = set s.views id w in
      let f = r.each id v at in record {
        log = r.log;
        drawn = r.drawn;
        passed = r.passed;
        words = r.words;
        legally = r.legally;
        bounded = r.bounded;
        parts = let t = total-set parts_of s.views id v w at in let u = total-more parts_of vs n in let p = r.parts in omega arith;
        queue = let t = total-kept queued_of s.views id v w at refl in let u = total-more queued_of vs n in let e : queued_of n ≡ 0 =
            ap queued free in let q = r.queue in omega arith;
        places = λ i. let t = total-kept (times_of i) s.views id v w at refl in let u = total-more (times_of i) vs n in let p =
            r.places i in omega arith;
        each = each-more (Fits key r.log r.drawn r.passed) vs n
            (each-set (Fits key r.log r.drawn r.passed) s.views id w record {
              origin = f.origin;
              sits = λ t h. absurd (subst (λ (z : Stage). HasTicket z t) free h);
              ticket = f.ticket;
              serves = f.serves;
              seen = f.seen;
              told = f.told;
              own = f.own;
              idle = λ e. absurd (omega arith);
            } (λ j u _. r.each j u))
            record {
              origin = f.origin;
              sits = λ t h. some_parts;
              ticket = f.ticket;
              serves = f.serves;
              seen = f.seen;
              told = f.told;
              own = λ i le. refl;
              idle = λ e. refl;
            };
        apart = distinct-more vs n free (distinct-set s.views id w r.apart (same-stage m key s r id v at));
        home = placed-more r.log r.passed s.homes vs n free
            (placed-set m key r.log r.passed id s.homes s.views v w at (λ e. e) (λ t e. e) r.home);
      }

  -- the view of a seat that took in another one
  merged-fits : (log : List (Entry C R)) (drawn passed : ℕ) (v w : Known S C R) → v.stage ≡ Free → Fits key log drawn passed v
      → Fits key log drawn passed w → Fits key log drawn passed (merged v w)
  merged-fits log drawn passed v w free f g = record {
    origin = f.origin;
    sits = λ t h. absurd (subst (λ (z : Stage). HasTicket z t) free h);
    ticket = f.ticket;
    serves = λ t h. absurd (cc (free, h));
    seen = by-length (λ l k. IsPrefix l log) v.at.seen w.at.seen (λ _. g.seen) (λ _. f.seen);
    told = by-length (λ l k. IsPrefix k l) v.at.seen w.at.seen (λ h. prefix-shorter v.at.seen w.at.seen log f.seen g.seen (omega arith))
        (λ h. prefix-shorter w.at.seen v.at.seen log g.seen f.seen h);
    own = by-length (λ l k. Within (is_own (v.at.own ++ w.at.own)) (length l)) v.at.seen w.at.seen
        (λ h. within-join v.at.own w.at.own (length w.at.seen)
        (within-wider v.at.own (length v.at.seen) (length w.at.seen) (omega arith) f.own) g.own)
        (λ h. within-join v.at.own w.at.own (length v.at.seen) f.own (within-wider w.at.own (length w.at.seen) (length v.at.seen) h g.own));
    idle = λ e. let a = f.idle (omega arith) in let b = g.idle (omega arith) in ap (λ l. l ++ w.at.own) a ∙ b;
  }

  -- two seats in no turn become one
  pub joins-allowed : (id other : ℕ) (v w : Known S C R) → v.stage ≡ Free → w.stage ≡ Free → Joins Rule id v other w (merged v w) spent
  joins-allowed id other v w free free' s r at apart there =
      let both : Known S C R = merged v w in
      let none_left : Known S C R = spent in
      let vs : List (Known S C R) = set s.views id both in
      let there' : get_elem? s.views other ≡ some w = sym (set_else s.views id other both apart) ∙ there in
      let f = r.each id v at in
      let g = r.each other w there' in record {
        log = r.log;
        drawn = r.drawn;
        passed = r.passed;
        words = r.words;
        legally = r.legally;
        bounded = r.bounded;
        parts = let t = total-set parts_of s.views id v both at in let u = total-set parts_of vs other w none_left there in let p =
            r.parts in omega arith;
        queue = let t = total-kept queued_of s.views id v both at refl in let u =
            total-kept queued_of vs other w none_left there (sym (ap queued free')) in let q = r.queue in omega arith;
        places = λ i. let t = total-set (times_of i) s.views id v both at in let u = total-set (times_of i) vs other w none_left there in
            let x = times-append v.at.own w.at.own i in let p = r.places i in omega arith;
        each = each-set (Fits key r.log r.drawn r.passed) vs other none_left record {
          origin = λ o e. absurd cc;
          sits = λ t h. absurd h;
          ticket = λ t h. absurd h;
          serves = λ t e. absurd cc;
          seen = (r.log, refl);
          told = ([], refl);
          own = λ i le. refl;
          idle = λ e. refl;
        } (λ j u _. each-set (Fits key r.log r.drawn r.passed) s.views id both (merged-fits r.log r.drawn r.passed v w free f g)
            (λ i x _. r.each i x) j u);
        apart = distinct-set vs other none_left (distinct-set s.views id both r.apart (same-stage m key s r id v at)) (λ j t u _ _ x y. y);
        home = placed-set m key r.log r.passed other s.homes vs w none_left there (λ e. absurd (cc (free', e))) (λ t e. absurd cc)
            (placed-set m key r.log r.passed id s.homes s.views v both at (λ e. e) (λ t e. e) r.home);
      }
