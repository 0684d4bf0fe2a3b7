-- What a step that changes no word keeps, and what serves all steps.
use Rattle.std.proofs.Common.{◌≡◌, ◌≢◌, ℕ, ◌+◌, ◌%◌, ◌^◌, List, [], get_or, set, eqb, refl, ap, sym, ◌∙◌, subst, arith}
use mathlib.Core.Option.{none, some}
use mathlib.Core.List.{IsPrefix}
use lib.ListN.{get_elem?}
use lib.Seq.{set-get_or}
use Rattle.atomic_table.specs.Table.{State, Me, step, keeps, Allows}
use prog.Atomic.{either}
use Rattle.atomic_table.proofs.Lists.{exchanged, set_again}
use Rattle.history_lock.specs.declared.entry.Entry.{Entry}
use Rattle.history_lock.specs.declared.rule.Origin.{Origin}
use Rattle.history_lock.specs.declared.rule.Held.{Held}
use Rattle.history_lock.specs.declared.rule.Known.{Known}
use Rattle.history_lock.specs.Rule.{Meaning, HasTicket, parts_of, queued_of, times_of, Fits, Kept}
use Rattle.history_lock.specs.Steps.{offers, learns}
use Rattle.history_lock.proofs.Totals.{total-kept}
use Rattle.history_lock.proofs.Queue.{each-set, distinct-set, placed-set}

-- a word goes up by 1, modulo 2^64
pub next-mod : (a : ℕ) → ((a % 2 ^ 64) + 1) % 2 ^ 64 ≡ (a + 1) % 2 ^ 64
next-mod a = omega arith

-- an exchange of a number for itself changes no word
pub exchange-same : (k p : ℕ) → either (eqb k p) p k ≡ k
exchange-same k p = exchanged k p p (λ z. z ≡ k) (λ e. sym e) (λ _. refl)

-- a load changes no word
pub load-same : (ws : List ℕ) (i : ℕ) → set ws i (get_or ws i 0) ≡ ws
load-same ws i = set-get_or ws i 0

module _ {O S C R : Type 0} (m : Meaning O S C R) (key : Origin S) where
  abbrev Rule : State (Held O C R) (Known S C R) → Type 0
  Rule = Kept m key

  -- where no seat changed its stage
  pub same-stage : (s : State (Held O C R) (Known S C R)) (r : Rule s) (id : ℕ) (v : Known S C R) → get_elem? s.views id ≡ some v
      → (j t : ℕ) (u : Known S C R) → j ≢ id → get_elem? s.views j ≡ some u → HasTicket u.stage t → HasTicket v.stage t → ⊥
  same-stage s r id v at j t u other there x y = other (r.apart j id t u v there at x y)

  -- a step that changes neither the words nor what is told of a seat above the rule
  pub restated : (s : State (Held O C R) (Known S C R)) → Rule s → (id : ℕ) (v : Known S C R) → get_elem? s.views id ≡ some v
      → (n : ℕ) (ts : List (Entry C R)) → IsPrefix ts v.at.seen
      → Rule record { words = s.words; homes = s.homes; views = set s.views id (record v { offer = n; told = ts }) }
  restated s r id v at n ts pre = let w : Known S C R = record v { offer = n; told = ts } in record {
    log = r.log;
    drawn = r.drawn;
    passed = r.passed;
    words = r.words;
    legally = r.legally;
    bounded = r.bounded;
    parts = total-kept parts_of s.views id v w at refl ∙ r.parts;
    queue = let t = total-kept queued_of s.views id v w at refl in let q = r.queue in omega arith;
    places = λ i. total-kept (times_of i) s.views id v w at refl ∙ r.places i;
    each = each-set (Fits key r.log r.drawn r.passed) s.views id w (let f = r.each id v at in record {
      origin = f.origin;
      sits = f.sits;
      ticket = f.ticket;
      serves = f.serves;
      seen = f.seen;
      told = pre;
      own = f.own;
      idle = f.idle;
    }) (λ j u _. r.each j u);
    apart = distinct-set s.views id w r.apart (same-stage s r id v at);
    home = placed-set m key r.log r.passed id s.homes s.views v w at (λ e. e) (λ t e. e) r.home;
  }

  -- a look that finds another ticket changes nothing
  pub unchanged : (s : State (Held O C R) (Known S C R)) → Rule s → (i id : ℕ) (v : Known S C R) → get_elem? s.views id ≡ some v
      → Rule record { words = set s.words i (get_or s.words i 0); homes = s.homes; views = set s.views id v }
  unchanged s r i id v at =
      subst (λ (z : List ℕ × List (Known S C R)). Rule record { words = z.0; homes = s.homes; views = z.1 })
      (λ k. (sym (load-same s.words i) k, sym (set_again s.views id v at) k)) r

  -- a seat may say how many parts the next split moves
  pub offers-allowed : (slots id n : ℕ) (me : Me (Held O C R) (Known S C R)) → (f : ℕ → ℕ) → ((k : ℕ) → f k ≡ k)
      → Allows Rule slots id me 0 f (offers (step slots 0 n n none) me)
  offers-allowed slots id n me f same s r deep at fits =
      let w : Known S C R = record me.0 { offer = n } in (
        w,
        keeps,
        tt,
        subst (λ (ws : List ℕ). Rule record { words = ws; homes = s.homes; views = set s.views id w })
            (sym (ap (set s.words 0) (same (get_or s.words 0 0)) ∙ load-same s.words 0))
            (restated s r id me.0 at n me.0.told (r.each id me.0 at).told),
        refl,
      )

  -- a seat may learn how its two lists lie
  pub learns-allowed : (slots id : ℕ) (me : Me (Held O C R) (Known S C R))
      → Allows Rule slots id me 0 (λ n. n) (learns (step slots 0 0 0 none) me)
  learns-allowed slots id me s r deep at fits =
      let w : Known S C R = record me.0 { told = [] } in (
        w,
        keeps,
        tt,
        subst (λ (ws : List ℕ). Rule record { words = ws; homes = s.homes; views = set s.views id w }) (sym (load-same s.words 0))
            (restated s r id me.0 at me.0.offer [] (me.0.at.seen, refl)),
        ((r.each id me.0 at).told, refl),
      )
