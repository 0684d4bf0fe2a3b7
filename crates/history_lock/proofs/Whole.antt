-- A seat with all parts made all calls, and has seen them.
use Rattle.std.proofs.Common.{◌≡◌, ℕ, List, length, ap, sym, ◌∙◌, arith}
use Rattle.std.proofs.lemmas.Bool.Decides.{nat_tests}
use mathlib.Core.Option.{some}
use mathlib.Core.List.{IsPrefix}
use native.Mathlib.Decide.{dec_le}
use lib.ListN.{get_elem?}
use Rattle.atomic_table.specs.Table.{State}
use Rattle.history_lock.specs.declared.rule.Origin.{Origin}
use Rattle.history_lock.specs.declared.rule.Held.{Held}
use Rattle.history_lock.specs.declared.rule.Known.{Known}
use Rattle.history_lock.specs.Places.{times, is_own, Within}
use Rattle.history_lock.specs.Rule.{Meaning, below, parts_of, times_of, Kept}
use Rattle.history_lock.proofs.Beginnings.{prefix-whole}
use Rattle.history_lock.proofs.Totals.{total-alone}
use Rattle.history_lock.proofs.Owning.{own-times}

-- where all places of a list are a seat's own, it has seen the whole list
whole-seen : {A : Type 0} (xs log : List A) (own : List ℕ) → ((i : ℕ) → below (length log) i ≡ times own i)
    → Within (is_own own) (length xs) → IsPrefix xs log → xs ≡ log
whole-seen xs log own all within pre =
    prefix-whole xs log pre (elim (dec_le (length log) (length xs)) [
      | yes le ↦ le
      | no more ↦ absurd (
          let one : below (length log) (length xs) ≡ 1 = grind (arith, nat_tests) in
          let there = own-times own (length xs) (λ e. let a = all (length xs) in omega arith) in
          let not_there = within (length xs) (omega arith) in cc (there, not_there))
    ])

module _ {O S C R : Type 0} (m : Meaning O S C R) (key : Origin S) where
  abbrev Rule : State (Held O C R) (Known S C R) → Type 0
  Rule = Kept m key

  -- a seat with all parts made all calls
  pub owns-all : (s : State (Held O C R) (Known S C R)) (r : Rule s) (id : ℕ) (v : Known S C R) → get_elem? s.views id ≡ some v
      → v.parts ≡ key.parts → (i : ℕ) → below (length r.log) i ≡ times v.at.own i
  owns-all s r id v at all i =
      sym (r.places i) ∙ total-alone parts_of (times_of i) s.views id v at (r.parts
      ∙ sym all) (λ j u there none_left. ap (λ (l : List ℕ). times l i) ((r.each j u there).idle none_left))

  -- and has seen them
  pub sees-all : (s : State (Held O C R) (Known S C R)) (r : Rule s) (id : ℕ) (v : Known S C R) → get_elem? s.views id ≡ some v
      → v.parts ≡ key.parts → v.at.seen ≡ r.log
  sees-all s r id v at all = let f = r.each id v at in whole-seen v.at.seen r.log v.at.own (owns-all s r id v at all) f.own f.seen
