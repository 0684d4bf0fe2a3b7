-- A call that a seat makes in its turn.
use Rattle.std.proofs.Common.{◌≡◌, ℕ, ◌+◌, ◌%◌, ◌^◌, [], ◌∷◌, ◌++◌, refl, ap, sym, ◌∙◌, subst}
use mathlib.Core.Option.{none}
use Rattle.atomic_table.specs.Table.{Me, step, Allows}
use Rattle.history_lock.specs.declared.entry.Entry.{Entry}
use Rattle.history_lock.specs.declared.view.View.{View}
use Rattle.history_lock.specs.declared.rule.Origin.{Origin}
use Rattle.history_lock.specs.declared.rule.Note.{Note}
use Rattle.history_lock.specs.declared.rule.Held.{Held}
use Rattle.history_lock.specs.declared.rule.Held.TheVariants.{Here, Made}
use Rattle.history_lock.specs.declared.rule.Known.{Known}
use Rattle.history_lock.specs.Legal.{replay, legal}
use Rattle.history_lock.specs.Rule.{Meaning, Kept, StandsAt}
use Rattle.history_lock.specs.Steps.{entry_of, logged, logs}
use Rattle.history_lock.specs.Parts.{Sits, HasSlot, Called}
use Rattle.history_lock.proofs.Histories.{replay-append, count_after-append, legal-more}
use Rattle.history_lock.proofs.Logging.{logs-allowed}
use Rattle.history_lock.proofs.Turns.{InTurn}

module _ {O S C R : Type 0} (m : Meaning O S C R) where
  -- the call of the note was made on this object, which became that one
  pub record Ran (n : Note O C R) (call : C) (reply : R) (object then : O) : Type 0 where
    pub asked : n.call.value ≡ call
    pub replied : n.reply.value ≡ reply
    pub before : n.before.value ≡ object
    pub after : n.after.value ≡ then
    pub allowed : m.allows (m.state object) call reply (m.faults object) (m.faults then)
    pub next : m.state then ≡ m.next (m.state object) call reply

  -- the same, in the note's words
  pub allowed-there : (n : Note O C R) (call : C) (reply : R) (object then : O) (s : S) → Ran n call reply object then → m.state object ≡ s
      → m.allows s n.call.value n.reply.value (m.faults n.before.value) (m.faults n.after.value)
  allowed-there n call reply object then s ran is =
      subst (λ (z : S × C × R × O × O). m.allows z.0 z.1 z.2 (m.faults z.3) (m.faults z.4))
      (λ i. (is i, sym ran.asked i, sym ran.replied i, sym ran.before i, sym ran.after i)) ran.allowed

  -- and so is the state after it
  pub next-there : (n : Note O C R) (call : C) (reply : R) (object then : O) (s : S) → Ran n call reply object then → m.state object ≡ s
      → m.state then ≡ m.next s n.call.value n.reply.value
  next-there n call reply object then s ran is = ran.next ∙ (λ i. m.next (is i) (sym ran.asked i) (sym ran.replied i))

module _ {O S C R : Type 0} (m : Meaning O S C R) (origin : Origin S) (me : Me (Held O C R) (Known S C R)) (n : Note O C R) (call : C)
    (reply : R) (object then : O) where
  -- the history with this call is legal
  longer-legal : Sits m origin me → InTurn m origin me object → Ran m n call reply object then
      → legal m.allows m.next origin.opening origin.first (me.0.at.seen ++ entry_of m.faults n ∷ [])
  longer-legal sits turn ran =
      legal-more m.allows m.next origin.opening origin.first me.0.at.seen (entry_of m.faults n) sits.legally
      (ap m.faults ran.before ∙ turn.stands.1)
      (allowed-there m n call reply object then (replay m.next origin.opening me.0.at.seen) ran turn.stands.0)

  -- the step that logs it keeps the rule
  pub may-log : (key : Origin S) (slots id : ℕ) (noted : Me (Held O C R) (Known S C R)) → Sits m origin me → InTurn m origin me object
      → Ran m n call reply object then → noted ≡ (me.0, (0, Made n) ∷ [])
      → Allows (Kept m key) slots id noted 0 (λ k. (k + 1) % 2 ^ 64) (logs m.faults (step slots 0 1 0 none) noted)
  may-log key slots id noted sits turn ran is =
      subst (λ (z : Me (Held O C R) (Known S C R)). Allows (Kept m key) slots id z 0 (λ k. (k + 1) % 2 ^ 64)
      (logs m.faults (step slots 0 1 0 none) z)) (sym is)
      (logs-allowed m key slots id turn.ticket (me.0, (0, Made n) ∷ []) origin n turn.serves sits.origin refl (longer-legal sits turn ran))

  -- with the object back in the slot it sits as before
  pub sits-after : (done : Me (Held O C R) (Known S C R)) → Sits m origin me → InTurn m origin me object → Ran m n call reply object then
      → done ≡ (record me.0 { at = logged m.faults n me.0.at }, (0, Here then) ∷ [])
      → Sits m origin done
  sits-after done sits turn ran is =
      let e : Entry C R = entry_of m.faults n in
      let after : Me (Held O C R) (Known S C R) = (record me.0 { at = logged m.faults n me.0.at }, (0, Here then) ∷ []) in
      let stands : StandsAt m origin (me.0.at.seen ++ e ∷ []) then = (
        next-there m n call reply object then (replay m.next origin.opening me.0.at.seen) ran turn.stands.0
            ∙ sym (replay-append m.next origin.opening me.0.at.seen (e ∷ [])),
        ap m.faults (sym ran.after) ∙ sym (count_after-append origin.first me.0.at.seen (e ∷ [])),
      ) in
      subst (Sits m origin) (sym is) record {
        origin = sits.origin;
        some_parts = sits.some_parts;
        untold = sits.untold;
        slot = subst (HasSlot m origin after) (sym turn.serves) (then, refl, stands);
        legally = longer-legal sits turn ran;
      }

module _ {O S C R : Type 0} (faults : O → ℕ) (me : Me (Held O C R) (Known S C R)) (n : Note O C R) where
  -- what the seat knows then
  pub was-logged : (found : ℕ) (noted done : Me (Held O C R) (Known S C R)) → noted ≡ (me.0, (0, Made n) ∷ [])
      → logs faults (step 1 0 1 0 none) noted found done
      → done ≡ (record me.0 { at = logged faults n me.0.at }, (0, Made n) ∷ [])
  was-logged found noted done is logs =
      logs n (ap (λ (z : Me (Held O C R) (Known S C R)). z.1) is)
      ∙ ap (λ (z : Me (Held O C R) (Known S C R)). let x : Me (Held O C R) (Known S C R) =
      (record z.0 { at = logged faults n z.0.at }, z.1) in x) is

module _ {O S C R : Type 0} (m : Meaning O S C R) (origin : Origin S) (me : Me (Held O C R) (Known S C R)) (n : Note O C R) (call : C)
    (reply : R) (object then : O) where
  -- the whole call: the note is put into the slot, the call logged, and the object put back
  pub was-called : (found : ℕ) (noted counted done : Me (Held O C R) (Known S C R)) → Sits m origin me → InTurn m origin me object
      → Ran m n call reply object then → noted ≡ (me.0, (0, Made n) ∷ [])
      → logs m.faults (step 1 0 1 0 none) noted found counted → done ≡ (counted.0, (0, Here then) ∷ [])
      → Called m origin me done n.who call reply
  was-called found noted counted done sits turn ran noting logging putting =
      let after : Known S C R = record me.0 { at = logged m.faults n me.0.at } in
      let counts : counted.0 ≡ after =
      ap (λ (z : Me (Held O C R) (Known S C R)). z.0) (was-logged m.faults me n found noted counted noting logging) in
      let is : done ≡ (after, (0, Here then) ∷ []) = putting
      ∙ ap (λ (v : Known S C R). let x : Me (Held O C R) (Known S C R) = (v, (0, Here then) ∷ []) in x) counts in
      let at : done.0.at ≡ logged m.faults n me.0.at = ap (λ (z : Me (Held O C R) (Known S C R)). z.0.at) is in record {
        sits = sits-after m origin me n call reply object then done sits turn ran is;
        same = ap (λ (z : Me (Held O C R) (Known S C R)). z.0) is
            ∙ ap (λ (a : View C R). let x : Known S C R = record me.0 { at = a } in x) (sym at);
        logged = record {
          before = m.faults n.before.value;
          after = m.faults n.after.value;
          seen = ap (λ (a : View C R). a.seen) at
              ∙ (λ i. me.0.at.seen ++ record {
                who = n.who;
                call = ran.asked i;
                reply = ran.replied i;
                before = m.faults n.before.value;
                after = m.faults n.after.value;
              } ∷ []);
          own = ap (λ (a : View C R). a.own) at;
        };
      }
