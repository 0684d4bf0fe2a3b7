-- How an operation goes on, and ends.
use Rattle.std.proofs.Common.{◌≡◌, ⊎_elim, ℕ, ◌+◌, ◌<◌, ◌≤◌, ◌==◌, Bool, true, false, ◌||◌, List, [], ◌∷◌, ◌++◌, length, refl, ap, sym, ◌∙◌, subst, arith, append_assoc, length-append}
use Rattle.std.proofs.lemmas.Bool.Decides.{nat_tests}
use Rattle.history_lock.specs.declared.entry.Who.{Who}
use Rattle.history_lock.specs.declared.view.View.{View}
use Rattle.history_lock.specs.Places.{same_who, is_own, Within}
use Rattle.history_lock.specs.Legal.{replay}
use Rattle.std_words.proofs.Tests.{never-both, or-first, or-second, or-either, or-neither}
use Rattle.history_lock.proofs.Whos.{who-same}
use Rattle.history_lock.proofs.Picks.{either, own-append, within-either}
use Rattle.doc_model.specs.Run.{Done}
use Rattle.table_words.specs.declared.call.TableCall.{TableCall}
use Rattle.table_words.specs.declared.call.TableReply.{TableReply}
use Rattle.table_words.specs.Tables.{Tables}
use Rattle.table_words.specs.Step.{tables_after}
use Rattle.table_words.proofs.Finds.{number-same}
use Rattle.doc_history.specs.Docs.{docs}
use Rattle.doc_history.specs.Told.{Tcall, after, told_part}
use Rattle.doc_history.specs.Part.{Served}
use Rattle.doc_store.specs.Ended.{Left, Tried, Ended}
use Rattle.doc_store.proofs.Lefts.{left-past, left-grows, left-either, left-places, left-last, left-belong, told-last}

append-nil : {X : Type 0} (xs : List X) → xs ++ [] ≡ xs
append-nil [] = refl
append-nil (x ∷ xs) = ap (λ t. x ∷ t) (append-nil xs)

pub tried-none : (s : Tables) (v : View TableCall TableReply) (who : Who) → Tried s v v who 0
tried-none s v who = record {
  more = [];
  places = [];
  seen = sym (append-nil v.seen);
  own = sym (append-nil v.own);
  fresh = λ i e. never-both false e refl;
  within = λ i le. refl;
  left = left-past (is_own []) who s 0 v.seen (λ i le. refl);
  few = omega arith;
}

-- others logged something
pub tried-longer : (s : Tables) (a b c : View TableCall TableReply) (who : Who) (k : ℕ) (more : List Tcall) → Tried s a b who k → c.seen ≡ b.seen ++ more → c.own ≡ b.own → Tried s a c who k
tried-longer s a b c who k more t seen own =
    let long = ap length seen ∙ length-append b.seen more in
    record {
      more = t.more ++ more;
      places = t.places;
      seen = seen ∙ ap (λ x. x ++ more) t.seen ∙ append_assoc a.seen t.more more;
      own = own ∙ t.own;
      fresh = t.fresh;
      within = λ i le. t.within i (omega (arith, le, long));
      left = subst (Left (is_own t.places) who s 0) (sym seen) (left-grows (is_own t.places) who s 0 b.seen more (λ i le. t.within i (omega (arith, le))) t.left);
      few = t.few;
    }

own-last : (places : List ℕ) (k i : ℕ) → is_own (places ++ k ∷ []) i ≡ (is_own places i || ((k == i) || false))
own-last places k i = own-append places (k ∷ []) i

one-of : {P : Type 0} (places : List ℕ) (k i : ℕ) → is_own (places ++ k ∷ []) i ≡ true → (is_own places i ≡ true → P) → (k ≡ i → P) → P
one-of places k i here old new = ⊎_elim old (λ e. new (grind (arith, nat_tests, e))) (or-either (is_own places i) ((k == i) || false) (sym (own-last places k i) ∙ here))

-- a place below is no other than before
own-below : (places : List ℕ) (k i : ℕ) → i < k → is_own (places ++ k ∷ []) i ≡ is_own places i
own-below places k i less = own-last places k i ∙ same (is_own places i) (k == i) (grind (arith, nat_tests))
  where
    same : (a b : Bool) → b ≡ false → (a || (b || false)) ≡ a
    same true b e = refl
    same false b e = rw e refl

own-here : (places : List ℕ) (k : ℕ) → is_own (places ++ k ∷ []) k ≡ true
own-here places k = own-last places k k ∙ or-second (is_own places k) ((k == k) || false) (or-first (k == k) false (number-same k))

own-past : (places : List ℕ) (k n i : ℕ) → Within (is_own places) k → n ≡ k + 1 → n ≤ i → is_own (places ++ k ∷ []) i ≡ false
own-past places k n i w e le = own-last places k i ∙ or-neither (is_own places i) ((k == i) || false) (w i (omega (arith, e, le))) (or-neither (k == i) false (let less : k < i = omega (arith, e, le) in grind (arith, nat_tests)) refl)

-- the operation made a call, which left the documents
pub tried-called : (s : Tables) (a b c : View TableCall TableReply) (who : Who) (k : ℕ) (e : Tcall) → Tried s a b who k → c.seen ≡ b.seen ++ e ∷ [] → c.own ≡ b.own ++ length b.seen ∷ [] → e.who ≡ who → docs (after (replay tables_after s b.seen) e) ≡ docs (replay tables_after s b.seen) → Tried s a c who (k + 1)
tried-called s a b c who k e t seen own mine same =
    let at : ℕ = length b.seen in
    let long = ap length seen ∙ length-append b.seen (e ∷ []) in
    let came = ap length t.seen ∙ length-append a.seen t.more in
    let is_who : same_who e.who who ≡ true = rw mine (who-same who) in
    let old : Left (is_own (t.places ++ at ∷ [])) who s 0 b.seen = left-places (is_own t.places) (is_own (t.places ++ at ∷ [])) who s 0 b.seen (λ j less. own-below t.places at j (omega (arith, less))) t.left in
    record {
      more = t.more ++ e ∷ [];
      places = t.places ++ at ∷ [];
      seen = seen ∙ ap (λ x. x ++ e ∷ []) t.seen ∙ append_assoc a.seen t.more (e ∷ []);
      own = own ∙ ap (λ x. x ++ at ∷ []) t.own ∙ append_assoc a.own t.places (at ∷ []);
      fresh = λ i here. one-of t.places at i here (t.fresh i) (λ q. omega (arith, q, came));
      within = λ i le. own-past t.places at (length c.seen) i t.within long le;
      left = subst (Left (is_own (t.places ++ at ∷ [])) who s 0) (sym seen) (left-last (is_own (t.places ++ at ∷ [])) who s 0 b.seen e old is_who same);
      few = omega (arith, length-append t.places (at ∷ []), t.few);
    }

-- one try, and then another
pub tried-on : (s : Tables) (a b c : View TableCall TableReply) (who : Who) (j k : ℕ) → Tried s a b who j → Tried s b c who k → Tried s a c who (j + k)
tried-on s a b c who j k t u =
    let come = ap length t.seen ∙ length-append a.seen t.more in
    let long = ap length u.seen ∙ length-append b.seen u.more in
    let grown : Within (is_own t.places) (length c.seen) = λ i le. t.within i (omega (arith, le, long)) in
    let first : Left (is_own t.places) who s 0 c.seen = subst (Left (is_own t.places) who s 0) (sym u.seen) (left-grows (is_own t.places) who s 0 b.seen u.more (λ i le. t.within i (omega (arith, le))) t.left) in
    record {
      more = t.more ++ u.more;
      places = t.places ++ u.places;
      seen = u.seen ∙ ap (λ x. x ++ u.more) t.seen ∙ append_assoc a.seen t.more u.more;
      own = u.own ∙ ap (λ x. x ++ u.places) t.own ∙ append_assoc a.own t.places u.places;
      fresh = λ i here. ⊎_elim (t.fresh i) (λ there. omega (arith, come, u.fresh i there)) (or-either (is_own t.places i) (is_own u.places i) (sym (own-append t.places u.places i) ∙ here));
      within = λ i le. own-append t.places u.places i ∙ within-either (is_own t.places) (is_own u.places) (length c.seen) grown u.within i le;
      left = left-places (either (is_own t.places) (is_own u.places)) (is_own (t.places ++ u.places)) who s 0 c.seen (λ i le. own-append t.places u.places i) (left-either (is_own t.places) (is_own u.places) who s 0 c.seen first u.left);
      few = omega (arith, length-append t.places u.places, t.few, u.few);
    }

pub ended-on : (s : Tables) (a b c : View TableCall TableReply) (d : Done) (j k : ℕ) → Tried s a b d.who j → Ended s b c d k → Ended s a c d (j + k)
ended-on s a b c d j k t e = record {
  before = e.before;
  entry = e.entry;
  tried = tried-on s a b e.before d.who j k t e.tried;
  seen = e.seen;
  own = e.own;
  same = e.same;
  last = e.last;
}

-- so it was served
pub ended-served : (s : Tables) (a c : View TableCall TableReply) (d : Done) (k : ℕ) → Ended s a c d k → Served s a c (d ∷ [])
ended-served s a c d k e =
    let b = e.before in
    let t = e.tried in
    let at : ℕ = length b.seen in
    let long = ap length e.seen ∙ length-append b.seen (e.entry ∷ []) in
    let came = ap length t.seen ∙ length-append a.seen t.more in
    let is_who : same_who e.entry.who d.who ≡ true = rw e.same (who-same d.who) in
    let m : ℕ → Bool = is_own (t.places ++ at ∷ []) in
    let old : Left m d.who s 0 b.seen = left-places (is_own t.places) m d.who s 0 b.seen (λ j less. own-below t.places at j (omega (arith, less))) t.left in
    record {
      more = t.more ++ e.entry ∷ [];
      places = t.places ++ at ∷ [];
      seen = e.seen ∙ ap (λ x. x ++ e.entry ∷ []) t.seen ∙ append_assoc a.seen t.more (e.entry ∷ []);
      own = e.own ∙ ap (λ x. x ++ at ∷ []) t.own ∙ append_assoc a.own t.places (at ∷ []);
      fresh = λ i here. one-of t.places at i here (t.fresh i) (λ q. omega (arith, q, came));
      within = λ i le. own-past t.places at (length c.seen) i t.within long le;
      told = subst (λ h. told_part s h (t.places ++ at ∷ []) (d ∷ [])) (sym e.seen) (record {
        each = (told-last m s b.seen e.entry d old (rw (own-here t.places at) is_who) e.last, tt);
        none_else = left-belong m d.who s 0 b.seen e.entry old is_who;
      });
    }
