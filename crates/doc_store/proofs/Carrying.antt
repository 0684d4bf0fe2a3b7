-- What the calls of an operation carry.
use Rattle.std.proofs.Common.{◌≡◌, ⊎_elim, ℕ, ◌+◌, ◌<◌, ◌==◌, Bool, false, List, [], ◌∷◌, ◌++◌, length, refl, ap, sym, ◌∙◌, subst, arith, Some, append_assoc, length-append}
use Rattle.std.proofs.lemmas.Bool.Decides.{nat_tests}
use Rattle.std_words.proofs.Tests.{never-both, or-either, or-neither}
use Rattle.history_lock.specs.declared.entry.Who.{Who}
use Rattle.history_lock.specs.Places.{is_own, Within}
use Rattle.history_lock.proofs.Picks.{own-append, within-later}
use Rattle.table_words.specs.declared.call.TableCall.{TableCall}
use Rattle.table_words.specs.declared.call.TableReply.{TableReply}
use Rattle.table_words.specs.Tables.{Tables}
use Rattle.table_words.specs.Called.{Called}
use Rattle.bson_values.specs.declared.space.Space.{Space}
use Rattle.filter_syntax.specs.declared.filter.Filter.{Filter}
use Rattle.jsonb_contain.specs.declared.cond.Cond.{Cond}
use Rattle.pushdown.specs.Pushed.{cond}
use Rattle.table_words.specs.declared.call.TableCall.TheVariants as call
use Rattle.doc_model.specs.declared.op.Op.{Op}
use Rattle.doc_history.specs.Part.{Views}
use Rattle.doc_history.specs.Told.{Tcall}
use Rattle.doc_history.proofs.Going.{append-nil}
use Rattle.doc_store.specs.Carried.{Carried, Carries, CarryAt}
use Rattle.doc_effects.specs.Replies.{op_of}
use Rattle.doc_effects.specs.Deeds.{op_done}
use Rattle.doc_effects.specs.declared.deeds.Deed.{Deed}
use Rattle.doc_effects.specs.declared.deeds.Deed.TheVariants as deed
use Rattle.doc_effects.specs.declared.aims.Aim.{Aim}
use Rattle.doc_effects.specs.declared.aims.Aim.TheVariants as aim

-- it made none
none-carries : (by : Op) (i : ℕ) (es : List Tcall) → CarryAt (is_own []) by i es
none-carries by i [] = tt
none-carries by i (e ∷ es) = ((λ own. never-both false own refl), none-carries by (i + 1) es)

none-within : (n : ℕ) → Within (is_own []) n
none-within n i le = refl

-- others may have logged something
pub carried-longer : (by : Op) (old new : Views) (more : List Tcall) → new.seen ≡ old.seen ++ more → new.own ≡ old.own → Carried by old new
carried-longer by old new more seen own = record {
  more = more;
  places = [];
  seen = seen;
  own = own ∙ sym (append-nil old.own);
  within = none-within (length new.seen);
  carry = none-carries by 0 new.seen;
}

pub carried-none : (by : Op) (v : Views) → Carried by v v
carried-none by v = carried-longer by v v [] (sym (append-nil v.seen)) refl

-- it made the last one
apart : (k i : ℕ) → i < k → is_own (k ∷ []) i ≡ false
apart k i less = or-neither (k == i) false (grind (arith, nat_tests, less)) refl

last-carries : (by : Op) (k i : ℕ) (es : List Tcall) (e : Tcall) → i + length es ≡ k → Carries by e.call
    → CarryAt (is_own (k ∷ [])) by i (es ++ e ∷ [])
last-carries by k i [] e at is = ((λ own. is), tt)
last-carries by k i (x ∷ es) e at is =
    ((λ own. never-both (is_own (k ∷ []) i) own (apart k i (omega (arith, at)))), last-carries by k (i + 1) es e (omega (arith, at)) is)

pub carried-call : {h : Bool} {s : Tables} {n : ℕ} {old new : Views} {who : Who} {c : TableCall} {r : TableReply} (by : Op)
    → Called h s n old new who c r → Carries by c → Carried by old new
carried-call {h} {s} {n} {old} {new} {who} {c} {r} by called is =
    let before : List Tcall = old.seen ++ called.between in
    let k : ℕ = length before in
    let e : Tcall = record { who = who; call = c; reply = r; before = called.before; after = called.after } in
    let long = ap length called.seen ∙ length-append before (e ∷ []) in
    record {
      more = called.between ++ e ∷ [];
      places = k ∷ [];
      seen = called.seen ∙ append_assoc old.seen called.between (e ∷ []);
      own = called.own;
      within = λ i le. or-neither (k == i) false (let less : k < i = omega (arith, le, long) in grind (arith, nat_tests, less)) refl;
      carry = subst (CarryAt (is_own (k ∷ [])) by 0) (sym called.seen) (last-carries by k 0 before e (omega arith) is);
    }

-- and then it went on
carry-past : (m : ℕ → Bool) (by : Op) (i : ℕ) (es : List Tcall) → Within m i → CarryAt m by i es
carry-past m by i [] w = tt
carry-past m by i (e ∷ es) w =
    ((λ own. never-both (m i) own (w i (omega arith))), carry-past m by (i + 1) es (within-later m i (i + 1) (omega arith) w))

carry-grows : (m : ℕ → Bool) (by : Op) (i : ℕ) (es more : List Tcall) → Within m (i + length es) → CarryAt m by i es → CarryAt m by i (es ++ more)
carry-grows m by i [] more w carry = carry-past m by i more (λ j le. w j (omega (arith, le)))
carry-grows m by i (e ∷ es) more w carry =
    let long : length (e ∷ es) ≡ length es + 1 = grind arith in
    (carry.0, carry-grows m by (i + 1) es more (λ j le. w j (omega (arith, le, long))) carry.1)

carry-both : (a b : List ℕ) (by : Op) (i : ℕ) (es : List Tcall) → CarryAt (is_own a) by i es → CarryAt (is_own b) by i es
    → CarryAt (is_own (a ++ b)) by i es
carry-both a b by i [] p q = tt
carry-both a b by i (e ∷ es) p q = (
  (λ own. ⊎_elim p.0 q.0 (or-either (is_own a i) (is_own b i) (sym (own-append a b i) ∙ own))),
  carry-both a b by (i + 1) es p.1 q.1,
)

pub carried-on : (by : Op) (a b c : Views) → Carried by a b → Carried by b c → Carried by a c
carried-on by a b c p q =
    let long = ap length q.seen ∙ length-append b.seen q.more in
    let grown : Within (is_own p.places) (length c.seen) = λ i le. p.within i (omega (arith, le, long)) in
    record {
      more = p.more ++ q.more;
      places = p.places ++ q.places;
      seen = q.seen ∙ ap (λ x. x ++ q.more) p.seen ∙ append_assoc a.seen p.more q.more;
      own = q.own ∙ ap (λ x. x ++ q.places) p.own ∙ append_assoc a.own p.places q.places;
      within = λ i le. own-append p.places q.places i ∙ or-neither (is_own p.places i) (is_own q.places i) (grown i le) (q.within i le);
      carry = carry-both p.places q.places by 0 c.seen
          (subst (CarryAt (is_own p.places) by 0) (sym q.seen)
          (carry-grows (is_own p.places) by 0 b.seen q.more (λ i le. p.within i (omega (arith, le))) p.carry)) q.carry;
    }

-- a selection by the condition of the filter
pub aim-carries : (it : Aim) (space : Space) (by : Filter) (asked : Cond) → asked ≡ cond by
    → Carries (op_of it space by) (call.SelectNamed space asked)
aim-carries (aim.Documents show) space by asked is = ap Some is
aim-carries (aim.Number skip limit) space by asked is = ap Some is
aim-carries (aim.Values path) space by asked is = ap Some is

pub deed-carries : (it : Deed) (space : Space) (by : Filter) (asked : Cond) → asked ≡ cond by
    → Carries (op_done it space by) (call.SelectNamed space asked)
deed-carries (deed.Update update multi upsert) space by asked is = ap Some is
deed-carries (deed.Delete one) space by asked is = ap Some is
deed-carries (deed.Modify order change fresh upsert shape) space by asked is = ap Some is
