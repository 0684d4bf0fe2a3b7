-- The law of the story.
use Rattle.std.proofs.Common.{◌≡◌, ℕ, ◌+◌, Bool, true, false, ◌||◌, List, [], ◌∷◌, ◌++◌, refl, ap, sym, ◌∙◌, subst}
use Rattle.std.proofs.lemmas.Bool.{MatchBool-at_true}
use Rattle.std_words.proofs.Tests.{or-first, or-second}
use Rattle.history_lock.specs.declared.entry.Who.{Who}
use Rattle.history_lock.specs.Places.{Each, same_who, is_among, anywhere, has, Belong}
use Rattle.history_lock.specs.Legal.{replay}
use Rattle.history_lock.proofs.Whos.{who-same, who-equal}
use Rattle.doc_model.specs.Run.{Done, whos, run}
use Rattle.table_words.specs.Tables.{Tables}
use Rattle.table_words.specs.Step.{tables_after}
use Rattle.doc_history.specs.Docs.{docs}
use Rattle.doc_history.specs.Told.{Tcall, after, at_entry, acts, unlogged, told_op, told}
use Rattle.doc_history.specs.Laws.{Tells, Story, IsOneOf}

found-by : (who : Who) (d : Done) (ds : List Done)
    → (is_among who (whos ds) ≡ true → (c : Done) × IsOneOf ds c × (c.who ≡ who)) → (b : Bool)
    → same_who who d.who ≡ b → (same_who who d.who || is_among who (whos ds)) ≡ true → (c : Done) × IsOneOf (d ∷ ds) c × (c.who ≡ who)
found-by who d ds further true is e = (d, ([], ds, refl), sym (who-equal who d.who is))
found-by who d ds further false is e =
    let r = further (rw is at e) in
    (r.0, (d ∷ r.1.0, r.1.1, ap (λ t. d ∷ t) r.1.2), r.2)

found : (who : Who) (ds : List Done) → is_among who (whos ds) ≡ true → (d : Done) × IsOneOf ds d × (d.who ≡ who)
found who [] e = cc
found who (d ∷ ds) e = found-by who d ds (λ t. found who ds t) (same_who who d.who) refl e

each-in : (P : Done → Type 0) (before behind : List Done) (d : Done) → Each P (before ++ d ∷ behind) → P d
each-in P [] behind d p = p.0
each-in P (x ∷ before) behind d p = each-in P before behind d p.1

each-at : (P : Done → Type 0) (ds : List Done) (d : Done) → IsOneOf ds d → Each P ds → P d
each-at P ds d i p = each-in P i.0 i.1 d (subst (Each P) i.2 p)

-- it does not matter at which place a list begins
has-any : (who : Who) (i j : ℕ) (es : List Tcall) → has anywhere who i es ≡ has anywhere who j es
has-any who i j [] = refl
has-any who i j (e ∷ es) = ap (λ b. same_who e.who who || b) (has-any who (i + 1) (j + 1) es)

-- what is told of each operation that has entries from here on
abbrev Acted : Tables → ℕ → List Tcall → List Done → Type 0
Acted s i h ds = (d : Done) → IsOneOf ds d → has anywhere d.who i h ≡ true → acts anywhere s i h d

tale-step : (s : Tables) (e : Tcall) (es : List Tcall) (ds : List Done) (d : Done) → IsOneOf ds d → d.who ≡ e.who → (b : Bool)
    → has anywhere e.who 0 es ≡ b → at_entry true b s e d → Story (after s e) es ds → Story s (e ∷ es) ds
tale-step s e es ds d i w true is here t = record {
  dones = t.dones;
  in_order = rw is t.in_order;
  from_these = t.from_these;
  runs = subst (λ x. run x t.dones (docs (replay tables_after (after s e) es))) here t.runs;
}
tale-step s e es ds d i w false is here t = record {
  dones = d ∷ t.dones;
  in_order = rw (is, w) (ap (λ ws. e.who ∷ ws) t.in_order);
  from_these = (i, t.from_these);
  runs = (docs (after s e), here.stepped, t.runs);
}

tale : (s : Tables) (i : ℕ) (h : List Tcall) (ds : List Done) → Acted s i h ds → Belong anywhere (whos ds) i h → Story s h ds
tale s i [] ds a b = record { dones = []; in_order = refl; from_these = tt; runs = refl }
tale s i (e ∷ es) ds a b =
    let f = found e.who ds (b.0 refl) in
    let later : Bool = has anywhere f.0.who (i + 1) es in
    let mine : same_who e.who f.0.who ≡ true = rw f.2 (who-same e.who) in
    let p : acts anywhere s i (e ∷ es) f.0 = a f.0 f.1 (or-first (same_who e.who f.0.who) later mine) in
    let one : at_entry true later s e f.0 = subst (λ x. at_entry x later s e f.0) mine p.0 in
    let other : later ≡ has anywhere e.who 0 es = ap (λ w. has anywhere w (i + 1) es) f.2 ∙ has-any e.who (i + 1) 0 es in
    let two : at_entry true (has anywhere e.who 0 es) s e f.0 = subst (λ x. at_entry true x s e f.0) other one in
    tale-step s e es ds f.0 f.1 f.2 (has anywhere e.who 0 es) refl two
    (tale (after s e) (i + 1) es ds
    (λ c ic t. (a c ic (or-second (same_who e.who c.who) (has anywhere c.who (i + 1) es) t)).1) b.1)

acted-all : (s : Tables) (h : List Tcall) (ds : List Done) → told s h ds → Acted s 0 h ds
acted-all s h ds p d i t =
    MatchBool-at_true (acts anywhere s 0 h d) (unlogged d) t (each-at (told_op anywhere s h) ds d i p.each)

pub law_tells : Tells
law_tells s h ds p = tale s 0 h ds (acted-all s h ds p) p.none_else
