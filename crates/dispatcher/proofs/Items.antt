-- The items of a write, one after another.
use Rattle.std.proofs.Common.{◌≡◌, ◌⊎◌, ℕ, zero, suc, ◌+◌, ◌≤◌, ◌<◌, Bool, true, false, ◌&&◌, ◌||◌, List, [], ◌∷◌, ◌++◌, length, map, take, drop, get_or, MatchBool, ⊎_elim}
use Rattle.std.proofs.Common.{refl, ap, sym, ◌∙◌, subst, arith, length-append}
use Rattle.std_words.proofs.Tests.{or-either}
use Rattle.history_lock.specs.Places.{same_who}
use Rattle.history_lock.specs.declared.entry.Who.{Who}
use Rattle.table_words.specs.Tables.{Tables}
use Rattle.doc_model.specs.declared.op.Op.{Op}
use Rattle.doc_model.specs.declared.op.OpReply.{OpReply}
use Rattle.doc_model.specs.Run.{Done, whos}
use Rattle.doc_history.specs.Part.{Views, Served}
use Rattle.doc_history.proofs.Going.{served_none, served_on}
use Rattle.reply_words.specs.declared.ends.ItemEnd.{ItemEnd}
use Rattle.dispatcher.specs.Answers.{Stops, end_of, fails}
use Rattle.dispatcher.specs.Answering.{Did, DidOne, DidItems, DidAll, GoesOn}
use Rattle.dispatcher.specs.Script.{numbered}
use Rattle.dispatcher.proofs.Numbered.{Between, append-nil, numbered-none, numbered-between, one-between, numbered-last, apart-at}

abbrev stays : Bool → OpReply → Bool
stays ordered one = ordered && fails (end_of one)

longer : (op : Op) (ops : List Op) (r : OpReply) (rs : List OpReply) → length ops ≡ length rs → length (op ∷ ops) ≡ length (r ∷ rs)
longer op ops r rs same = grind (arith, same)

-- each has a reply
goes-long : (ordered : Bool) (ops : List Op) (rs : List OpReply) → GoesOn ordered ops rs → length ops ≡ length rs
goes-long ordered [] [] goes = refl
goes-long ordered (op ∷ ops) (r ∷ rs) goes = longer op ops r rs (goes-long ordered ops rs goes.1)
goes-long ordered [] (r ∷ rs) goes = absurd goes
goes-long ordered (op ∷ ops) [] goes = absurd goes

goes-more : (ordered : Bool) (ops more : List Op) (rs others : List OpReply) → GoesOn ordered ops rs → GoesOn ordered more others
    → GoesOn ordered (ops ++ more) (rs ++ others)
goes-more ordered [] more [] others goes rest = rest
goes-more ordered (op ∷ ops) more (r ∷ rs) others goes rest = (goes.0, goes-more ordered ops more rs others goes.1 rest)
goes-more ordered [] more (r ∷ rs) others goes rest = absurd goes
goes-more ordered (op ∷ ops) more [] others goes rest = absurd goes

at-true : (b : Bool) (P Q : Type 0) → b ≡ true → P → MatchBool b P Q
at-true b P Q is p = subst (λ x. MatchBool x P Q) (sym is) p

at-false : (b : Bool) (P Q : Type 0) → b ≡ false → Q → MatchBool b P Q
at-false b P Q is q = subst (λ x. MatchBool x P Q) (sym is) q

-- what goes on to the end stops there
goes-stops : (ordered : Bool) (ops more : List Op) (rs others : List OpReply) → GoesOn ordered ops rs → Stops ordered more others
    → Stops ordered (ops ++ more) (rs ++ others)
goes-stops ordered [] more [] others goes rest = rest
goes-stops ordered (op ∷ ops) more (r ∷ rs) others goes rest =
    at-false (stays ordered r) (rs ++ others ≡ []) (Stops ordered (ops ++ more) (rs ++ others)) goes.0
    (goes-stops ordered ops more rs others goes.1 rest)
goes-stops ordered [] more (r ∷ rs) others goes rest = absurd goes
goes-stops ordered (op ∷ ops) more [] others goes rest = absurd goes

-- an ordered write stops after an item that failed
stops-one : (ordered : Bool) (op : Op) (more : List Op) (one : OpReply) → stays ordered one ≡ true → Stops ordered (op ∷ more) (one ∷ [])
stops-one ordered op more one is = at-true (stays ordered one) ([] ≡ []) (Stops ordered more []) is refl

map-append : (rs others : List OpReply) → map end_of (rs ++ others) ≡ map end_of rs ++ map end_of others
map-append [] others = refl
map-append (r ∷ rs) others = ap (λ es. end_of r ∷ es) (map-append rs others)

-- ---- at a desk

same-all : (ops : List Op) → map (λ op. op) ops ≡ ops
same-all [] = refl
same-all (op ∷ ops) = ap (λ os. op ∷ os) (same-all ops)

parted-at : (all : List Op) (n : ℕ) (op : Op) → n < length all → op ≡ get_or all n op → all ≡ take n all ++ op ∷ drop (suc n) all
parted-at [] n op less is = absurd (omega (arith, less))
parted-at (first ∷ all) zero op less is = ap (λ x. x ∷ all) (sym is)
parted-at (first ∷ all) (suc n) op less is = ap (λ os. first ∷ os) (parted-at all n op (omega (arith, less)) is)

-- what was taken so far, the next one, and the others
pub parted : (all ops : List Op) (op : Op) → map (λ x. x) ops ≡ take (length ops) all → length ops < length all
    → op ≡ get_or all (length ops) op → all ≡ ops ++ op ∷ drop (suc (length ops)) all
parted all ops op so_far less is =
    parted-at all (length ops) op less is
    ∙ ap (λ front. front ++ op ∷ drop (suc (length ops)) all) (sym so_far ∙ same-all ops)

pub both : (a b : Bool) → a ≡ true → b ≡ true → a && b ≡ true
both a b p q = rw (p, q) refl

pub not-both : (a b : Bool) → ((a ≡ true) × (b ≡ false)) ⊎ (a ≡ false) → a && b ≡ false
not-both a b which = ⊎_elim (λ p. rw (p.0, p.1) refl) (λ q. rw q refl) which

few-more : (op : Op) (ops : List Op) (r : OpReply) (rs : List OpReply) → length rs ≤ length ops → length (r ∷ rs) ≤ length (op ∷ ops)
few-more op ops r rs few = grind (arith, few)

few-one : (op : Op) (ops : List Op) (r : OpReply) (rs : List OpReply) → rs ≡ [] → length (r ∷ rs) ≤ length (op ∷ ops)
few-one op ops r rs none = subst (λ x. length (r ∷ x) ≤ length (op ∷ ops)) (sym none) (few-more op ops r [] (omega arith))

numbered-more : (seat link n now : ℕ) (ops : List Op) (rs : List OpReply) (op : Op) (one : OpReply) (more : List Op) → length ops ≡ length rs
    → numbered seat link n now (ops ++ op ∷ []) (rs ++ one ∷ []) ≡ numbered seat link n now (ops ++ op ∷ more) (rs ++ one ∷ [])
numbered-more seat link n now [] [] op one more same = ap (λ ds. record { who = record { seat = seat; link = link; op = n }; now = now; op = op; reply = one } ∷ ds)
    (sym (numbered-none seat link (n + 1) now more))
numbered-more seat link n now [] (q ∷ rs) op one more same = absurd (omega (arith, same))
numbered-more seat link n now (p ∷ ops) [] op one more same = absurd (omega (arith, same))
numbered-more seat link n now (p ∷ ops) (q ∷ rs) op one more same =
    ap (λ ds. record { who = record { seat = seat; link = link; op = n }; now = now; op = p; reply = q } ∷ ds)
    (numbered-more seat link (n + 1) now ops rs op one more (grind (arith, same)))

module _ (s : Tables) (a b c : Views) (who mid who' : Who) (now : ℕ) (ordered : Bool) where
  -- the operations and one more, at the desk
  did-last : (ops : List Op) (rs : List OpReply) (op : Op) (one : OpReply) → length ops ≡ length rs
      → Did s a b who mid now ops rs (length rs)
      → who' ≡ record mid { op = mid.op + 1 }
      → Served s b c (record { who = mid; now = now; op = op; reply = one } ∷ [])
      → Did s a c who who' now (ops ++ op ∷ []) (rs ++ one ∷ []) (length (rs ++ one ∷ []))
  did-last ops rs op one same did next served =
      let long : length (rs ++ one ∷ []) ≡ length rs + 1 = length-append rs (one ∷ []) in
      let is : mid ≡ record who { op = who.op + length rs } = did.next in
      let number : mid.op ≡ who.op + length rs = ap (λ (x : Who). x.op) is in
      let there : Served s b c (record { who = record who { op = who.op + length rs }; now = now; op = op; reply = one } ∷ []) =
      subst (λ (x : Who). Served s b c (record { who = x; now = now; op = op; reply = one } ∷ [])) is served in
      let before : List Done = numbered who.seat who.link who.op now ops rs in
      let last : Done = record { who = record who { op = who.op + length rs }; now = now; op = op; reply = one } in
      record {
        next = next ∙ (λ i. record { seat = (is i).seat; link = (is i).link; op = (is i).op + 1 })
            ∙ ap (λ k. record who { op = k }) (omega (arith, long));
        served = subst (Served s a c) (sym (numbered-last who.seat who.link who.op now ops rs op one same))
            (served_on s a b c before (last ∷ []) (apart-at (whos before) (whos (last ∷ [])) (λ w first second.
            let low = numbered-between who.seat who.link who.op now ops rs w first in
            let high = only w second in
            omega (arith, low.high, high.low))) did.served there);
      }
    where
      only : (w : Who) → (same_who w (record who { op = who.op + length rs }) || false) ≡ true
          → Between who.seat who.link (who.op + length rs) (who.op + length rs + 1) w
      only w e = one-between w who.seat who.link (who.op + length rs)
          (⊎_elim (λ here. here) (λ no. absurd (cc no)) (or-either (same_who w (record who { op = who.op + length rs })) false e))

  pub items-more : (ops : List Op) (rs : List OpReply) (ends ends' : List ItemEnd) (op : Op) (failed : Bool) (one : OpReply)
      → DidItems s a b who mid now ordered ops ends rs → DidOne s b c mid who' now op ends ends' failed one → ordered && failed ≡ false
      → DidItems s a c who who' now ordered (ops ++ op ∷ []) ends' (rs ++ one ∷ [])
  items-more ops rs ends ends' op failed one items it on = record {
    goes = goes-more ordered ops (op ∷ []) rs (one ∷ []) items.goes
        (ap (λ f. ordered && f) (sym it.failed_is) ∙ on, tt);
    did = did-last ops rs op one (goes-long ordered ops rs items.goes) items.did it.next it.served;
    ended = it.ended ∙ ap (λ es. es ++ end_of one ∷ []) items.ended ∙ sym (map-append rs (one ∷ []));
  }

  pub items-stop : (all ops more : List Op) (rs : List OpReply) (ends ends' : List ItemEnd) (op : Op) (failed : Bool) (one : OpReply)
      → all ≡ ops ++ op ∷ more
      → DidItems s a b who mid now ordered ops ends rs → DidOne s b c mid who' now op ends ends' failed one → ordered && failed ≡ true
      → DidAll s a c who who' now ordered all ends' (rs ++ one ∷ [])
  items-stop all ops more rs ends ends' op failed one parts items it stop =
      let same = goes-long ordered ops rs items.goes in
      let did = did-last ops rs op one same items.did it.next it.served in
      subst (λ os. DidAll s a c who who' now ordered os ends' (rs ++ one ∷ [])) (sym parts) (record {
        stops = goes-stops ordered ops (op ∷ more) rs (one ∷ []) items.goes
            (stops-one ordered op more one (ap (λ f. ordered && f) (sym it.failed_is) ∙ stop));
        did = record {
          next = did.next;
          served = subst (Served s a c) (numbered-more who.seat who.link who.op now ops rs op one more same) did.served;
        };
        ended = it.ended ∙ ap (λ es. es ++ end_of one ∷ []) items.ended ∙ sym (map-append rs (one ∷ []));
      })

-- none yet
pub items-none : (s : Tables) (a : Views) (who : Who) (now : ℕ) (ordered : Bool) → DidItems s a a who who now ordered [] [] []
items-none s a who now ordered = record {
  goes = tt;
  did = record { next = ap (λ k. record who { op = k }) (omega arith); served = served_none s a };
  ended = refl;
}

module _ (s : Tables) (a b : Views) (who mid : Who) (now : ℕ) (ordered : Bool) where
  -- all of them
  pub items-end : (all ops : List Op) (rs : List OpReply) (ends : List ItemEnd) → map (λ op. op) ops ≡ all
      → DidItems s a b who mid now ordered ops ends rs → DidAll s a b who mid now ordered all ends rs
  items-end all ops rs ends same items =
      let whole : Stops ordered (ops ++ []) (rs ++ []) = goes-stops ordered ops [] rs [] items.goes tt in
      let one : Stops ordered ops (rs ++ []) = subst (λ os. Stops ordered os (rs ++ [])) (append-nil ops) whole in
      subst (λ os. DidAll s a b who mid now ordered os ends rs) (sym (same-all ops) ∙ same) (record {
        stops = subst (Stops ordered ops) (append-nil rs) one;
        did = items.did;
        ended = items.ended;
      })

either : (b : Bool) (P Q R : Type 0) → (P → R) → (Q → R) → MatchBool b P Q → R
either true P Q R f g = f
either false P Q R f g = g

-- a write has a reply for each item at most
pub stops-few : (ordered : Bool) (ops : List Op) (rs : List OpReply) → Stops ordered ops rs → length rs ≤ length ops
stops-few ordered [] [] stops = omega arith
stops-few ordered (op ∷ ops) (r ∷ rs) stops =
    either (stays ordered r) (rs ≡ []) (Stops ordered ops rs) (length (r ∷ rs) ≤ length (op ∷ ops)) (few-one op ops r rs)
    (λ more. few-more op ops r rs (stops-few ordered ops rs more)) stops
stops-few ordered [] (r ∷ rs) stops = absurd stops
stops-few ordered (op ∷ ops) [] stops = absurd stops

-- and one at least, where it has an item
pub stops-some : (ordered : Bool) (ops : List Op) (rs : List OpReply) → Stops ordered ops rs → 1 ≤ length ops → 1 ≤ length rs
stops-some ordered [] [] stops some = some
stops-some ordered [] (r ∷ rs) stops some = absurd stops
stops-some ordered (op ∷ ops) [] stops some = absurd stops
stops-some ordered (op ∷ ops) (r ∷ rs) stops some = let long : length (r ∷ rs) ≡ length rs + 1 = grind arith in omega (arith, long)

map-length : (rs : List OpReply) → length (map end_of rs) ≡ length rs
map-length [] = refl
map-length (r ∷ rs) = let rest = map-length rs in grind (arith, rest)

-- so there is an end for each item at most
pub ends-few : (s : Tables) (a b : Views) (who who' : Who) (now : ℕ) (ordered : Bool) (ops : List Op) (ends : List ItemEnd)
    (replies : List OpReply) → DidAll s a b who who' now ordered ops ends replies → length ends ≤ length ops
ends-few s a b who who' now ordered ops ends replies did =
    omega (arith, ap length did.ended, map-length replies, stops-few ordered ops replies did.stops)
