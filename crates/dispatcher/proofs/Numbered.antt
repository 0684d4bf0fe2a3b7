-- The operations of one message, by their numbers.
use Rattle.std.proofs.Common.{◌≡◌, ℕ, ◌+◌, ◌≤◌, ◌<◌, Bool, true, false, List, [], ◌∷◌, ◌++◌, length, ⊎_elim}
use Rattle.std.proofs.Common.{refl, ap, ◌∙◌, arith}
use Rattle.std_words.proofs.Tests.{or-either}
use Rattle.history_lock.specs.declared.entry.Who.{Who}
use Rattle.history_lock.specs.Places.{same_who, is_among, Apart}
use Rattle.history_lock.proofs.Whos.{who-equal}
use Rattle.doc_model.specs.declared.op.Op.{Op}
use Rattle.doc_model.specs.declared.op.OpReply.{OpReply}
use Rattle.doc_model.specs.Run.{whos}
use Rattle.dispatcher.specs.Script.{numbered}

pub append-nil : {X : Type 0} (xs : List X) → xs ++ [] ≡ xs
append-nil [] = refl
append-nil (x ∷ xs) = ap (λ t. x ∷ t) (append-nil xs)

-- operations that none is replied
pub numbered-none : (seat link n now : ℕ) (ops : List Op) → numbered seat link n now ops [] ≡ []
numbered-none seat link n now [] = refl
numbered-none seat link n now (op ∷ ops) = refl

-- these are of one connection, with numbers from lo up to hi
pub record Between (seat link lo hi : ℕ) (who : Who) : Type 0 where
  pub seat_is : who.seat ≡ seat
  pub link_is : who.link ≡ link
  pub low : lo ≤ who.op
  pub high : who.op < hi

pub wider : (seat link lo hi lo' hi' : ℕ) (who : Who) → lo' ≤ lo → hi ≤ hi' → Between seat link lo hi who → Between seat link lo' hi' who
wider seat link lo hi lo' hi' who a b p = record {
  seat_is = p.seat_is;
  link_is = p.link_is;
  low = omega (arith, a, p.low);
  high = omega (arith, b, p.high);
}

pub one-between : (who : Who) (seat link n : ℕ) → same_who who (record { seat = seat; link = link; op = n }) ≡ true
    → Between seat link n (n + 1) who
one-between who seat link n e =
    let w = who-equal who (record { seat = seat; link = link; op = n }) e in
    record {
      seat_is = ap (λ (x : Who). x.seat) w;
      link_is = ap (λ (x : Who). x.link) w;
      low = omega (arith, ap (λ (x : Who). x.op) w);
      high = omega (arith, ap (λ (x : Who). x.op) w);
    }

longer : (r : OpReply) (rs : List OpReply) → length (r ∷ rs) ≡ length rs + 1
longer r rs = grind arith

pub numbered-between : (seat link n now : ℕ) (ops : List Op) (rs : List OpReply) (who : Who)
    → is_among who (whos (numbered seat link n now ops rs)) ≡ true → Between seat link n (n + length rs) who
numbered-between seat link n now [] rs who e = absurd (cc e)
numbered-between seat link n now (op ∷ ops) [] who e = absurd (cc e)
numbered-between seat link n now (op ∷ ops) (r ∷ rs) who e =
    let long = longer r rs in
    ⊎_elim
    (λ here. wider seat link n (n + 1) n (n + length (r ∷ rs)) who (omega arith) (omega (arith, long)) (one-between who seat link n here))
    (λ there. wider seat link (n + 1) (n + 1 + length rs) n (n + length (r ∷ rs)) who (omega arith) (omega (arith, long))
    (numbered-between seat link (n + 1) now ops rs who there))
    (or-either (same_who who (record { seat = seat; link = link; op = n })) (is_among who (whos (numbered seat link (n + 1) now ops rs))) e)

none : (b : Bool) → (b ≡ true → ⊥) → b ≡ false
none true f = absurd (f refl)
none false f = refl

pub apart-at : (xs ys : List Who) → ((who : Who) → is_among who xs ≡ true → is_among who ys ≡ true → ⊥) → Apart xs ys
apart-at xs ys f who t = none (is_among who ys) (f who t)

-- one operation more
pub numbered-last : (seat link n now : ℕ) (ops : List Op) (rs : List OpReply) (op : Op) (r : OpReply) → length ops ≡ length rs
    → numbered seat link n now (ops ++ op ∷ []) (rs ++ r ∷ [])
    ≡ numbered seat link n now ops rs
    ++ record { who = record { seat = seat; link = link; op = n + length rs }; now = now; op = op; reply = r } ∷ []
numbered-last seat link n now [] [] op r same =
    ap (λ k. record { who = record { seat = seat; link = link; op = k }; now = now; op = op; reply = r } ∷ []) (omega arith)
numbered-last seat link n now [] (q ∷ rs) op r same = absurd (omega (arith, same))
numbered-last seat link n now (p ∷ ops) [] op r same = absurd (omega (arith, same))
numbered-last seat link n now (p ∷ ops) (q ∷ rs) op r same =
    let long = longer q rs in
    let next : n + 1 + length rs ≡ n + length (q ∷ rs) = omega (arith, long) in
    ap (λ ds. record { who = record { seat = seat; link = link; op = n }; now = now; op = p; reply = q } ∷ ds)
    (numbered-last seat link (n + 1) now ops rs op r (grind (arith, same))
    ∙ ap (λ k. numbered seat link (n + 1) now ops rs
    ++ record { who = record { seat = seat; link = link; op = k }; now = now; op = op; reply = r } ∷ []) next)
