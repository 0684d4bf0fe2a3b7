-- A script, one message longer, and whose its operations are.
use Rattle.std.proofs.Common.{◌≡◌, ◌⊎◌, ⊎_elim, inl, inr, ℕ, ◌+◌, ◌≤◌, ◌<◌, Bool, true, false, List, [], ◌∷◌, ◌++◌, length}
use Rattle.std.proofs.Common.{refl, ap, arith, sym, ◌∙◌, append_assoc, add_assoc, add-zero, zero-add}
use Rattle.std.proofs.lemmas.List.{append-nil}
use Rattle.std_words.proofs.Tests.{or-first, or-second, or-either}
use Rattle.history_lock.specs.declared.entry.Who.{Who}
use Rattle.history_lock.specs.Places.{same_who, is_among, Apart}
use Rattle.history_lock.proofs.Whos.{who-equal}
use Rattle.doc_model.specs.declared.op.Op.{Op}
use Rattle.doc_model.specs.declared.op.OpReply.{OpReply}
use Rattle.doc_model.specs.Run.{Done, whos}
use Rattle.doc_model.proofs.Runs.{whos-append}
use Rattle.dispatcher.specs.Answers.{ops_of}
use Rattle.dispatcher.specs.Script.{Executed, messages, moments, numbers, numbered, ops_from, answer, bytes_from}

pub messages-append : (ts us : List Executed) → messages (ts ++ us) ≡ messages ts ++ messages us
messages-append [] us = refl
messages-append (t ∷ ts) us = ap (λ ms. t.message ∷ ms) (messages-append ts us)

pub moments-append : (ts us : List Executed) → moments (ts ++ us) ≡ moments ts ++ moments us
moments-append [] us = refl
moments-append (t ∷ ts) us = ap (λ ns. t.now ∷ ns) (moments-append ts us)

bytes_from-append : (k : ℕ) (ts us : List Executed) → bytes_from k (ts ++ us) ≡ bytes_from k ts ++ bytes_from (k + length ts) us
bytes_from-append k [] us = ap (λ n. bytes_from n us) (omega arith)
bytes_from-append k (t ∷ ts) us =
    let next : k + 1 + length ts ≡ k + length (t ∷ ts) = omega arith in
    rw (bytes_from-append (k + 1) ts us, next)
    (sym (append_assoc (answer k t) (bytes_from (k + 1) ts) (bytes_from (k + length (t ∷ ts)) us)))

-- what is written for a message that comes after a script
pub bytes_from-last : (ts : List Executed) (t : Executed) → bytes_from 0 (ts ++ t ∷ []) ≡ bytes_from 0 ts ++ answer (length ts) t
bytes_from-last ts t =
    bytes_from-append 0 ts (t ∷ [])
    ∙ ap (λ bytes. bytes_from 0 ts ++ bytes)
    (ap (λ n. answer n t ++ []) (zero-add (length ts)) ∙ append-nil (answer (length ts) t))

-- how many numbers a script takes
abbrev pub numbers_of : List Executed → ℕ
numbers_of [] = 0
numbers_of (t ∷ ts) = numbers t + numbers_of ts

pub numbers-append : (ts us : List Executed) → numbers_of (ts ++ us) ≡ numbers_of ts + numbers_of us
numbers-append [] us = sym (zero-add (numbers_of us))
numbers-append (t ∷ ts) us = rw (numbers-append ts us) (sym (add_assoc (numbers t) (numbers_of ts) (numbers_of us)))

module _ (seat link : ℕ) where
  pub ops-append : (n : ℕ) (ts us : List Executed)
      → ops_from seat link n (ts ++ us) ≡ ops_from seat link n ts ++ ops_from seat link (n + numbers_of ts) us
  ops-append n [] us = ap (λ k. ops_from seat link k us) (sym (add-zero n))
  ops-append n (t ∷ ts) us =
      rw (ops-append (n + numbers t) ts us, add_assoc n (numbers t) (numbers_of ts))
      (sym (append_assoc (numbered seat link n t.now (ops_of t.message) t.replies) (ops_from seat link (n + numbers t) ts)
      (ops_from seat link (n + (numbers t + numbers_of ts)) us)))

  -- an operation of this connection, with a number from the one up to the other
  pub record Between (low high : ℕ) (who : Who) : Type 0 where
    pub seat_is : who.seat ≡ seat
    pub link_is : who.link ≡ link
    pub from : low ≤ who.op
    pub below : who.op < high

  wider : (low high low' high' : ℕ) (who : Who) → low' ≤ low → high ≤ high' → Between low high who → Between low' high' who
  wider low high low' high' who less more it = record {
    seat_is = it.seat_is;
    link_is = it.link_is;
    from = omega (arith, less, it.from);
    below = omega (arith, more, it.below);
  }

among-append : (who : Who) (xs ys : List Who) → is_among who (xs ++ ys) ≡ true → (is_among who xs ≡ true) ⊎ (is_among who ys ≡ true)
among-append who [] ys e = inr e
among-append who (x ∷ xs) ys e =
    ⊎_elim (λ here. inl (or-first (same_who who x) (is_among who xs) here))
    (λ there. ⊎_elim (λ one. inl (or-second (same_who who x) (is_among who xs) one)) (λ other. inr other) (among-append who xs ys there))
    (or-either (same_who who x) (is_among who (xs ++ ys)) e)

module _ (seat link : ℕ) where
  numbered-between : (n now : ℕ) (ops : List Op) (replies : List OpReply) (who : Who)
      → is_among who (whos (numbered seat link n now ops replies)) ≡ true → Between seat link n (n + length replies) who
  numbered-between n now [] replies who e = absurd cc
  numbered-between n now (op ∷ ops) [] who e = absurd cc
  numbered-between n now (op ∷ ops) (reply ∷ replies) who e =
      let first : Who = record { seat = seat; link = link; op = n } in
      ⊎_elim
      (λ here. let is = who-equal who first here in record {
        seat_is = ap (λ (w : Who). w.seat) is;
        link_is = ap (λ (w : Who). w.link) is;
        from = omega (arith, ap (λ (w : Who). w.op) is);
        below = omega (arith, ap (λ (w : Who). w.op) is);
      })
      (λ there. wider seat link (n + 1) (n + 1 + length replies) n (n + length (reply ∷ replies)) who (omega arith) (omega arith)
      (numbered-between (n + 1) now ops replies who there))
      (or-either (same_who who first) (is_among who (whos (numbered seat link (n + 1) now ops replies))) e)

  ops-between : (n : ℕ) (ts : List Executed) (who : Who) → is_among who (whos (ops_from seat link n ts)) ≡ true
      → Between seat link n (n + numbers_of ts) who
  ops-between n [] who e = absurd cc
  ops-between n (t ∷ ts) who e =
      let these : List Done = numbered seat link n t.now (ops_of t.message) t.replies in
      let later : List Done = ops_from seat link (n + numbers t) ts in
      ⊎_elim
      (λ here. wider seat link n (n + length t.replies) n (n + numbers_of (t ∷ ts)) who (omega arith) (omega arith)
      (numbered-between n t.now (ops_of t.message) t.replies who here))
      (λ there. wider seat link (n + numbers t) (n + numbers t + numbers_of ts) n (n + numbers_of (t ∷ ts)) who (omega arith) (omega arith)
      (ops-between (n + numbers t) ts who there))
      (among-append who (whos these) (whos later) (rw (whos-append these later) at e))

  none : (b : Bool) → (b ≡ true → ⊥) → b ≡ false
  none true f = absurd (f refl)
  none false f = refl

  -- a number never comes twice
  pub ops-apart : (n m : ℕ) (ts us : List Executed) → n + numbers_of ts ≤ m
      → Apart (whos (ops_from seat link n ts)) (whos (ops_from seat link m us))
  ops-apart n m ts us past who here = none (is_among who (whos (ops_from seat link m us)))
      (λ there. omega (arith, past, (ops-between n ts who here).below, (ops-between m us who there).from))
