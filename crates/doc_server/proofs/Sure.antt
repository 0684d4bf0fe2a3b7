-- Over a keeper whose count of faults stays 0 nothing is replied a fault.
use Rattle.std.proofs.Common.{◌≡◌, ◌≢◌, ◌⊎◌, ⊎_elim, inl, inr, ℕ, ◌+◌, ◌<◌, Bool, true, false, ◌||◌, List, [], ◌∷◌, refl, arith, sym, subst, MatchBool}
use Rattle.outside.specs.Causes.{Rose}
use Rattle.history_lock.specs.Places.{Each, anywhere, picks, has}
use Rattle.history_lock.specs.Legal.{count_after, legal}
use Rattle.history_lock.proofs.Whos.{each-to}
use Rattle.table_words.specs.declared.call.TableCall.{TableCall}
use Rattle.table_words.specs.declared.call.TableReply.{TableReply}
use Rattle.table_words.specs.declared.call.TableReply.TheVariants as reply
use Rattle.table_words.specs.Tables.{Tables}
use Rattle.table_words.specs.Step.{tstep, replies, tables_after}
use Rattle.doc_model.specs.declared.op.OpReply.TheVariants.{Fault}
use Rattle.doc_model.specs.Run.{Done}
use Rattle.doc_history.specs.Told.{Tcall, after, at_entry, acts, unlogged, told_op}
use Rattle.doc_server.specs.Program.{NoFault}

-- ---- entries

-- the count stays, or it rises at a fault
steps-count : (s : Tables) (c : TableCall) (r : TableReply) (n m : ℕ) → replies s c r n m → (m ≡ n) ⊎ ((r ≡ reply.Fault) × Rose n m)
steps-count s c reply.NoMemory n m p = inl p
steps-count s c reply.Fault n m p = inr (refl, p.1)
steps-count s c r n m p = inl p.1

rises : (s : Tables) (c : TableCall) (r : TableReply) (n m : ℕ) → replies s c r n m → r ≡ reply.Fault → Rose n m
rises s c r n m p is = (subst (λ x. replies s c x n m) is p).1

-- it never falls to 0
stays-positive : (s : Tables) (n : ℕ) (h : List Tcall) → 0 < n → legal tstep tables_after s n h → 0 < count_after n h
stays-positive s n [] some l = some
stays-positive s n (e ∷ es) some l =
    stays-positive (after s e) e.after es
    (⊎_elim (λ is. omega (arith, is, some)) (λ it. omega (arith, it.1)) (steps-count s e.call e.reply n e.after l.1.replied)) l.2

-- no entry is a fault
none-faulty : (s : Tables) (h : List Tcall) → legal tstep tables_after s 0 h → count_after 0 h ≡ 0
    → Each (λ (e : Tcall). e.reply ≢ reply.Fault) h
none-faulty s [] l zero = tt
none-faulty s (e ∷ es) l zero =
    let sound : e.reply ≢ reply.Fault = λ is.
    omega (arith, zero, stays-positive (after s e) e.after es (omega (arith, rises s e.call e.reply 0 e.after l.1.replied is)) l.2) in
    let still : e.after ≡ 0 =
    ⊎_elim (λ is. is) (λ it. absurd (sound it.0)) (steps-count s e.call e.reply 0 e.after l.1.replied) in (
      sound,
      none-faulty (after s e) es (subst (λ n. legal tstep tables_after (after s e) n es) still l.2)
          (subst (λ n. count_after n es ≡ 0) still zero),
    )

-- ---- operations

at-last : (s : Tables) (e : Tcall) (d : Done) → d.reply ≡ Fault → (one later : Bool) → (one || later) ≡ true → at_entry one later s e d
    → e.reply ≢ reply.Fault → (later ≡ true → ⊥) → ⊥
at-last s e d is one true there entry sound further = further refl
at-last s e d is true false there entry sound further = sound (entry.fault.0 is)
at-last s e d is false false there entry sound further = absurd cc

acted : (s : Tables) (i : ℕ) (h : List Tcall) (d : Done) → d.reply ≡ Fault → has anywhere d.who i h ≡ true → acts anywhere s i h d
    → Each (λ (e : Tcall). e.reply ≢ reply.Fault) h → ⊥
acted s i [] d is there p each = absurd cc
acted s i (e ∷ es) d is there p each =
    at-last s e d is (picks anywhere d.who i e) (has anywhere d.who (i + 1) es) there p.0 each.0
    (λ later. acted (after s e) (i + 1) es d is later p.1 each.1)

not-acted : (d : Done) → d.reply ≡ Fault → unlogged d → ⊥
not-acted d is (inl none) = absurd cc
not-acted d is (inr it) = absurd cc (is, it.2)

either : (b : Bool) (P Q : Type 0) → MatchBool b P Q → (b ≡ true → P → ⊥) → (Q → ⊥) → ⊥
either true P Q p f g = f refl p
either false P Q p f g = g p

pub no_fault : NoFault
no_fault s left h ds history =
    let each = none-faulty s h history.lawful (sym history.counts) in
    each-to (told_op anywhere s h) (λ (d : Done). d.reply ≢ Fault) ds
    (λ d p is. either (has anywhere d.who 0 h) (acts anywhere s 0 h d) (unlogged d) p (λ there a. acted s 0 h d is there a each)
    (not-acted d is)) history.tells.each
