-- The laws of the parts.
use Rattle.std.proofs.Common.{◌≡◌, ℕ, ◌+◌, ◌<◌, Bool, true, false, List, [], ◌∷◌, ◌++◌, length, MatchBool}
use Rattle.std.proofs.Common.{arith, sym, subst}
use Rattle.std_words.proofs.Tests.{or-first, or-second}
use Rattle.history_lock.specs.declared.entry.Who.{Who}
use Rattle.history_lock.specs.Places.{Each, same_who, is_among, is_own, anywhere, picks, has, Belong, Within, Apart}
use Rattle.history_lock.proofs.Whos.{who-same, apart-swaps, each-to, each-append}
use Rattle.history_lock.proofs.Picks.{either, Alike, own-append, within-later, within-tail, picks-past, has-grows, has-alike}
use Rattle.history_lock.proofs.Picks.{belong-grows, belong-join, belong-places, alike-join, alike-swap, alike-places}
use Rattle.doc_model.specs.Run.{Done, whos}
use Rattle.doc_model.proofs.Runs.{whos-append}
use Rattle.table_words.specs.Tables.{Tables}
use Rattle.doc_history.specs.Told.{Tcall, after, at_entry, acts, unlogged, told_op, told_by}
use Rattle.doc_history.specs.Laws.{Grows, Joins, Wholes}

match-at : (b : Bool) (P Q P' : Type 0) → (P → P') → MatchBool b P Q → MatchBool b P' Q
match-at true P Q P' f g = f g
match-at false P Q P' f g = g

-- ---- what is picked is all that counts

acts-alike : (m n : ℕ → Bool) (s : Tables) (i : ℕ) (h : List Tcall) (d : Done) → Alike m n d.who i h → acts m s i h d → acts n s i h d
acts-alike m n s i [] d a p = tt
acts-alike m n s i (e ∷ es) d a p =
    let one : at_entry (picks n d.who i e) (has m d.who (i + 1) es) s e d
    = subst (λ b. at_entry b (has m d.who (i + 1) es) s e d) a.0 p.0 in (
      subst (λ c. at_entry (picks n d.who i e) c s e d) (has-alike m n d.who (i + 1) es a.1) one,
      acts-alike m n (after s e) (i + 1) es d a.1 p.1,
    )

told_op-alike : (m n : ℕ → Bool) (s : Tables) (h : List Tcall) (d : Done) → Alike m n d.who 0 h → told_op m s h d → told_op n s h d
told_op-alike m n s h d a p =
    subst (λ b. MatchBool b (acts n s 0 h d) (unlogged d)) (has-alike m n d.who 0 h a)
    (match-at (has m d.who 0 h) (acts m s 0 h d) (unlogged d) (acts n s 0 h d) (acts-alike m n s 0 h d a) p)

-- ---- a history that goes on

acts-past : (m : ℕ → Bool) (s : Tables) (i : ℕ) (h : List Tcall) (d : Done) → Within m i → acts m s i h d
acts-past m s i [] d w = tt
acts-past m s i (e ∷ es) d w = (
  subst (λ b. at_entry b (has m d.who (i + 1) es) s e d) (sym (picks-past m d.who i e w)) tt,
  acts-past m (after s e) (i + 1) es d (within-later m i (i + 1) (omega arith) w),
)

acts-grows : (m : ℕ → Bool) (s : Tables) (i : ℕ) (h more : List Tcall) (d : Done) → Within m (i + length h) → acts m s i h d
    → acts m s i (h ++ more) d
acts-grows m s i [] more d w p = acts-past m s i more d (λ j le. w j (omega (arith, le)))
acts-grows m s i (e ∷ es) more d w p =
    let t = within-tail m i e es w in (
      subst (λ c. at_entry (picks m d.who i e) c s e d) (sym (has-grows m d.who (i + 1) es more t)) p.0,
      acts-grows m (after s e) (i + 1) es more d t p.1,
    )

within-all : (m : ℕ → Bool) (n : ℕ) → Within m n → Within m (0 + n)
within-all m n w j le = w j (omega (arith, le))

told_op-grows : (m : ℕ → Bool) (s : Tables) (h more : List Tcall) (d : Done) → Within m (length h) → told_op m s h d
    → told_op m s (h ++ more) d
told_op-grows m s h more d w p =
    let all = within-all m (length h) w in
    subst (λ b. MatchBool b (acts m s 0 (h ++ more) d) (unlogged d)) (sym (has-grows m d.who 0 h more all))
    (match-at (has m d.who 0 h) (acts m s 0 h d) (unlogged d) (acts m s 0 (h ++ more) d) (acts-grows m s 0 h more d all) p)

grows : (m : ℕ → Bool) (s : Tables) (seen more : List Tcall) (ds : List Done) → Within m (length seen) → told_by m s seen ds
    → told_by m s (seen ++ more) ds
grows m s seen more ds w p = record {
  each = each-to (told_op m s seen) (told_op m s (seen ++ more)) ds (λ d q. told_op-grows m s seen more d w q) p.each;
  none_else = belong-grows m (whos ds) 0 seen more (within-all m (length seen) w) p.none_else;
}

-- ---- two parts

-- of operations none of which is among others'
each-join : (m n : ℕ → Bool) (s : Tables) (h : List Tcall) (ds : List Done)
    → ((who : Who) → is_among who (whos ds) ≡ true → Alike m n who 0 h) → Each (told_op m s h) ds → Each (told_op n s h) ds
each-join m n s h [] f p = tt
each-join m n s h (d ∷ ds) f p = (
  told_op-alike m n s h d (f d.who (or-first (same_who d.who d.who) (is_among d.who (whos ds)) (who-same d.who))) p.0,
  each-join m n s h ds (λ who t. f who (or-second (same_who who d.who) (is_among who (whos ds)) t)) p.1,
)

joins : (m n : ℕ → Bool) (s : Tables) (h : List Tcall) (xs ys : List Done) → Apart (whos xs) (whos ys) → told_by m s h xs
    → told_by n s h ys → told_by (either m n) s h (xs ++ ys)
joins m n s h xs ys a p q =
    let back = apart-swaps (whos xs) (whos ys) a in
    record {
      each = each-append (told_op (either m n) s h) xs ys
          (each-join m (either m n) s h xs (λ who t. alike-join m n (whos ys) who 0 h (a who t) q.none_else) p.each)
          (each-join n (either m n) s h ys
          (λ who t. alike-swap n m n who 0 h (alike-join n m (whos xs) who 0 h (back who t) p.none_else)) q.each);
      none_else = subst (λ w. Belong (either m n) w 0 h) (sym (whos-append xs ys))
          (belong-join m n (whos xs) (whos ys) 0 h p.none_else q.none_else);
    }

-- the same places, told by another test
told-places : (m n : ℕ → Bool) (s : Tables) (h : List Tcall) (ds : List Done) → ((j : ℕ) → j < length h → m j ≡ n j) → told_by m s h ds
    → told_by n s h ds
told-places m n s h ds f p =
    let g : (j : ℕ) → j < 0 + length h → m j ≡ n j = λ j le. f j (omega (arith, le)) in
    record {
      each = each-to (told_op m s h) (told_op n s h) ds (λ d q. told_op-alike m n s h d (alike-places m n d.who 0 h g) q) p.each;
      none_else = belong-places m n (whos ds) 0 h g p.none_else;
    }

-- ---- the laws

pub law_grows : Grows
law_grows s seen more own ds w p = grows (is_own own) s seen more ds w p

pub law_joins : Joins
law_joins s h own own' ds ds' a p q =
    told-places (either (is_own own) (is_own own')) (is_own (own ++ own')) s h (ds ++ ds') (λ j le. sym (own-append own own' j))
    (joins (is_own own) (is_own own') s h ds ds' a p q)

pub law_wholes : Wholes
law_wholes s h own ds f p = told-places (is_own own) anywhere s h ds f p
