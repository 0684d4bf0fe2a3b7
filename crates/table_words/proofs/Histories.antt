-- The laws over all histories.
use Rattle.std.proofs.Common.{◌≡◌, ℕ, ◌<◌, List, ◌++◌, Some, ap, sym, ◌∙◌, subst, arith}
use Rattle.history_lock.specs.Legal.{legal, replay, count_after}
use Rattle.history_lock.proofs.Histories.{legal-front, legal-back, replay-append}
use Rattle.table_words.specs.Tables.{Table, Tables, numbered}
use Rattle.table_words.specs.Sound.{Sound}
use Rattle.table_words.specs.Step.{tstep, tables_after}
use Rattle.table_words.specs.Kept.{Kept, History, after, SoundAfter, StampsTellRows, NumbersNameSpaces}
use Rattle.table_words.proofs.Finds.{has-number, sound-found}
use Rattle.table_words.proofs.Goes.{Goes, goes-history}

pub sound_after : SoundAfter
sound_after s faults h sound lawful = let went = goes-history s faults h sound lawful in (went.sound, went.kept)

-- what the tables at an earlier moment are to those at a later one
between : (s : Tables) (faults : ℕ) (h more : History) → Sound s → legal tstep tables_after s faults (h ++ more)
    → Sound (after s h) × Kept (after s h) (after s (h ++ more))
between s faults h more sound lawful =
    let early = goes-history s faults h sound (legal-front tstep tables_after s faults h more lawful) in
    let late = goes-history (after s h) (count_after faults h) more early.sound (legal-back tstep tables_after s faults h more lawful) in
    (early.sound, subst (λ (x : Tables). Kept (after s h) x) (sym (replay-append tables_after s h more)) late.kept)

pub stamps_tell_rows : StampsTellRows
stamps_tell_rows s faults h more sound lawful n t u early late same =
    let both = between s faults h more sound lawful in
    let less : t.stamp < (after s h).next = (sound-found (after s h).next n t (after s h).live (both.0).tables early).stamp in
    let old : numbered n (after s h).live ≡ Some u = (both.1).table n u late (subst (λ k. k < (after s h).next) same less) in
    let is : Some t ≡ Some u = sym early ∙ old in
    let equal : t ≡ u = cc in ap (λ (x : Table). x.rows) equal

pub numbers_name_spaces : NumbersNameSpaces
numbers_name_spaces s faults h more sound lawful n t u early late =
    let both = between s faults h more sound lawful in
    let mine = sound-found (after s h).next n t (after s h).live (both.0).tables early in
    let less : n < (after s h).next = subst (λ k. k < (after s h).next) (has-number n t (after s h).live early) mine.number in
    let old = (both.1).space n u late less in
    let is : Some t ≡ Some old.0 = sym early ∙ old.1 in
    let equal : t ≡ old.0 = cc in ap (λ (x : Table). x.space) equal ∙ old.2
