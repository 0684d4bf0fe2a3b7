-- Documents and arrays, read with a level less inside.
use Rattle.std.proofs.Common.{◌≡◌, ℕ, suc, ◌+◌, ◌-◌, List, length, take, ap}
use Rattle.std.specs.Prelude.{Option, Result, Ok, Err}
use Rattle.bson_values.specs.declared.pairs.Pair.{Pair}
use Rattle.bson_values.specs.declared.value.Value.{Value}
use Rattle.bson_wire.specs.declared.foreign.Foreign.{Foreign}
use Rattle.bson_wire.specs.Grammar.{Element, kept, foreigns, values}
use Rattle.std_words.proofs.Faults.{same_Ok}
use Rattle.std_words.specs.Steps.{◌>>=◌}
use Rattle.bson_wire.specs.Reading.{length_at, part_at, ended_at, all_at, enclosed_at, document_at, array_at, first, with_first}

module _ (document : ℕ → List ℕ → Result (List (Pair Value) × List Foreign × List ℕ) ℕ) (array : ℕ → List ℕ
    → Result (List Value × List Foreign × List ℕ) ℕ) {A : Type 0} (keep : List Element → List A)
    (end stated : ℕ) (bytes behind part rest inside : List ℕ) (counted : length_at (end - length bytes) 5 bytes ≡ Ok (stated, behind))
    (parted : part_at (end - length bytes) (stated - 4) behind ≡ Ok (part, rest)) (is : inside ≡ take (length part - 1) part) where
  abbrev told_by : Result (List Element) ℕ → Result (List A × Option Foreign) ℕ
  told_by found = found >>= λ it. Ok (keep it, first (foreigns it))

  -- elements and what stands behind them, where their end byte is one
  abbrev shut : List Element → Result (List ℕ) ℕ → Result (List Element × List ℕ) ℕ
  shut all ended = ended >>= λ inside. Ok (all, rest)

  -- what is kept of a container
  abbrev made : Result (List Element × List ℕ) ℕ → Result (List A × List Foreign × List ℕ) ℕ
  made found = found >>= λ it. Ok (keep it.0, foreigns it.0, it.1)

  told-ok : (found : Result (List Element) ℕ) (ended : Result (List ℕ) ℕ) (it : List A × Option Foreign) (last : List ℕ)
      → told_by found ≡ Ok it → ended ≡ Ok last → with_first (made (found >>= λ all. shut all ended)) ≡ Ok (it.0, it.1, rest)
  told-ok (Err place) ended it last told is = absurd cc
  told-ok (Ok all) (Err place) it last told is = absurd cc
  told-ok (Ok all) (Ok inside) it last told is = ap (λ (both : List A × Option Foreign). Ok (both.0, both.1, rest))
      (same_Ok (keep all, first (foreigns all)) it told)

  told-err : (found : Result (List Element) ℕ) (ended : Result (List ℕ) ℕ) (place : ℕ) → told_by found ≡ Err place
      → with_first (made (found >>= λ all. shut all ended)) ≡ Err place
  told-err (Err other) ended place told = cc
  told-err (Ok all) ended place told = absurd cc

  pub enclosed-all : (found : List A) (foreign : Option Foreign) (last : List ℕ)
      → told_by (all_at document array (end - (length rest + 1)) inside) ≡ Ok (found, foreign)
      → ended_at (end - length bytes) part ≡ Ok last → with_first (made (enclosed_at document array end bytes)) ≡ Ok (found, foreign, rest)
  unfolding enclosed_at
  enclosed-all found foreign last all ended =
      let all' = rw is at all in
      rw (counted, parted) (told-ok (all_at document array (end - (length rest + 1)) (take (length part - 1) part))
      (ended_at (end - length bytes) part) (found, foreign) last all' ended)

  pub enclosed-bad : (place : ℕ) → told_by (all_at document array (end - (length rest + 1)) inside) ≡ Err place
      → with_first (made (enclosed_at document array end bytes)) ≡ Err place
  unfolding enclosed_at
  enclosed-bad place bad =
      let bad' = rw is at bad in
      rw (counted, parted) (told-err (all_at document array (end - (length rest + 1)) (take (length part - 1) part))
      (ended_at (end - length bytes) part) place bad')

pub document-inner : (levels inner end : ℕ) (bytes : List ℕ) → levels ≡ suc inner
    → document_at levels end bytes ≡ (enclosed_at (document_at inner) (array_at inner) end bytes >>=
    λ found. Ok (kept found.0, foreigns found.0, found.1))
unfolding document_at
document-inner levels inner end bytes is = ap (λ (l : ℕ). document_at l end bytes) is

pub array-inner : (levels inner end : ℕ) (bytes : List ℕ) → levels ≡ suc inner
    → array_at levels end bytes ≡ (enclosed_at (document_at inner) (array_at inner) end bytes >>=
    λ found. Ok (values (kept found.0), foreigns found.0, found.1))
unfolding array_at
array-inner levels inner end bytes is = ap (λ (l : ℕ). array_at l end bytes) is
