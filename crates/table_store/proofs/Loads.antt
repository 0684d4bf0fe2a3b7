-- Tables that were loaded are sound, and are those that the keeper tells.
use Rattle.std.proofs.Common.{◌≡◌, ℕ, ◌+◌, ◌<◌, ◌≤◌, false, List, [], ◌∷◌, ◌++◌, length, map, Option, None, Some, refl, ap, sym, ◌∙◌, subst, append_assoc, length-append, arith}
use Rattle.std.proofs.lemmas.Bool.{or_parts}
use Rattle.std.specs.List.{AllZip}
use Rattle.bson_values.specs.declared.space.Space.{Space}
use Rattle.bson_values.specs.Names.{same_space}
use Rattle.naming.specs.Names.{is_valid}
use Rattle.outside.specs.declared.kept.KeptRow.{KeptRow}
use Rattle.outside.specs.declared.kept.KeptTable.{KeptTable}
use Rattle.outside.specs.Told as told
use Rattle.table_rows.specs.declared.listed.Placed.{Placed}
use Rattle.table_rows.specs.Rows.{has_key}
use Rattle.table_words.specs.Tables.{Table, Tables, MOST_TABLES, has_text}
use Rattle.table_words.specs.Sound.{SoundRows, IsApart, SoundTable, SoundTables, Sound}
use Rattle.table_words.proofs.Finds.{space-swap}
use Rattle.table_words.proofs.Rows.{sound-last}
use Rattle.table_store.specs.Kept.{again, kept_row, kept_tables, plain_row, plain_table, Tells}
use Rattle.table_store.specs.Ran.{IsReady}
use Rattle.table_store.specs.Loading.{past, EachGood, places, keys, GoodRow, numbers, spaces, has_space, GoodTable, IsPlaced, stamp_of, IsTableOf, given, IsLoaded}
use Rattle.table_store.proofs.Past.{past-append, past-one}
use Rattle.table_store.proofs.Behind.{zip-last}
use Rattle.table_store.proofs.RowLoads.{stands, key_in, keys-same}
use Rattle.table_store.proofs.TableLoads.{followed}

-- ---- what is told

told-rows : (ks : List KeptRow) (ps : List Placed) → AllZip IsPlaced ks ps → map plain_row ks ≡ map kept_row ps
told-rows [] [] all = refl
told-rows [] (p ∷ ps) all = absurd all
told-rows (k ∷ ks) [] all = absurd all
told-rows (k ∷ ks) (p ∷ ps) all =
    let one = all.0 in
    let place = sym one.place in
    let under = sym (one.is).under in
    let text = ap again (one.is).reads ∙ sym ((one.is).sound).text in
    λ i. record { place = place i; key = under i; text = text i } ∷ told-rows ks ps all.1 i

pub told-tables : (ks : List KeptTable) (ts : List Table) → AllZip IsTableOf ks ts → map plain_table ks ≡ kept_tables ts
told-tables [] [] all = refl
told-tables [] (t ∷ ts) all = absurd all
told-tables (k ∷ ks) [] all = absurd all
told-tables (k ∷ ks) (t ∷ ts) all =
    let one = all.0 in
    let number = sym one.number in
    let space = sym one.space in
    let rows = told-rows k.rows t.rows one.rows in
    λ i. record { number = number i; space = space i; rows = rows i } ∷ told-tables ks ts all.1 i

-- ---- rows

-- behind sound rows that were loaded
sound-behind : (next : ℕ) (front ks : List KeptRow) (qs ps : List Placed) → AllZip IsPlaced front qs → AllZip IsPlaced ks ps
    → EachGood GoodRow front ks
    → past 0 (places ks) ≤ next → SoundRows next qs → SoundRows next (qs ++ ps)
sound-behind next front [] qs [] before all good le sound = subst (SoundRows next) (sym (none qs)) sound
  where
    none : (xs : List Placed) → xs ++ [] ≡ xs
    none [] = refl
    none (x ∷ xs) = ap (λ rest. x ∷ rest) (none xs)
sound-behind next front [] qs (p ∷ ps) before all good le sound = absurd all
sound-behind next front (k ∷ ks) qs [] before all good le sound = absurd all
sound-behind next front (k ∷ ks) qs (p ∷ ps) before all good le sound =
    let one = all.0 in
    let place = one.place in
    let new = (stands (past 0 (places front)) (keys front) k (good.0).may).new in
    let same = ap (has_text k.key) (keys-same front qs before) in
    let alone : has_key p.row.key qs ≡ false = ap (λ key. has_key key qs) (one.is).under ∙ key_in k.key qs ∙ same ∙ new in
    subst (SoundRows next) (append_assoc qs (p ∷ []) ps)
    (sound-behind next (front ++ k ∷ []) ks (qs ++ p ∷ []) ps (zip-last IsPlaced front qs k p before one) all.1 good.1 (omega (arith, le))
    (sound-last next qs p (one.is).sound alone (omega (arith, le, place)) sound))

sound-rows : (next : ℕ) (ks : List KeptRow) (ps : List Placed) → AllZip IsPlaced ks ps → EachGood GoodRow [] ks
    → past 0 (places ks) ≤ next → SoundRows next ps
sound-rows next ks ps all good le = sound-behind next [] ks [] ps tt all good le tt

stamp-below : (next n : ℕ) (ks : List KeptRow) → n < next → past 0 (places ks) ≤ next → stamp_of n ks < next
stamp-below next n [] less le = less
stamp-below next n (k ∷ ks) less le = stamp-below next k.place ks (omega (arith, le)) (omega (arith, le))

-- ---- tables

-- their numbers are below this, and none has the space
abbrev Below : ℕ → Space → List Table → Type 0
Below n space [] = Unit {0}
Below n space (t ∷ ts) = (same_space t.space space ≡ false) × (t.number < n) × Below n space ts

below-all : (n : ℕ) (space : Space) (ks : List KeptTable) (ts : List Table) → AllZip IsTableOf ks ts → past 1 (numbers ks) ≤ n
    → has_space space (spaces ks) ≡ false
    → Below n space ts
below-all n space [] [] all le none = tt
below-all n space [] (t ∷ ts) all le none = absurd all
below-all n space (k ∷ ks) [] all le none = absurd all
below-all n space (k ∷ ks) (t ∷ ts) all le none =
    let one = all.0 in
    let number = one.number in
    let parts = or_parts (same_space space k.space) (has_space space (spaces ks)) none in (
      space-swap space t.space (ap (same_space space) one.space ∙ parts.0),
      omega (arith, le, number),
      below-all n space ks ts all.1 (omega (arith, le)) parts.1,
    )

apart-last : (v t : Table) (ts : List Table) → IsApart v ts → same_space v.space t.space ≡ false → v.number < t.number
    → IsApart v (ts ++ t ∷ [])
apart-last v t [] apart away less = (away, less, tt)
apart-last v t (u ∷ us) apart away less = (apart.0, apart.1, apart-last v t us apart.2 away less)

tables-last : (next : ℕ) (t : Table) (ts : List Table) → SoundTables next ts → Below t.number t.space ts → SoundTable next t
    → SoundTables next (ts ++ t ∷ [])
tables-last next t [] sound below new = (new, tt, tt)
tables-last next t (u ∷ us) sound below new =
    (sound.0, apart-last u t us sound.1 below.0 below.1, tables-last next t us sound.2 below.2 new)

tables-behind : (next : ℕ) (front ks : List KeptTable) (us ts : List Table) → AllZip IsTableOf front us → AllZip IsTableOf ks ts
    → EachGood GoodTable front ks
    → past 1 (given ks) ≤ next → SoundTables next us → SoundTables next (us ++ ts)
tables-behind next front [] us [] before all good le sound = subst (SoundTables next) (sym (none us)) sound
  where
    none : (xs : List Table) → xs ++ [] ≡ xs
    none [] = refl
    none (x ∷ xs) = ap (λ rest. x ∷ rest) (none xs)
tables-behind next front [] us (t ∷ ts) before all good le sound = absurd all
tables-behind next front (k ∷ ks) us [] before all good le sound = absurd all
tables-behind next front (k ∷ ks) us (t ∷ ts) before all good le sound =
    let one = all.0 in
    let follow = followed (length front) (past 1 (numbers front)) (spaces front) k (good.0).may in
    let parts = past-append 1 (k.number ∷ places k.rows) (given ks) in
    let own = past-one (places k.rows) in
    let high : past 0 (places k.rows) ≤ next = omega (arith, le, parts, own) in
    let less : k.number < next = omega (arith, le, parts) in
    let rest : past 1 (given ks) ≤ next = omega (arith, le, parts) in
    let new : SoundTable next t = record {
      rows = sound-rows next k.rows t.rows one.rows (good.0).rows high;
      number = subst (λ n. n < next) (sym one.number) less;
      stamp = subst (λ n. n < next) (sym one.stamp) (stamp-below next k.number k.rows less high);
      space = ap is_valid one.space ∙ follow.valid;
    } in
    let low = subst (λ n. past 1 (numbers front) ≤ n) (sym one.number) follow.low in
    let below : Below t.number t.space us = below-all t.number t.space front us before low
    (ap (λ space. has_space space (spaces front)) one.space ∙ follow.new) in
    subst (SoundTables next) (append_assoc us (t ∷ []) ts)
    (tables-behind next (front ++ k ∷ []) ks (us ++ t ∷ []) ts (zip-last IsTableOf front us k t before one) all.1 good.1 rest
    (tables-last next t us sound below new))

-- there are not too many
few-all : (front ks : List KeptTable) (ts : List Table) → AllZip IsTableOf ks ts → EachGood GoodTable front ks
    → length front ≤ MOST_TABLES → length front + length ts ≤ MOST_TABLES
few-all front [] [] all good le = omega (arith, le)
few-all front [] (t ∷ ts) all good le = absurd all
few-all front (k ∷ ks) [] all good le = absurd all
few-all front (k ∷ ks) (t ∷ ts) all good le =
    let follow = followed (length front) (past 1 (numbers front)) (spaces front) k (good.0).may in
    let few = follow.few in
    let long = length-append front (k ∷ []) in
    let rest = few-all (front ++ k ∷ []) ks ts all.1 good.1 (omega (arith, few, long)) in
    omega (arith, rest, long)

pub loaded-sound : (kept : List KeptTable) (s : Tables) → IsLoaded kept s → Sound s
loaded-sound kept s loaded =
    let next = loaded.next in record {
      tables = tables-behind s.next [] kept [] s.live tt loaded.tables loaded.good (omega (arith, next)) tt;
      few = let few = few-all [] kept s.live loaded.tables loaded.good (omega arith) in omega (arith, few);
    }

-- tables that were loaded may be called
pub ready-loaded : (old new : Option (List KeptTable)) (kept : List KeptTable) (s : Tables) → told.Tells old kept → new ≡ old
    → IsLoaded kept s → IsReady new s
ready-loaded old new kept s tells same loaded =
    record { sound = loaded-sound kept s loaded; tells = subst (λ o. Tells o s) (sym same) (all old tells) }
  where
    all : (o : Option (List KeptTable)) → told.Tells o kept → Tells o s
    all None tells = tt
    all (Some it) tells = ap (map plain_table) tells ∙ told-tables kept s.live loaded.tables
