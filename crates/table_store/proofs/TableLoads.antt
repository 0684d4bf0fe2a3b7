-- Kept tables, as they are loaded one after another.
use Rattle.std.proofs.Common.{◌≡◌, ℕ, ◌+◌, ◌<◌, ◌≤◌, max, nat_lt, nat_le, Bool, true, false, not, ◌&&◌, ◌||◌, MatchBool, List, [], ◌∷◌, ◌++◌, length, refl, ap, sym, ◌∙◌, subst, append_assoc, arith}
use Rattle.std.proofs.lemmas.Bool.{and_parts, leb-true, ltb-true, not-true}
use Rattle.std.proofs.lemmas.List.{map-append}
use Rattle.std.specs.List.{AllZip, list_any}
use Rattle.std_words.proofs.Tests.{never-both}
use Rattle.bson_values.specs.declared.space.Space.{Space}
use Rattle.bson_values.specs.Names.{same_space}
use Rattle.naming.specs.Names.{is_valid}
use Rattle.outside.specs.declared.kept.KeptRow.{KeptRow}
use Rattle.outside.specs.declared.kept.KeptTable.{KeptTable}
use Rattle.table_words.specs.Tables.{MOST_TABLES, LAST_NUMBER}
use Rattle.table_store.specs.declared.live.Live.{Live}
use Rattle.table_store.specs.declared.loading.Loading.{Loading}
use Rattle.table_store.specs.declared.load_refused.LoadRefused.{LoadRefused}
use Rattle.table_store.specs.declared.load_refused.LoadRefused.TheVariants.{KeeperFault, BadKept, NoMemory}
use Rattle.table_store.specs.Found.{shown, all_shown}
use Rattle.table_store.specs.Loading.{past, EachGood, places, GoodRow, FaultyRow, numbers, spaces, has_space, may_number, may_name, may_follow, follows, GoodTable, FirstFault, IsTableOf, given, IsLoaded, Refuses}
use Rattle.table_store.specs.LoadingSteps.{RefusesRows, spaces_of, may_be_next, AddsTable, RefusesTable}
use Rattle.table_store.proofs.Past.{past-append, past-last, past-one}
use Rattle.table_store.proofs.Behind.{each-last, each-at, zip-last}

-- ---- what may follow

pub record Follows (count least : ℕ) (taken : List Space) (table : KeptTable) : Type 0 where
  pub few : count < MOST_TABLES
  pub low : least ≤ table.number
  pub high : table.number ≤ LAST_NUMBER
  pub valid : is_valid table.space ≡ true
  pub new : has_space table.space taken ≡ false

pub followed : (count least : ℕ) (taken : List Space) (table : KeptTable) → may_follow count least taken table ≡ true
    → Follows count least taken table
followed count least taken table may =
    let parts = and_parts (may_number count least table.number) (may_name taken table.space) may in
    let named = and_parts (is_valid table.space) (not (has_space table.space taken)) parts.1 in
    let outer = and_parts (nat_lt count MOST_TABLES && nat_le least table.number) (nat_le table.number LAST_NUMBER) parts.0 in
    let inner = and_parts (nat_lt count MOST_TABLES) (nat_le least table.number) outer.0 in record {
      few = ltb-true count MOST_TABLES inner.0;
      low = leb-true least table.number inner.1;
      high = leb-true table.number LAST_NUMBER outer.1;
      valid = named.0;
      new = not-true (has_space table.space taken) named.1;
    }

pub space_in : (space : Space) (live : List Live)
    → list_any (λ (kept : Live). same_space space kept.space) live ≡ has_space space (spaces_of live)
space_in space [] = refl
space_in space (l ∷ ls) = ap (λ b. same_space space l.space || b) (space_in space ls)

pub named-next : (live : List Live) (space : Space) (valid found : Bool) → valid ≡ is_valid space → valid ≡ true
    → found ≡ list_any (λ (kept : Live). same_space space kept.space) live → not found ≡ may_name (spaces_of live) space
named-next live space valid found is true_it_is has = rw (has, space_in space live, ← is, true_it_is) refl

-- ---- the tables so far

pub record SoFar (before : List KeptTable) (it : Loading) : Type 0 where
  pub loaded : IsLoaded before (record { live = all_shown it.live.items; next = it.next })
  pub least : it.least ≡ past 1 (numbers before)

shown-last : (live : List Live) (new : Live) → all_shown (live ++ new ∷ []) ≡ all_shown live ++ shown new ∷ []
shown-last [] new = refl
shown-last (l ∷ ls) new = ap (λ rest. shown l ∷ rest) (shown-last ls new)

given-last : (ts : List KeptTable) (t : KeptTable) → given (ts ++ t ∷ []) ≡ given ts ++ (t.number ∷ places t.rows)
given-last [] t = ap (λ ns. t.number ∷ ns) (none (places t.rows))
  where
    none : (ns : List ℕ) → ns ++ [] ≡ ns
    none [] = refl
    none (n ∷ ns) = ap (λ ms. n ∷ ms) (none ns)
given-last (u ∷ us) t =
    ap (λ ns. u.number ∷ places u.rows ++ ns) (given-last us t)
    ∙ sym (append_assoc (u.number ∷ places u.rows) (given us) (t.number ∷ places t.rows))

next-last : (ts : List KeptTable) (t : KeptTable) (next above : ℕ) → next ≡ past 1 (given ts) → above ≡ past 0 (places t.rows)
    → max (max next (t.number + 1)) above ≡ past 1 (given (ts ++ t ∷ []))
next-last ts t next above is high =
    let all = ap (past 1) (given-last ts t) ∙ past-append 1 (given ts) (t.number ∷ places t.rows) in
    let one = past-one (places t.rows) in
    omega (arith, all, one, is, high)

spaces-same : (ks : List KeptTable) (live : List Live) → AllZip IsTableOf ks (all_shown live) → spaces_of live ≡ spaces ks
spaces-same [] [] all = refl
spaces-same [] (l ∷ ls) all = absurd all
spaces-same (k ∷ ks) [] all = absurd all
spaces-same (k ∷ ks) (l ∷ ls) all = λ i. (all.0).space i ∷ spaces-same ks ls all.1 i

length-same : (ks : List KeptTable) (live : List Live) → AllZip IsTableOf ks (all_shown live) → length live ≡ length ks
length-same [] [] all = refl
length-same [] (l ∷ ls) all = absurd all
length-same (k ∷ ks) [] all = absurd all
length-same (k ∷ ks) (l ∷ ls) all = let rest = length-same ks ls all.1 in omega (arith, rest)

may-next : (ks : List KeptTable) (it : Loading) (kept : KeptTable) → SoFar ks it → may_be_next it kept ≡ follows ks kept
may-next ks it kept so =
    let all = (so.loaded).tables in
    λ i. may_follow (length-same ks it.live.items all i) (so.least i) (spaces-same ks it.live.items all i) kept

pub tables-go : (ks : List KeptTable) (kept : KeptTable) (old new : Loading) → SoFar ks old → AddsTable kept old new
    → SoFar (ks ++ kept ∷ []) new
tables-go ks kept old new so adds =
    let may = sym (may-next ks old kept so) ∙ adds.may in
    let own : Live = record { space = kept.space; table = adds.table } in
    let all : all_shown new.live.items ≡ all_shown old.live.items ++ shown own ∷ [] =
    ap all_shown adds.live ∙ shown-last old.live.items own in
    let zipped = zip-last IsTableOf ks (all_shown old.live.items) kept (shown own) (so.loaded).tables
    (record { number = (adds.has).number; space = refl; rows = (adds.has).rows; stamp = (adds.has).stamp }) in record {
      loaded = record {
        good = each-last GoodTable [] ks kept (so.loaded).good (record { may = may; rows = (adds.has).good });
        tables = subst (AllZip IsTableOf (ks ++ kept ∷ [])) (sym all) zipped;
        next = adds.next ∙ next-last ks kept old.next adds.above (so.loaded).next (adds.has).low;
      };
      least = adds.least ∙ sym (ap (past 1) (map-append (λ (table : KeptTable). table.number) ks (kept ∷ []))
          ∙ past-last 1 kept.number (numbers ks) ((followed (length ks) (past 1 (numbers ks)) (spaces ks) kept may).low));
    }

-- ---- the first fault

-- the rows of a table with a faulty row are not all good
pub not-all : (rows : List KeptRow) (place : ℕ) → FaultyRow rows place → EachGood GoodRow [] rows → ⊥
not-all rows place fault good =
    (fault.2).bad (each-at GoodRow [] fault.0 (fault.2).rest fault.1 (subst (EachGood GoodRow []) (fault.2).is good))

first-here : (all ks rest : List KeptTable) (kept : KeptTable) (place : ℕ) → EachGood GoodTable [] ks → all ≡ ks ++ kept ∷ rest
    → MatchBool (follows ks kept) (FaultyRow kept.rows place) (place ≡ 0) → FirstFault all kept.number place
first-here all ks rest kept place good is at = record {
  before = ks;
  table = kept;
  first = record { rest = rest; is = is; good = good; bad = λ mine. bad mine (follows ks kept) mine.may at };
  of = refl;
  at = at;
}
  where
    bad : GoodTable ks kept → (b : Bool) → b ≡ true → MatchBool b (FaultyRow kept.rows place) (place ≡ 0) → ⊥
    bad mine true may at = not-all kept.rows place at mine.rows
    bad mine false may at = never-both false may refl

-- a refusal of the next table is one of all
pub tables-stop : (all ks rest : List KeptTable) (kept : KeptTable) (old : Loading) (refused : LoadRefused) → SoFar ks old
    → all ≡ ks ++ kept ∷ rest
    → RefusesTable old kept refused → Refuses all refused
tables-stop all ks rest kept old refused so is refuses = told (may_be_next old kept) (sym (may-next ks old kept so)) refused refuses
  where
    told : (b : Bool) → follows ks kept ≡ b → (e : LoadRefused)
        → MatchBool b (RefusesRows kept.number kept.rows e) (e ≡ BadKept kept.number 0) → Refuses all e
    told true may KeeperFault at = absurd at
    told true may (BadKept number place) at =
        subst (λ n. FirstFault all n place) (sym at.0) (first-here all ks rest kept place (so.loaded).good is (rw may at.1))
    told true may NoMemory at = tt
    told false may e at = subst (Refuses all) (sym at) (first-here all ks rest kept 0 (so.loaded).good is (rw may refl))
