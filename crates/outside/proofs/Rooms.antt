-- Changes of tables that have room for them.
use Rattle.std.proofs.Common.{◌≡◌, ℕ, ◌+◌, suc, ◌<◌, ◌≤◌, ◌==◌, Bool, true, cond, List, [], ◌∷◌, ◌++◌, map, length, take, drop, get_or, set}
use Rattle.std.proofs.Common.{sym, ap, subst, ◌∙◌, arith, All, vec_len}
use Rattle.std.specs.Prelude.{None, Some, count_by}
use Rattle.std.specs.Vec.{vec_capacity}
use Rattle.std.specs.Global.{Vec}
use Rattle.std.specs.List.{position, remove}
use Rattle.std.proofs.lemmas.List.{map-set, map-append, get_or-map, length-map, take-map, drop-map}
use Rattle.std.proofs.lemmas.List.Elements.{All-set, All-weaker, All-append, All-take, All-drop, All-push, All-get_or, All-head, All-tail}
use Rattle.std.proofs.Math.Seq.{map-set_same}
use Rattle.std.proofs.lemmas.List.Sums.{sum_by-cons}
use Rattle.bson_values.specs.Room.{Roomy}
use Rattle.outside.specs.declared.kept.KeptRow.{KeptRow}
use Rattle.outside.specs.declared.kept.KeptTable.{KeptTable}
use Rattle.outside.specs.declared.kept.Change.{Change}
use Rattle.outside.specs.declared.kept.Change.TheVariants as change
use Rattle.outside.specs.declared.tables.Table.{Table}
use Rattle.outside.specs.declared.tables.Step.{Step}
use Rattle.outside.specs.declared.tables.Step.TheVariants as step
use Rattle.outside.specs.Changes.{without_first, has_number, with_rows, changed, all_changed}
use Rattle.outside.specs.Tables.{kept_table, kept_tables, change_of, is_create, is_put_to, puts_to, FitsIn, IsReady, HasRoom}
use Rattle.outside.proofs.Places.{stands, lacks}

abbrev is_of : ℕ → Table → Bool
is_of number table = has_number number (kept_table table)

-- the rows of the table at that place are others
pub over : (number : ℕ) (change : List KeptRow → List KeptRow) (ts : List Table) (place : ℕ) (table : Table) (rows : Roomy KeptRow)
    → Some place ≡ position (is_of number) ts → get_or ts place table ≡ table → rows.items ≡ change table.rows.items
    → kept_tables (set ts place (record table { rows = rows })) ≡ with_rows number change (kept_tables ts)
over number change ts place table rows is there same =
    let it = stands kept_table (has_number number) ts place is in
    let within : place < length ts = omega (arith, it.within, length-map ts kept_table) in
    let had : get_or (kept_tables ts) place (kept_table table) ≡ kept_table table =
    get_or-map kept_table ts place table (kept_table table) within ∙ ap kept_table there in
    map-set kept_table ts place (record table { rows = rows })
    ∙ ap (λ items. set (kept_tables ts) place (record (kept_table table) { rows = items })) same
    ∙ ap (λ (old : KeptTable). set (kept_tables ts) place (record old { rows = change old.rows })) (sym had)
    ∙ sym (it.over (λ old. record old { rows = change old.rows }) (kept_table table))

-- no table has that number
pub over_nothing : (number : ℕ) (change : List KeptRow → List KeptRow) (ts : List Table) → None ≡ position (is_of number) ts
    → kept_tables ts ≡ with_rows number change (kept_tables ts)
over_nothing number change ts is =
    sym ((lacks kept_table (has_number number) ts is).over (λ old. record old { rows = change old.rows }))

-- the table at that place is taken out
pub out : (number : ℕ) (ts : List Table) (place : ℕ) → Some place ≡ position (is_of number) ts
    → kept_tables (remove ts place) ≡ without_first (has_number number) (kept_tables ts)
out number ts place is =
    map-append kept_table (take place ts) (drop (suc place) ts)
    ∙ (ap (λ front. front ++ map kept_table (drop (suc place) ts)) (sym (take-map kept_table place ts))
    ∙ ap (λ back. take place (kept_tables ts) ++ back) (sym (drop-map kept_table (suc place) ts)))
    ∙ sym (stands kept_table (has_number number) ts place is).out

pub out_nothing : (number : ℕ) (ts : List Table) → None ≡ position (is_of number) ts
    → kept_tables ts ≡ without_first (has_number number) (kept_tables ts)
out_nothing number ts is = sym (lacks kept_table (has_number number) ts is).out

-- a count begins with its first
counted : (test : Change → Bool) (c : Change) (rest : List Change) → count_by test (c ∷ rest) ≡ cond (test c) 1 0 + count_by test rest
counted test c rest = sum_by-cons (λ it. cond (test it) 1 0) c rest

-- the first of the changes needs no more room than all
pub first : (ts : Vec Table) (c : Change) (rest : List Change) → HasRoom ts (c ∷ rest) → HasRoom ts (c ∷ [])
first ts c rest room =
    let alone = λ (test : Change → Bool). counted test c [] in
    let all = λ (test : Change → Bool). counted test c rest in
    record {
      creates = omega (arith, room.creates, alone is_create, all is_create);
      puts = All-weaker (FitsIn (c ∷ rest)) (FitsIn (c ∷ []))
          (λ t fits. omega (arith, fits, alone (is_put_to t.number), all (is_put_to t.number))) ts.items room.puts;
    }

-- nor do the others
pub others : (ts : Vec Table) (c : Change) (rest : List Change) → HasRoom ts (c ∷ rest) → HasRoom ts rest
others ts c rest room =
    let all = λ (test : Change → Bool). counted test c rest in
    record {
      creates = omega (arith, room.creates, all is_create);
      puts = All-weaker (FitsIn (c ∷ rest)) (FitsIn rest)
          (λ t fits. omega (arith, fits, all (is_put_to t.number))) ts.items room.puts;
    }

-- a table was added
pub created : (old new : Vec Table) (table : Table) (rest : List Change) → HasRoom old (change.Create table.number table.space ∷ rest)
    → FitsIn rest table → new.items ≡ old.items ++ table ∷ [] → vec_len new ≡ vec_len old + 1
    → vec_capacity new ≡ vec_capacity old → HasRoom new rest
created old new table rest room fits items len capacity =
    let least = others old _ rest room in
    record {
      creates = omega (arith, room.creates, counted is_create (change.Create table.number table.space) rest);
      puts = rw items (All-push (FitsIn rest) old.items table least.puts fits);
    }

-- a table was taken out
pub dropped : (old new : Vec Table) (place : ℕ) (c : Change) (rest : List Change) → HasRoom old (c ∷ rest)
    → new.items ≡ remove old.items place → vec_len new + 1 ≡ vec_len old → vec_capacity new ≡ vec_capacity old → HasRoom new rest
dropped old new place c rest room items len capacity =
    let least = others old c rest room in
    record {
      creates = omega (arith, least.creates);
      puts = rw items (All-append (FitsIn rest) (take place old.items) (drop (suc place) old.items)
          (All-take (FitsIn rest) place old.items least.puts) (All-drop (FitsIn rest) (suc place) old.items least.puts));
    }

-- a table has other rows
pub replaced : (old new : Vec Table) (place : ℕ) (table : Table) (c : Change) (rest : List Change) → HasRoom old (c ∷ rest)
    → FitsIn rest table → new.items ≡ set old.items place table → vec_len new ≡ vec_len old
    → vec_capacity new ≡ vec_capacity old → HasRoom new rest
replaced old new place table c rest room fits items len capacity =
    let least = others old c rest room in
    record {
      creates = omega (arith, least.creates);
      puts = rw items (All-set (FitsIn rest) old.items place table fits least.puts);
    }

-- the table of that number has room for what is put into it first, and for what is put after that
pub at_place : (c : Change) (rest : List Change) (number : ℕ) (ts : List Table) (place : ℕ) (table : Table)
    → Some place ≡ position (is_of number) ts → get_or ts place table ≡ table → All (FitsIn (c ∷ rest)) ts
    → cond (is_put_to table.number c) 1 0 + puts_to table.number rest ≤ table.rows.spare
at_place c rest number ts place table is there fits =
    let it = stands kept_table (has_number number) ts place is in
    let within : place < length ts = omega (arith, it.within, length-map ts kept_table) in
    let here : FitsIn (c ∷ rest) table = subst (FitsIn (c ∷ rest)) there (All-get_or (FitsIn (c ∷ rest)) ts place table within fits) in
    omega (arith, here, counted (is_put_to table.number) c rest)

-- a put into it takes one place
pub takes_one : (number key_place : ℕ) (key text : List ℕ) (rest : List Change) (ts : List Table) (place : ℕ) (table : Table)
    → Some place ≡ position (is_of number) ts → get_or ts place table ≡ table
    → All (FitsIn (change.Put number key_place key text ∷ rest)) ts → 1 + puts_to table.number rest ≤ table.rows.spare
takes_one number key_place key text rest ts place table is there fits =
    let it = stands kept_table (has_number number) ts place is in
    let within : place < length ts = omega (arith, it.within, length-map ts kept_table) in
    let named : (table.number == number) ≡ true =
    ap (λ (old : Table). old.number == number) (sym there)
    ∙ (ap (has_number number) (sym (get_or-map kept_table ts place table (kept_table table) within)) ∙ it.passes (kept_table table)) in
    let all = at_place (change.Put number key_place key text) rest number ts place table is there fits in
    rw named at all

-- a step is ready among fewer changes
ready_among : (all fewer : List Change) (it : Step) → ((number : ℕ) → puts_to number fewer ≤ puts_to number all)
    → IsReady all it → IsReady fewer it
ready_among all fewer (step.Create table) less ready = (ready.0, omega (arith, ready.1, less table.number))
ready_among all fewer (step.Drop number) less ready = tt
ready_among all fewer (step.Put number row) less ready = tt
ready_among all fewer (step.Cut number key) less ready = tt

-- so much is left to be done: these steps, for which there is room
pub record Making (all : List Change) (before : List KeptTable) (ts : Vec Table) (left : List Step) : Type 0 where
  pub made : all_changed (map change_of left) (kept_tables ts.items) ≡ all_changed all before
  pub room : HasRoom ts (map change_of left)
  pub ready : All (IsReady all) left
  pub fewer : (number : ℕ) → puts_to number (map change_of left) ≤ puts_to number all

module _ (all : List Change) (before : List KeptTable) (ts : Vec Table) (it : Step) (left : List Step)
    (making : Making all before ts (it ∷ left)) where
  pub made_one : (new : Vec Table) → kept_tables new.items ≡ changed (change_of it) (kept_tables ts.items)
      → ((rest : List Change) → IsReady rest it → HasRoom ts (change_of it ∷ rest) → HasRoom new rest) → Making all before new left
  made_one new made room =
      let rest = map change_of left in
      let fewer : (number : ℕ) → puts_to number rest ≤ puts_to number all =
      λ number. omega (arith, making.fewer number, counted (is_put_to number) (change_of it) rest) in
      record {
        made = ap (all_changed rest) made ∙ making.made;
        room = room rest (ready_among all rest it fewer (All-head (IsReady all) it left making.ready)) making.room;
        ready = All-tail (IsReady all) it left making.ready;
        fewer = fewer;
      }

-- the table at that place has its rows still
pub same_rows : (ts : List Table) (place : ℕ) (table : Table) (rows : Roomy KeptRow) → get_or ts place table ≡ table
    → rows.items ≡ table.rows.items → kept_tables (set ts place (record table { rows = rows })) ≡ kept_tables ts
same_rows ts place table rows there same =
    map-set_same kept_table ts place (record table { rows = rows }) table
    (ap (λ items. record (kept_table table) { rows = items }) same ∙ ap kept_table (sym there))
