-- What the entries of the cache show.
use Rattle.std.proofs.Common.{◌≡◌, ℕ, length, map, take, drop, ◌-◌, ◌^◌, ◌<◌, ◌≤◌, ◌==◌, Bool, true, false, List, [], ◌∷◌, Option, None, Some, nat_eq, option_map, refl, ap, sym, ◌∙◌, subst, arith, Bor}
use Rattle.std.specs.Option.{option_copied}
use Rattle.std.specs.List.{IsDistinct, AllByRecursion}
use Rattle.std.specs.Map.{keys_of, lookup, lookup_entry, remove_entry, set_value}
use Rattle.std.proofs.lemmas.Bool.{eqb-true}
use Rattle.std.proofs.lemmas.Map.Keys.{IsDistinct-head, IsDistinct-tail}
use Rattle.std.proofs.lemmas.List.{take_all, take-map, length-map}
use Rattle.lru.specs.LruCache.{LruCache, put_entries, promoted}
use Rattle.cursor_core.specs.declared.state.Cursor.{Cursor}
use Rattle.cursor_core.specs.declared.asked.Held.{Held}
use Rattle.cursor_core.specs.Held.{of_id, without}
use Rattle.cursor_core.specs.Shown.{shown, entry_shown, Gives}

-- an entry that passes has the key that is looked for
at : {P : Type 0} (id : ℕ) (e : ℕ × Held) → ((id == e.0) ≡ true → id ≡ e.0 → P) → ((id == e.0) ≡ false → P) → P
at {P} id e here there = cases (id == e.0) refl
  where
    cases : (b : Bool) → (id == e.0) ≡ b → P
    cases true is = here is (eqb-true id e.0 is)
    cases false is = there is

pub shown-lookup : (id : ℕ) (es : List (ℕ × Held)) → of_id id (map entry_shown es) ≡ option_map (shown id) (lookup (nat_eq id) es)
shown-lookup id [] = refl
shown-lookup id (e ∷ es) = at id e
    (λ is same. rw is (ap (λ k. Some (shown k e.1)) (sym same)))
    (λ is. rw is (shown-lookup id es))

-- the one that is lent
pub got : (id : ℕ) (o : Option (Bor Held)) (es : List (ℕ × Held)) → option_copied o ≡ lookup (nat_eq id) es
    → option_map (λ (held : Bor Held). shown id held.now) o ≡ of_id id (map entry_shown es)
got id o es is = copied o ∙ ap (option_map (shown id)) is ∙ sym (shown-lookup id es)
  where
    copied : (o : Option (Bor Held)) → option_map (λ (held : Bor Held). shown id held.now) o ≡ option_map (shown id) (option_copied o)
    copied None = refl
    copied (Some held) = refl

-- the one that is taken out
pub taken : (id : ℕ) (o : Option Held) (es : List (ℕ × Held)) → o ≡ lookup (nat_eq id) es
    → option_map (shown id) o ≡ of_id id (map entry_shown es)
taken id o es is = ap (option_map (shown id)) is ∙ sym (shown-lookup id es)

others-all : (id : ℕ) (es : List (ℕ × Held)) → AllByRecursion (λ y. nat_eq id y ≡ false) (keys_of es)
    → without id (map entry_shown es) ≡ map entry_shown es
others-all id [] all = refl
others-all id (e ∷ es) all = let apart : (id == e.0) ≡ false = all.0 in
    rw apart (ap (λ cs. entry_shown e ∷ cs) (others-all id es all.1))

pub removed : (id : ℕ) (es : List (ℕ × Held)) → IsDistinct nat_eq (keys_of es)
    → map entry_shown (remove_entry (nat_eq id) es) ≡ without id (map entry_shown es)
removed id [] distinct = refl
removed id (e ∷ es) distinct = at id e
    (λ is same. let all : AllByRecursion (λ y. nat_eq id y ≡ false) (keys_of es)
    = subst (λ k. AllByRecursion (λ y. nat_eq k y ≡ false) (keys_of es)) (sym same) (IsDistinct-head nat_eq e.0 (keys_of es) distinct) in
    rw is (sym (others-all id es all)))
    (λ is. rw is (ap (λ cs. entry_shown e ∷ cs) (removed id es (IsDistinct-tail nat_eq e.0 (keys_of es) distinct))))

-- ---- one more

absent-entry : (id : ℕ) (es : List (ℕ × Held)) → of_id id (map entry_shown es) ≡ None → lookup_entry (nat_eq id) es ≡ None
absent-entry id [] absent = refl
absent-entry id (e ∷ es) absent = at id e
    (λ is same. let never : Some (entry_shown e) ≡ None = rw is at absent in absurd cc)
    (λ is. rw is (absent-entry id es (rw is at absent)))

pub put-first : (cache : LruCache ℕ Held) (id : ℕ) (held : Held) → cache.cap ≡ 2 ^ 64 - 1 → length cache.entries < 2 ^ 63
    → of_id id (map entry_shown cache.entries) ≡ None
    → map entry_shown (put_entries nat_eq cache id held) ≡ shown id held ∷ map entry_shown cache.entries
put-first cache id held cap few absent =
    let room : length cache.entries ≤ cache.cap - 1 = omega (arith, cap, few) in
    rw (absent-entry id cache.entries absent, take_all (cache.cap - 1) cache.entries room) refl

-- ---- a batch

set-found : (id : ℕ) (h w : Held) (es : List (ℕ × Held)) → lookup (nat_eq id) es ≡ Some h
    → lookup_entry (nat_eq id) (set_value (nat_eq id) es w) ≡ Some (id, w)
set-found id h w [] found = absurd cc
set-found id h w (e ∷ es) found = at id e
    (λ is same. rw (is, is) (ap (λ k. Some (k, w)) (sym same)))
    (λ is. rw (is, is) (set-found id h w es (rw is at found)))

set-removed : (id : ℕ) (w : Held) (es : List (ℕ × Held))
    → remove_entry (nat_eq id) (set_value (nat_eq id) es w) ≡ remove_entry (nat_eq id) es
set-removed id w [] = refl
set-removed id w (e ∷ es) = at id e
    (λ is same. rw (is, is) refl)
    (λ is. rw (is, is) (ap (λ fs. e ∷ fs) (set-removed id w es)))

-- a value that is put back changes nothing
pub set-same : (id : ℕ) (h w : Held) (es : List (ℕ × Held)) → lookup (nat_eq id) es ≡ Some h → w ≡ h → set_value (nat_eq id) es w ≡ es
set-same id h w [] found back = refl
set-same id h w (e ∷ es) found back = at id e
    (λ is same. let own : Some e.1 ≡ Some h = rw is at found in let both : e.1 ≡ h = cc in
    rw is (ap (λ v. (e.0, v) ∷ es) (back ∙ sym both)))
    (λ is. rw is (ap (λ fs. e ∷ fs) (set-same id h w es (rw is at found) back)))

-- which cursor it is
pub is-shown : (id : ℕ) (h : Held) (c : Cursor) (es : List (ℕ × Held)) → lookup (nat_eq id) es ≡ Some h
    → of_id id (map entry_shown es) ≡ Some c → c ≡ shown id h
is-shown id h c es found is = let both : Some c ≡ Some (shown id h) = sym is ∙ shown-lookup id es ∙ ap (option_map (shown id)) found in cc

pub never-there : (id : ℕ) (c : Cursor) (es : List (ℕ × Held)) → lookup (nat_eq id) es ≡ None → of_id id (map entry_shown es) ≡ Some c → ⊥
never-there id c es none is = let both : Some c ≡ None = sym is ∙ shown-lookup id es ∙ ap (option_map (shown id)) none in cc

pub moved : (id count latest : ℕ) (h w : Held) (batch : List (List ℕ)) (es : List (ℕ × Held)) → IsDistinct nat_eq (keys_of es)
    → lookup (nat_eq id) es ≡ Some h → batch ≡ take count h.rest → w ≡ record h { rest = drop count h.rest; last = latest }
    → Gives id count latest batch (map entry_shown es) (map entry_shown (promoted (nat_eq id) (set_value (nat_eq id) es w)))
moved id count latest h w batch es distinct found are is = record {
  cursor = shown id h;
  found = shown-lookup id es ∙ ap (option_map (shown id)) found;
  are = are;
  left = rw (set-found id h w es found, set-removed id w es)
      (ap (λ (v : Held). shown id v ∷ map entry_shown (remove_entry (nat_eq id) es)) is
      ∙ ap (λ cs. shown id (record h { rest = drop count h.rest; last = latest }) ∷ cs) (removed id es distinct));
}

-- ---- the last one

pub front : (es : List (ℕ × Held)) → map entry_shown (take (length es - 1) es) ≡ take (length (map entry_shown es) - 1) (map entry_shown es)
front es = sym (take-map entry_shown (length es - 1) es) ∙ ap (λ n. take (n - 1) (map entry_shown es)) (sym (length-map es entry_shown))
