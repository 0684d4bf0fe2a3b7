-- The idle cursors are the last ones.
use Rattle.std.proofs.Common.{◌≡◌, ℕ, length, take, drop, ◌+◌, ◌-◌, ◌<◌, ◌≤◌, ◌⊎◌, inl, inr, true, false, List, [], ◌∷◌, ◌++◌, None, Some, option_map, refl, ap, sym, ◌∙◌, subst, arith, append-nil}
use Rattle.std.specs.Prelude.{slice_get, slice_index_or}
use Rattle.std.proofs.lemmas.Bool.Decides.{nat_tests}
use Rattle.std.proofs.lemmas.List.{take-append-drop, drop_more, drop_all}
use Rattle.std.proofs.lemmas.List.Elements.{filter-append}
use Rattle.std.proofs.lemmas.Option.{slice_get_cases}
use Rattle.cursor_core.specs.declared.state.Cursor.{Cursor}
use Rattle.cursor_core.specs.Held.{is_awake, kept}
use Rattle.cursor_core.specs.Sound.{Falls}
use Rattle.cursor_core.specs.Shown.{last_of}

-- the list ends with a cursor of this last moment
record Ends (cs : List Cursor) (last : ℕ) : Type 0 where
  cursor : Cursor
  last_is : cursor.last ≡ last
  is : cs ≡ take (length cs - 1) cs ++ cursor ∷ []

ends : (cs : List Cursor) (last : ℕ) → option_map (λ (c : Cursor). c.last) (last_of cs) ≡ Some last → Ends cs last
ends cs last found = by (slice_get_cases cs (length cs - 1)).1
  where
    by : ((x : Cursor) × (length cs - 1 < length cs) × (slice_get cs (length cs - 1) ≡ Some x) × (slice_index_or cs (length cs - 1) x ≡ x))
        ⊎ ((length cs ≤ length cs - 1) × (slice_get cs (length cs - 1) ≡ None)) → Ends cs last
    by (inl p) =
        let both : Some (p.0).last ≡ Some last = sym (ap (option_map (λ (c : Cursor). c.last)) p.2) ∙ found in
        let less = p.1 in
        let whole : length cs - 1 + 1 ≡ length cs = omega (arith, less) in
        let behind : drop (length cs - 1) cs ≡ p.0 ∷ [] = drop_more cs (length cs - 1) p.0 p.1
        ∙ ap (λ x. x ∷ drop (length cs - 1 + 1) cs) p.3
        ∙ ap (λ n. p.0 ∷ drop n cs) whole ∙ ap (λ ds. p.0 ∷ ds) (drop_all (length cs) cs (omega arith)) in
        let split : cs ≡ take (length cs - 1) cs ++ p.0 ∷ [] = sym (take-append-drop (length cs - 1) cs)
        ∙ ap (λ ds. take (length cs - 1) cs ++ ds) behind in
        record { cursor = p.0; last_is = cc; is = split }
    by (inr q) = let never : None ≡ Some last = sym (ap (option_map (λ (c : Cursor). c.last)) q.1) ∙ found in absurd cc

pub none-held : (cs : List Cursor) → option_map (λ (c : Cursor). c.last) (last_of cs) ≡ None → cs ≡ []
none-held [] found = refl
none-held (c ∷ cs) found = by (slice_get_cases (c ∷ cs) (length (c ∷ cs) - 1)).1
  where
    by : ((x : Cursor) × (length (c ∷ cs) - 1 < length (c ∷ cs)) × (slice_get (c ∷ cs) (length (c ∷ cs) - 1) ≡ Some x)
        × (slice_index_or (c ∷ cs) (length (c ∷ cs) - 1) x ≡ x))
        ⊎ ((length (c ∷ cs) ≤ length (c ∷ cs) - 1) × (slice_get (c ∷ cs) (length (c ∷ cs) - 1) ≡ None)) → c ∷ cs ≡ []
    by (inl p) = let never : Some (p.0).last ≡ None = sym (ap (option_map (λ (c : Cursor). c.last)) p.2) ∙ found in absurd cc
    by (inr q) = let never = q.0 in absurd (omega (arith, never))

falls-front : (n : ℕ) (cs ds : List Cursor) → Falls n (cs ++ ds) → Falls n cs
falls-front n [] ds falls = tt
falls-front n (c ∷ cs) ds falls = (falls.0, falls-front c.last cs ds falls.1)

falls-end : (n : ℕ) (cs : List Cursor) (d : Cursor) → Falls n (cs ++ d ∷ []) → d.last ≤ n
falls-end n [] d falls = falls.0
falls-end n (c ∷ cs) d falls = let le = falls-end c.last cs d falls.1 in let less = falls.0 in omega (arith, le, less)

-- where the last one is awake, all are
awake-front : (latest n : ℕ) (cs : List Cursor) (d : Cursor) → Falls n (cs ++ d ∷ []) → is_awake latest d ≡ true
    → kept latest (cs ++ d ∷ []) ≡ cs ++ d ∷ []
awake-front latest n [] d falls up = rw up refl
awake-front latest n (c ∷ cs) d falls up =
    let le = falls-end c.last cs d falls.1 in
    let also : is_awake latest c ≡ true = grind (arith, nat_tests, le, up) in
    rw also (ap (λ ds. c ∷ ds) (awake-front latest c.last cs d falls.1 up))

pub all-awake : (latest last n : ℕ) (cs : List Cursor) → Falls latest cs → option_map (λ (c : Cursor). c.last) (last_of cs) ≡ Some last
    → n ≡ latest - last → n < 600000 → kept latest cs ≡ cs
all-awake latest last n cs falls found is less =
    let e = ends cs last found in
    let up : is_awake latest e.cursor ≡ true = let same = e.last_is in grind (arith, nat_tests, is, less, same) in
    let split = subst (λ ds. Falls latest ds) e.is falls in
    ap (kept latest) e.is ∙ awake-front latest latest (take (length cs - 1) cs) e.cursor split up ∙ sym e.is

-- the last one goes, where it is idle
pub record Shorter (latest : ℕ) (cs ds : List Cursor) : Type 0 where
  pub falls : Falls latest ds
  pub kept : kept latest ds ≡ kept latest cs

pub last-idle : (latest last n : ℕ) (cs ds : List Cursor) → Falls latest cs → option_map (λ (c : Cursor). c.last) (last_of cs) ≡ Some last
    → n ≡ latest - last → 600000 ≤ n → ds ≡ take (length cs - 1) cs → Shorter latest cs ds
last-idle latest last n cs ds falls found is idle short =
    let e = ends cs last found in
    let down : is_awake latest e.cursor ≡ false = let same = e.last_is in grind (arith, nat_tests, is, idle, same) in
    let front = take (length cs - 1) cs in
    let gone : kept latest (e.cursor ∷ []) ≡ [] = rw down refl in
    record {
      falls = subst (λ xs. Falls latest xs) (sym short)
          (falls-front latest front (e.cursor ∷ []) (subst (λ xs. Falls latest xs) e.is falls));
      kept = ap (kept latest) short ∙ sym (append-nil (kept latest front)) ∙ ap (λ xs. kept latest front ++ xs) (sym gone)
          ∙ sym (filter-append (is_awake latest) front (e.cursor ∷ [])) ∙ ap (kept latest) (sym e.is);
    }
