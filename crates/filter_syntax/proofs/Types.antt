-- What is found in the code's table of types is what is found in the definitions', and is a byte.
use Rattle.std.proofs.Common.{◌≡◌, ◌<◌, ℕ, Bool, true, false, cond, nat_lt, List, [], ◌∷◌, refl, sym, ap, subst, ◌∙◌, arith}
use Rattle.std.specs.Prelude.{Option, Some, find, option_map, IfSome}
use Rattle.std.specs.List.{list_all}
use Rattle.case_tables.specs.declared.case_table.Case.{Case}
use Rattle.case_tables.specs.Cases.{columns}
use Rattle.case_tables.specs.Types.{types}
use Rattle.filter_syntax.specs.Operands.{type_where}
use Rattle.filter_syntax.proofs.Lookups.{found_shown}

abbrev pub found_where : (ℕ × List ℕ → Bool) → List Case → Option ℕ
found_where test rows = option_map (λ (row : Case). row.code) (find (λ (row : Case). test (row.code, row.name.now)) rows)

pub type_told : (test : ℕ × List ℕ → Bool) (rows : List Case) → columns rows ≡ types → found_where test rows ≡ type_where test
type_told test rows is =
    found_shown (λ (row : Case). (row.code, row.name.now)) test (λ (it : ℕ × List ℕ). it.0) rows
    ∙ ap (λ (all : List (ℕ × List ℕ)). option_map (λ (it : ℕ × List ℕ). it.0) (find test all)) is

abbrev IsSmall : Option ℕ → Type 0
IsSmall found = IfSome found (λ code. code < 256)

small_in : (test : ℕ × List ℕ → Bool) (rows : List (ℕ × List ℕ)) → list_all (λ (it : ℕ × List ℕ). nat_lt it.0 256) rows ≡ true
    → IsSmall (option_map (λ (it : ℕ × List ℕ). it.0) (find test rows))
small_in test [] is = tt
small_in test (row ∷ rows) is =
    elim (test row) as (λ found. IsSmall (option_map (λ (it : ℕ × List ℕ). it.0) (cond found (Some row) (find test rows))))
    [ true ↦ grind arith | false ↦ small_in test rows (grind arith) ]

pub small : (test : ℕ × List ℕ → Bool) (rows : List Case) → columns rows ≡ types → IsSmall (found_where test rows)
small test rows is = subst IsSmall (sym (type_told test rows is)) (small_in test types refl)
