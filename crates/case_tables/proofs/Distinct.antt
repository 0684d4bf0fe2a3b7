-- In a distinct table no row hides another.
use Rattle.std.proofs.Common.{◌≡◌, ℕ, zero, suc, true, false, List, [], ◌∷◌, Some, refl, arith, slice_get}
use Rattle.std.specs.List.{list_any}
use Rattle.std.specs.Str.{bytes_eq}
use Rattle.std.proofs.lemmas.Slice.Eq.{bytes_eq-Decides}
use Rattle.std.proofs.lemmas.Grind.{common_steps}
use Rattle.case_tables.specs.Cases.{row_of_code, row_of_name, clash, is_distinct}
use Rattle.case_tables.specs.declared.case_table.Case.{Case}

-- what holds of no row does not hold of the row at a place
free : (row : Case) (rows : List Case) (place : ℕ) (other : Case) → list_any (clash row) rows ≡ false
    → slice_get rows place ≡ Some other → clash row other ≡ false
free row [] place other none at = grind (arith, common_steps)
free row (first ∷ rows) zero other none at = grind (arith, common_steps)
free row (first ∷ rows) (suc place) other none at = grind (arith, common_steps, free row rows place other)

-- a name is its own
own : (name : List ℕ) → bytes_eq name name ≡ true
own name = (bytes_eq-Decides name name).1 refl

pub found_again : (rows : List Case) (place : ℕ) (row : Case) → is_distinct rows ≡ true → slice_get rows place ≡ Some row
    → (row_of_code row.code rows ≡ Some row) × (row_of_name row.name.now rows ≡ Some row)
found_again [] place row distinct at = grind (arith, common_steps)
found_again (first ∷ rows) zero row distinct at = grind (arith, common_steps, own row.name.now)
found_again (first ∷ rows) (suc place) row distinct at = grind (arith, common_steps, free first rows place row, found_again rows place row)
