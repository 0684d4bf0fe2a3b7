-- What the table of kinds says of the constants of the code.
use Rattle.std.specs.Prelude.{ℕ, List}
use Rattle.case_tables.specs.Refusals.{Listed, code_of, code_name_of, text_of}

-- the number of a constant, and what is told of it
abbrev pub told : Listed → ℕ × ℕ × List ℕ × List ℕ
told it = (it.constant, code_of it.constant, code_name_of it.constant, text_of it.constant)

-- what its row says
abbrev pub written : Listed → ℕ × ℕ × List ℕ × List ℕ
written it = (it.kind, it.code, it.name, it.text)
