use Rattle.std.proofs.Common.{ℕ, List, subst, sym, ◌∙◌, ◌<◌}
use Rattle.std.specs.Prelude.{IfSome}
use Rattle.std.specs.Str.{bytes_eq}
use Rattle.filter_syntax.proofs.Types.{type_told, small}
use Rattle.filter_syntax.proofs.type_bytes.type_named.Goals as goal

pub byte_in-requires : goal.byte_in-requires
byte_in-requires c =
    subst (λ found. IfSome found (λ code. code < 256)) (sym c.find_name.ensures)
    (small (λ (it : ℕ × List ℕ). bytes_eq it.1 c.args.name.now) _ c.types.ensures)

pub returns : goal.returns
returns c =
    c.byte_in.ensures ∙ c.find_name.ensures ∙ type_told (λ (it : ℕ × List ℕ). bytes_eq it.1 c.args.name.now) _ c.types.ensures
