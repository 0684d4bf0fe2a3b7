use Rattle.std.proofs.Common.{ℕ, List, pos, subst, sym, ◌∙◌, ◌<◌}
use Rattle.std.specs.Prelude.{IfSome}
use Rattle.std.specs.Ordering.{int_eq}
use Rattle.filter_syntax.proofs.Types.{type_told, small}
use Rattle.filter_syntax.proofs.type_bytes.type_numbered.Goals as goal

pub byte_in-requires : goal.byte_in-requires
byte_in-requires c =
    subst (λ found. IfSome found (λ code. code < 256)) (sym c.find_number.ensures)
    (small (λ (it : ℕ × List ℕ). int_eq (pos it.0) c.args.number.now) _ c.types.ensures)

pub returns : goal.returns
returns c =
    c.byte_in.ensures ∙ c.find_number.ensures ∙ type_told (λ (it : ℕ × List ℕ). int_eq (pos it.0) c.args.number.now) _ c.types.ensures
