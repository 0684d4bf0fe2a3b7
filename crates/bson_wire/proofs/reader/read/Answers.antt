use Rattle.std.proofs.Common.{refl, arith}
use Rattle.bson_wire.proofs.Answered.{read_found, read_only, read_refused, read_place}
use Rattle.bson_wire.proofs.reader.read.Goals as goal

pub returns-clause-found : goal.returns-clause-found
returns-clause-found c = read_found _ _ _ _ _ (λ i. omega (arith, c.type_inv.bytes i)) c.in-Ok.ensures.value refl

pub returns-clause-only : goal.returns-clause-only
returns-clause-only c = read_only _ _ _ _ _ c.in-Ok.ensures.value refl

pub returns-in-Err-clause-only : goal.returns-in-Err-clause-only
returns-in-Err-clause-only c = read_refused _ _ c.in-Err.ensures.value

pub returns-in-Err-clause-place : goal.returns-in-Err-clause-place
returns-in-Err-clause-place c = read_place _ _ c.in-Err.ensures.value
