use Rattle.std.proofs.Common.{arith}
use Rattle.typed_json.proofs.LeafAgain.{below_bytes}
use Rattle.typed_json.proofs.plain_json.bytes_fit.Goals as goal

pub returns : goal.returns
returns c = below_bytes c.args._bytes.now (λ i. omega (arith, c.type_inv._bytes i))
