-- A signed number that is passed on.
use lib.Signed.{mag}
use Rattle.std.proofs.Common.{◌≡◌, ◌<◌, ◌^◌, ℤ, pos, negsuc, arith, to_z, of_z}
use Rattle.std.proofs.lemmas.Int.{ints, to_z-of_z}
use Rattle.std.specs.Int.{w32}

-- it is the same
pub passed : (z : ℤ) → mag z < 2 ^ 31 → to_z w32 (of_z w32 z) ≡ z
passed (pos n) fits = to_z-of_z w32 (pos n) (omega (arith, ints, fits))
passed (negsuc n) fits = to_z-of_z w32 (negsuc n) (omega (arith, ints, fits))
