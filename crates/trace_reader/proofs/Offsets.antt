-- Offsets as numbers with a sign.
use Rattle.std.{proofs.Common.{◌≤◌, arith, ℤ, nat_abs, FitsSigned}, specs.Int.{w64}}

-- an offset of an access fits 64 bits with its sign
pub fits_signed : (z : ℤ) → nat_abs z ≤ 1048576 → FitsSigned w64 z
fits_signed z near = grind arith
