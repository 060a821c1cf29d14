-- What a profile counts in all, size by size.
use Rattle.std.proofs.Common.{◌≡◌, ◌+◌, ◌*◌, ◌≤◌, ℕ, Bool, true, false, add-one, arith}
use Rattle.std.{proofs.Math.Nat.{mul-le-mul}, specs.Int.{from_bool}}
use Rattle.class_table.specs.Sizes.{largest_counted}
use Rattle.tuner_theory.{proofs.Sums.{sum_below-more}, specs.Profiles.{greatest_count}, specs.Waste.{sum_below}}

pub small_flag : (b : Bool) → from_bool b ≤ 1
small_flag true = omega arith
small_flag false = omega arith

pub small_bytes : (count size : ℕ) → count ≤ greatest_count → size ≤ largest_counted → count * size ≤ greatest_count * largest_counted
small_bytes count size few small = omega (arith, mul-le-mul {n₂ = greatest_count} {m₂ = largest_counted} few small)

-- one term more
pub sum_goes_on : (f : ℕ → ℕ) (n sum term : ℕ) → sum ≡ sum_below f n → term ≡ f n → sum + term ≡ sum_below f (n + 1)
sum_goes_on f n sum term so_far is = rw add-one (omega (arith, sum_below-more f n, so_far, is))
