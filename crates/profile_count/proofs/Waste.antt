-- The waste, size by size.
use Rattle.std.proofs.Common.{◌≡◌, ℕ, zero, suc, ◌-◌, ◌*◌, ◌≤◌, List, get_or, Some, None, ap, arith}
use Rattle.std.proofs.{Math.Nat.{mul-le-mul}}
use Rattle.class_table.specs.{Sizes.{largest_counted}, Tables.{class_for}}
use Rattle.tuner_theory.{proofs.Sums.{sum_below-more}, specs.Profiles.{greatest_count}, specs.Waste.{sum_below, waste_at}}

-- the losses of one size are small
pub small_term : (count loss : ℕ) → count ≤ greatest_count → loss ≤ largest_counted → count * loss ≤ largest_counted * greatest_count
small_term count loss few small = omega (arith, mul-le-mul {n₂ = greatest_count} {m₂ = largest_counted} few small)

-- from where on nothing is lost, the sum stays
pub sum_up_to_the_rest : (f : ℕ → ℕ) (from end : ℕ) → from ≤ end → ((n : ℕ) → from ≤ n → f n ≡ 0) → sum_below f end ≡ sum_below f from
sum_up_to_the_rest f from zero le none = ap (sum_below f) (omega arith)
sum_up_to_the_rest f from (suc end) le none = grind (arith, sum_up_to_the_rest f from end, sum_below-more)

-- what is lost in a class on the sizes that it is the class of
pub waste_in_class : (counts classes : List ℕ) (n class end : ℕ) → class_for classes n ≡ Some class → end ≡ 16 * class - 15 → 2 ≤ class →
    waste_at counts classes n ≡ get_or counts n 0 * (end - 1 - n)
waste_in_class counts classes n class end is ends most = grind arith

pub waste_in_none : (counts classes : List ℕ) (n : ℕ) → class_for classes n ≡ None → waste_at counts classes n ≡ 0
waste_in_none counts classes n none = grind arith
