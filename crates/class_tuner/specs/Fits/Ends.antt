-- The ends of a place, and the best of those that were seen.
use Rattle.std.specs.Prelude.{◌≡◌, ℕ, ◌^◌, ◌<◌, ◌≤◌, List, length, slice_index}

-- Ends whose costs and numbers are small enough to add them.
pub record IsBlock (costs numbers : List ℕ) (start stop : ℕ) : Type 0 where
  pub in_costs : stop ≤ length costs
  pub in_numbers : stop ≤ length numbers
  pub small_costs : (j : ℕ) → start ≤ j → j < stop → slice_index costs j ≤ 2 ^ 60
  pub small_numbers : (j : ℕ) → slice_index numbers j ≤ 2 ^ 60

-- One of the ends has this cost.
pub record IsReached (cost : ℕ → ℕ) (start stop least : ℕ) : Type 0 where
  pub end : ℕ
  pub from : start ≤ end
  pub to : end < stop
  pub is : least ≡ cost end

-- Of the last end and those after the place and before `next`, `end` costs least; and of those before `next` it is the first that does.
pub record IsLeastSoFar (cost : ℕ → ℕ) (place next last end : ℕ) : Type 0 where
  pub after : place < end
  pub within : end ≤ last
  pub least : (j : ℕ) → place < j → j < next → j < last → cost end ≤ cost j
  pub first : (j : ℕ) → place < j → j < next → j < end → cost end < cost j
  pub one_class : cost end ≤ cost last
