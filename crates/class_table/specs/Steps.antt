-- Steps: some allocators give out blocks only in multiples of a number of granules.
use Rattle.std.specs.Prelude.{◌≡◌, ℕ, ◌+◌, ◌-◌, ◌*◌, ◌/◌, ◌%◌, ◌≤◌, ◌||◌, ◌==◌, IsTrue}

-- The steps that there are, in granules.
abbrev pub IsStep : ℕ → Type 0
IsStep step = IsTrue (step == 1 || step == 2 || step == 4 || step == 8)

-- A need, rounded up: the least multiple of the step that is not below it.
abbrev pub round_up : ℕ → ℕ → ℕ
round_up need step = (need + step - 1) / step * step

-- The least multiple of the step that is not below the need.
pub record IsLeastMultiple (step need rounded : ℕ) : Type 0 where
  pub multiple : rounded % step ≡ 0
  pub above : need ≤ rounded
  pub least : (other : ℕ) → other % step ≡ 0 → need ≤ other → rounded ≤ other
