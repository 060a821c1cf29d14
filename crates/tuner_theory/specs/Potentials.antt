-- Potentials: the numbers of a certificate, which bound the waste of every table from below. `potential k i` is the number of row k at
-- place i. `cost i j` is what one class for the places above i up to j wastes.
use Rattle.std.specs.Prelude.{◌≡◌, ℕ, suc, ◌+◌, ◌<◌, ◌≤◌}

-- Row 1: no number is above what one class for all places above i, up to d, wastes.
abbrev pub KeepsLastClass : (ℕ → ℕ → ℕ) → ℕ → (ℕ → ℕ → ℕ) → Type 0
KeepsLastClass cost d potential = (i : ℕ) → i < d → potential 1 i ≤ cost i d

-- A later row, up to row `limit`: no number is above the number at its place in the row before.
abbrev pub KeepsStageDrops : ℕ → ℕ → (ℕ → ℕ → ℕ) → Type 0
KeepsStageDrops d limit potential = (k i : ℕ) → 1 ≤ k → k < limit → i < d → potential (suc k) i ≤ potential k i

-- Nor is it above what one class for the places above i up to j wastes, plus the number of the row before at j.
abbrev pub KeepsEdges : (ℕ → ℕ → ℕ) → ℕ → ℕ → (ℕ → ℕ → ℕ) → Type 0
KeepsEdges cost d limit potential =
    (k i j : ℕ) → 1 ≤ k → k < limit → i < j → j ≤ d → potential (suc k) i ≤ cost i j + potential k j

-- Valid potentials of `limit` rows over d places: `potential k i` is no more than what any k classes waste on all places above i.
pub record AreValidPotentials (cost : ℕ → ℕ → ℕ) (d limit : ℕ) (potential : ℕ → ℕ → ℕ) : Type 0 where
  pub last_class : 1 ≤ limit → KeepsLastClass cost d potential
  pub stage_drop : KeepsStageDrops d limit potential
  pub edge : KeepsEdges cost d limit potential
  -- Above the last place there is nothing to serve.
  pub at_end : (k : ℕ) → potential k d ≡ 0
