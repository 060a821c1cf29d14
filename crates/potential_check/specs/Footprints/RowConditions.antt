-- The conditions on the rows of a certificate, and what is tested of them place by place.
use Rattle.std.specs.Prelude.{◌≡◌, ◌↔◌, ℕ, suc, ◌+◌, ◌^◌, ◌<◌, ◌≤◌, List, length, slice_index, IsTrue}
use Rattle.potential_check.specs.declared.measured_load.RowTests.{RowTests}
use Rattle.tuner_theory.specs.{Potentials.{KeepsEdges, KeepsLastClass, KeepsStageDrops}, Rows.{HasShape, number_at}}

-- Each test says whether its condition holds of the numbers of rows, for costs over d places.
pub record AreRowTests (cost : ℕ → ℕ → ℕ) (d : ℕ) (rows : List (List ℕ)) (tests : RowTests) : Type 0 where
  pub last_class : IsTrue tests.last_class ↔ KeepsLastClass cost d (number_at rows)
  pub stage_drop : IsTrue tests.stage_drop ↔ KeepsStageDrops d (length rows) (number_at rows)
  pub edge : IsTrue tests.edge ↔ KeepsEdges cost d (length rows) (number_at rows)

-- ---- at one place

-- Rows of d numbers, and the costs from place i, one of theirs. There are few rows, and few places.
pub record AreRowsAt (costs : List ℕ) (rows : List (List ℕ)) (d i : ℕ) : Type 0 where
  pub few : length rows ≤ 2 ^ 16
  pub few_places : d ≤ 2 ^ 16
  pub shape : HasShape rows (length rows) d
  pub size : length costs ≡ d + 1
  pub place : i < d

-- The number is within the edges of place i to its later places.
pub record EdgeHoldsAt (costs before : List ℕ) (number i : ℕ) : Type 0 where
  pub each : (j : ℕ) → i < j → j ≤ length before → number ≤ slice_index costs j + slice_index before j

-- It is within those to the places from start to below stop.
pub record WithinEdges (costs before : List ℕ) (number start stop : ℕ) : Type 0 where
  pub each : (j : ℕ) → start ≤ j → j < stop → number ≤ slice_index costs j + slice_index before j

-- Each later row up to row `stop` is within its edges at place i.
pub record EdgesHoldAt (costs : List ℕ) (rows : List (List ℕ)) (d i stop : ℕ) : Type 0 where
  pub each : (k j : ℕ) → 1 ≤ k → k < stop → i < j → j ≤ d → number_at rows (suc k) i ≤ slice_index costs j + number_at rows k j

-- No later row up to row `stop` is above the row before at place i.
pub record DropsHoldAt (rows : List (List ℕ)) (i stop : ℕ) : Type 0 where
  pub each : (k : ℕ) → 1 ≤ k → k < stop → number_at rows (suc k) i ≤ number_at rows k i

-- ---- at place i and the later ones

pub record LastHoldsFrom (cost : ℕ → ℕ → ℕ) (d : ℕ) (rows : List (List ℕ)) (i : ℕ) : Type 0 where
  pub each : (m : ℕ) → i ≤ m → m < d → number_at rows 1 m ≤ cost m d

pub record DropsHoldFrom (d : ℕ) (rows : List (List ℕ)) (i : ℕ) : Type 0 where
  pub each : (m : ℕ) → i ≤ m → m < d → DropsHoldAt rows m (length rows)

pub record EdgesHoldFrom (cost : ℕ → ℕ → ℕ) (d : ℕ) (rows : List (List ℕ)) (i : ℕ) : Type 0 where
  pub each : (m k j : ℕ) → i ≤ m → 1 ≤ k → k < length rows → m < j → j ≤ d → number_at rows (suc k) m ≤ cost m j + number_at rows k j

-- ---- what is tested

-- Each test says whether its condition holds at place i, for the costs from there.
pub record AreTestsAt (costs : List ℕ) (d : ℕ) (rows : List (List ℕ)) (i : ℕ) (tests : RowTests) : Type 0 where
  pub last_class : IsTrue tests.last_class ↔ (number_at rows 1 i ≤ slice_index costs d)
  pub stage_drop : IsTrue tests.stage_drop ↔ DropsHoldAt rows i (length rows)
  pub edge : IsTrue tests.edge ↔ EdgesHoldAt costs rows d i (length rows)

-- The same at place i and the later ones.
pub record AreTestsFrom (cost : ℕ → ℕ → ℕ) (d : ℕ) (rows : List (List ℕ)) (i : ℕ) (tests : RowTests) : Type 0 where
  pub last_class : IsTrue tests.last_class ↔ LastHoldsFrom cost d rows i
  pub stage_drop : IsTrue tests.stage_drop ↔ DropsHoldFrom d rows i
  pub edge : IsTrue tests.edge ↔ EdgesHoldFrom cost d rows i

-- What two tests both say.
pub record AreBoth (one other both : RowTests) : Type 0 where
  pub last_class : IsTrue both.last_class ↔ (IsTrue one.last_class × IsTrue other.last_class)
  pub stage_drop : IsTrue both.stage_drop ↔ (IsTrue one.stage_drop × IsTrue other.stage_drop)
  pub edge : IsTrue both.edge ↔ (IsTrue one.edge × IsTrue other.edge)
