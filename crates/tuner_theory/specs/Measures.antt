-- What tables are measured by, and so what certificates are checked against: the waste on a profile, or the footprint over a history.
use Rattle.std.specs.Prelude.{ℕ, ◌<◌, Bool, List}
use Rattle.tuner_theory.specs.{Footprint.{footprint_between, footprint_of}, Histories.{peaks}, Intervals.{IsSumOfIntervals}}
use Rattle.tuner_theory.specs.{Served.{served}, Spans.{waste_between}, Waste.{waste_of}}

-- The counts whose sizes a table has to serve; what a table costs; and `between step low high`, what the class `high` costs for the needs
-- above `low` up to its own.
pub record Measure : Type 0 where
  pub counts : List ℕ
  pub cost : List ℕ → ℕ
  pub between : ℕ → ℕ → ℕ → ℕ

abbrev pub waste_on : List ℕ → Measure
waste_on counts = record { counts = counts; cost = waste_of counts; between = waste_between counts }

-- A forced size has no block, so it takes nothing.
abbrev pub footprint_on : Bool → List (List ℕ) → Measure
footprint_on forced snapshots =
    record { counts = served forced (peaks snapshots); cost = footprint_of snapshots; between = footprint_between snapshots }

-- What a table costs is the sum of what its classes cost.
abbrev pub AreSums : Measure → Type 0
AreSums m = (step : ℕ) → 0 < step → IsSumOfIntervals m.cost (m.between step) m.counts step
