-- How many of some numbers are at most another one.
use Rattle.std.specs.Prelude.{◌≡◌, ℕ, ◌*◌, ◌<◌, ◌≤◌, List, length, slice_index, slice_index_or}
use Rattle.class_table.specs.declared.counts.TheConstants.{COUNTS}

-- The first `count` numbers are at most n.
pub record AreAtMost (numbers : List ℕ) (n count : ℕ) : Type 0 where
  pub bound : count ≤ length numbers
  pub below : (k d : ℕ) → k < count → slice_index_or numbers k d ≤ n

-- Count k says how many of the numbers are at most k steps.
pub record AreCounts (counts : List ℕ) (step : ℕ) (numbers : List ℕ) : Type 0 where
  pub long : length counts ≡ COUNTS
  pub each : (place : ℕ) → place < COUNTS → AreAtMost numbers (step * place) (slice_index counts place)
  pub above : (place k d : ℕ) → place < COUNTS → slice_index counts place ≤ k → k < length numbers → step * place < slice_index_or numbers k d
