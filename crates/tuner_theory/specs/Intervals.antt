-- Interval costs. A class serves the needs above the class before it, up to its own: `between low class` is what it costs for them. The
-- waste of a table is the sum of such costs, and so is its footprint.
use Rattle.std.specs.Prelude.{◌≡◌, ℕ, ◌+◌, ◌<◌, ◌≤◌, List, [], ◌∷◌}
use Rattle.class_table.specs.Tables.{IsLegalTable}
use Rattle.tuner_theory.specs.{Profiles.{IsCounted}, Spans.{need_at, rounded_need}}

-- What a table costs for the needs above `low`: the sum of what its classes cost, each from the class before it on.
abbrev pub cost_above : (ℕ → ℕ → ℕ) → ℕ → List ℕ → ℕ
cost_above between low [] = 0
cost_above between low (class ∷ classes) = between low class + cost_above between class classes

-- An interval costs no more than another one that ends no earlier and has all its counted needs.
abbrev pub IsIntervalCost : List ℕ → ℕ → (ℕ → ℕ → ℕ) → Type 0
IsIntervalCost counts step between =
    (a b low high : ℕ) → b ≤ high
    → ((n : ℕ) → IsCounted counts n → a < rounded_need step n → rounded_need step n ≤ b → low < rounded_need step n)
    → between a b ≤ between low high

-- What the interval between the needs of two places costs.
abbrev pub span_cost : (ℕ → ℕ → ℕ) → List ℕ → ℕ → ℕ → ℕ → ℕ
span_cost between counts step i j = between (need_at counts step i) (need_at counts step j)

-- A cost of tables that is the sum of such costs of the intervals of their classes. No rounded need is as small as 1.
pub record IsSumOfIntervals (cost : List ℕ → ℕ) (between : ℕ → ℕ → ℕ) (counts : List ℕ) (step : ℕ) : Type 0 where
  pub interval : IsIntervalCost counts step between
  pub sum : (classes : List ℕ) → IsLegalTable step classes → cost classes ≡ cost_above between 1 classes
