-- The result of a fitter.
use Rattle.std.specs.Prelude.{ℕ, ◌<◌, ◌≤◌, Bool, List}
use Rattle.class_tuner.specs.Tuned.{IsMadeFor}
use Rattle.tuner_theory.specs.{Histories.{peaks}, Measures.{footprint_on}, Rests.{IsFootprintRest}, Rows.{number_at}, Served.{served}}
use Rattle.tuner_theory.specs.{Sheets.{Sheet}, Spans.{places}}

-- Each number of the rows is the least footprint of its row and place.
abbrev pub AreFootprintRests : Bool → List (List ℕ) → ℕ → ℕ → List (List ℕ) → Type 0
AreFootprintRests forced snapshots step limit rows =
    (k i : ℕ) → 1 ≤ k → k ≤ limit → i < places (served forced (peaks snapshots)) step
    → IsFootprintRest forced snapshots step k i (number_at rows k i)

-- The fit of a history for a step and a limit, and whether the largest class is forced. Its rows are the least footprints of what is left
-- above each place.
pub record IsFitOf (snapshots : List (List ℕ)) (step limit : ℕ) (forced : Bool) (fit : Sheet) : Type 0 where
  pub made : IsMadeFor (footprint_on forced snapshots) step limit forced fit
  pub rests : AreFootprintRests forced snapshots step limit fit.rows
