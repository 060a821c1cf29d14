-- What a tuner makes for a profile: rows over its spans, and the table that they give.
use Rattle.std.specs.Prelude.{ℕ, ◌≤◌, Bool, List}
use Rattle.tuner_theory.specs.{Footprint.{footprint_between}, Histories.{peaks}, Intervals.{span_cost}, Profiles.{AreCounts}}
use Rattle.tuner_theory.specs.{Rows.{AreLeastRows, table_of_ends}, Served.{served}, Spans.{need_at, places, waste_between}}
use Rattle.class_table.specs.{Steps.{IsStep}, declared.table.TheConstants.{MOST_CLASSES}}

-- Least rows over the places of a profile by an interval cost, for 1 to 32 classes.
pub record AreRowsBy (between : ℕ → ℕ → ℕ) (counts : List ℕ) (step limit : ℕ) (rows ends : ℕ → ℕ → ℕ) : Type 0 where
  pub is_step : IsStep step
  pub are_counts : AreCounts counts
  pub some : 1 ≤ limit
  pub few : limit ≤ MOST_CLASSES
  pub least : AreLeastRows (span_cost between counts step) (places counts step) limit rows ends

-- Least rows over the span wastes of a profile.
abbrev pub AreTunedRows : List ℕ → ℕ → ℕ → (ℕ → ℕ → ℕ) → (ℕ → ℕ → ℕ) → Type 0
AreTunedRows counts step limit rows ends = AreRowsBy (waste_between counts step) counts step limit rows ends

-- Least rows over the span footprints of a history.
abbrev pub AreFittedRows : Bool → List (List ℕ) → ℕ → ℕ → (ℕ → ℕ → ℕ) → (ℕ → ℕ → ℕ) → Type 0
AreFittedRows forced snapshots step limit rows ends =
    AreRowsBy (footprint_between snapshots step) (served forced (peaks snapshots)) step limit rows ends

-- The table that they give, from the last row and place 0.
abbrev pub tuned_table : List ℕ → ℕ → ℕ → (ℕ → ℕ → ℕ) → List ℕ
tuned_table counts step limit ends = table_of_ends (need_at counts step) ends (places counts step) limit 0
