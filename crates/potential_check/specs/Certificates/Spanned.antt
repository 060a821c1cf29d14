-- What the spans of a profile are seen as, and what is kept of them.
use Rattle.std.specs.Prelude.{◌≡◌, ℕ, ◌+◌, ◌≤◌, List, ◌∷◌, length, slice_index}
use Rattle.tuner_theory.specs.{Profiles.{AreCounts}, Spans.{bytes_up_to, counted_up_to, distinct_needs, need_at, places}}
use Rattle.class_table.specs.Steps.{IsStep}

-- The spans of a profile are seen as its counts and the step.
pub record Spanned : Type 0 where
  pub counts : List ℕ
  pub step : ℕ

-- The counts are those of a profile. The step is 1, 2, 4 or 8.
pub record IsSpanned (s : Spanned) : Type 0 where
  pub is_step : IsStep s.step
  pub are_counts : AreCounts s.counts

-- The last of the needs, and 0 where there is none.
abbrev pub last_need : List ℕ → ℕ
last_need needs = slice_index (0 ∷ needs) (length needs)

-- For each place from 0 on, the sum up to its need.
pub record AreSumsUpTo (sum_up_to : ℕ → ℕ) (counts : List ℕ) (step : ℕ) (sums : List ℕ) : Type 0 where
  pub size : length sums ≡ places counts step + 1
  pub sums_are : (i : ℕ) → i ≤ places counts step → slice_index sums i ≡ sum_up_to (need_at counts step i)

-- The needs, and how many requests and bytes were counted up to each.
pub record HoldsSums (counts : List ℕ) (step : ℕ) (needs counted bytes : List ℕ) : Type 0 where
  pub is_step : IsStep step
  pub are_counts : AreCounts counts
  pub needs_are : needs ≡ distinct_needs counts step
  pub counted_are : AreSumsUpTo (counted_up_to counts step) counts step counted
  pub bytes_are : AreSumsUpTo (bytes_up_to counts step) counts step bytes
