-- What bounds the numbers of a certificate's rows: the first row by itself, a later row beside the row before it.
use Rattle.std.specs.Prelude.{◌≡◌, ℕ, ◌+◌, ◌<◌, ◌≤◌, ◌^◌, List, length, slice_index}
use Rattle.potential_check.specs.Certificates.Spanned.{IsSpanned, Spanned}
use Rattle.tuner_theory.specs.Spans.{places, span_waste}

-- No number is more than what one class for all needs above its place wastes.
pub record LastClassHolds (s : Spanned) (row : List ℕ) : Type 0 where
  pub each : (i : ℕ) → i < length row → slice_index row i ≤ span_waste s.counts s.step i (places s.counts s.step)

-- No number is more than the one at its place in the row before.
pub record StageDropHolds (before row : List ℕ) : Type 0 where
  pub each : (i : ℕ) → i < length row → slice_index row i ≤ slice_index before i

-- A row with a number for each place. Where the counts are those of a profile, none is above 2^58.
pub record IsBoundedRow (s : Spanned) (row : List ℕ) : Type 0 where
  pub full : length row ≡ places s.counts s.step
  pub bounded : IsSpanned s → (i : ℕ) → slice_index row i ≤ 2 ^ 58

-- The most that a number at place i may be by its edge to a later place j:
-- what one class for the needs above i up to j wastes, and the number of the row before at j.
abbrev pub edge_bound : Spanned → List ℕ → ℕ → ℕ → ℕ
edge_bound s before i j = span_waste s.counts s.step i j + slice_index before j

-- No number is more than its edge to any later place allows.
pub record EdgesHold (s : Spanned) (before row : List ℕ) : Type 0 where
  pub each : (i j : ℕ) → i < length row → i < j → j ≤ places s.counts s.step → slice_index row i ≤ edge_bound s before i j

-- The same of the places from `start` to below `stop` and their edges to the places from `low` to below `high` alone.
abbrev pub EdgesHoldWithin : Spanned → List ℕ → List ℕ → ℕ → ℕ → ℕ → ℕ → Type 0
EdgesHoldWithin s before row start stop low high =
    (i j : ℕ) → start ≤ i → i < stop → i < j → low ≤ j → j < high → slice_index row i ≤ edge_bound s before i j

-- The number at place i is just what one of its edges to the ends up to `last` allows.
abbrev pub HasTightEnd : Spanned → List ℕ → List ℕ → ℕ → ℕ → Type 0
HasTightEnd s before row i last = (j : ℕ) × (i < j) × (j ≤ last) × (slice_index row i ≡ edge_bound s before i j)

-- Each number is just what one of its edges allows.
pub record AreTight (s : Spanned) (before row : List ℕ) : Type 0 where
  pub each : (i : ℕ) → i < length row → HasTightEnd s before row i (places s.counts s.step)

-- An end for place i, up to `last`. The number at place i is just what its edge to this end allows, and is within its edges to the ends
-- from this one up to `last`. The number at place i + 1 is within its edges to the ends from this one to below `last`.
pub record IsTightEnd (s : Spanned) (before row : List ℕ) (i last end : ℕ) : Type 0 where
  pub after : i < end
  pub within : end ≤ last
  pub tight : slice_index row i ≡ edge_bound s before i end
  pub here : (j : ℕ) → end ≤ j → j ≤ last → slice_index row i ≤ edge_bound s before i j
  pub next : (j : ℕ) → i + 1 < j → end ≤ j → j < last → slice_index row (i + 1) ≤ edge_bound s before (i + 1) j
