-- Rows that are filled in part, place by place.
use Rattle.std.specs.{Prelude.{◌≡◌, ℕ, ◌+◌, ◌^◌, ◌<◌, ◌≤◌, ◌⊎◌, List, length, slice_index}, declared.ops.Range.{Range}}
use Rattle.class_tuner.specs.declared.{row_filling.Row.{Row}, halving.Window.{Window}}
use Rattle.tuner_theory.specs.Rows.{IsLeastEnd}
use Rattle.class_table.specs.declared.sizes.TheConstants.{MOST_NEEDS}

-- The cost of an end j of place i: what the span to it costs, and what the row before has there.
abbrev pub end_cost : (ℕ → ℕ → ℕ) → List ℕ → ℕ → ℕ → ℕ
end_cost cost before i j = cost i j + slice_index before j

-- ---- what a later row is filled from

-- A row of d places, whose numbers are small enough to add a cost to them.
pub record IsSmallRow (d : ℕ) (row : List ℕ) : Type 0 where
  pub few : d ≤ MOST_NEEDS
  pub length : length row ≡ d
  pub small : (j : ℕ) → slice_index row j ≤ 2 ^ 60

-- A part of the places of a row and of its ends, which both have d places, and a window of ends for this part.
pub record IsPart (d : ℕ) (row ends : List ℕ) (part : Range ℕ) (window : Window) : Type 0 where
  pub row_length : length row ≡ d
  pub ends_length : length ends ≡ d
  pub order : part.start ≤ part.end
  pub after : part.end ≤ window.high
  pub some : window.low ≤ window.high
  pub within : window.high ≤ d

-- The least end of place i is between low and high.
abbrev pub IsEndBetween : (ℕ → ℕ → ℕ) → ℕ → List ℕ → ℕ → ℕ → ℕ → Type 0
IsEndBetween cost d before i low high = (e : ℕ) → IsLeastEnd (end_cost cost before i) i d e → (low ≤ e) × (e ≤ high)

-- So it is for each place from start to below stop.
abbrev pub AreEndsBetween : (ℕ → ℕ → ℕ) → ℕ → List ℕ → ℕ → ℕ → ℕ → ℕ → Type 0
AreEndsBetween cost d before start stop low high = (i : ℕ) → start ≤ i → i < stop → IsEndBetween cost d before i low high

-- ---- what is filled

-- `end` is the least end of place i, and `number` its cost, where the row before has the numbers `before`.
pub record IsLeastAt (cost : ℕ → ℕ → ℕ) (d : ℕ) (before : ℕ → ℕ) (i number end : ℕ) : Type 0 where
  pub least : IsLeastEnd (λ j. cost i j + before j) i d end
  pub number_is : number ≡ cost i end + before end

-- From place start to below stop, the row has the least costs, and `ends` their least ends.
abbrev pub IsFilledWithin : (ℕ → ℕ → ℕ) → ℕ → List ℕ → List ℕ → List ℕ → ℕ → ℕ → Type 0
IsFilledWithin cost d before row ends start stop =
    (i : ℕ) → start ≤ i → i < stop → IsLeastAt cost d (slice_index before) i (slice_index row i) (slice_index ends i)

-- Before start and from stop on nothing is changed.
abbrev pub IsKeptOutside : List ℕ → List ℕ → ℕ → ℕ → Type 0
IsKeptOutside old new start stop = (i : ℕ) → (i < start) ⊎ (stop ≤ i) → slice_index new i ≡ slice_index old i

-- A row and its ends are kept at the places outside of a part.
pub record KeepsOutside (row row' ends ends' : List ℕ) (part : Range ℕ) : Type 0 where
  pub row_kept : IsKeptOutside row row' part.start part.end
  pub ends_kept : IsKeptOutside ends ends' part.start part.end

-- The row of one span: it goes from each of the d places to the last one.
pub record IsFirstRow (cost : ℕ → ℕ → ℕ) (d : ℕ) (row : Row) : Type 0 where
  pub costs_length : length row.costs.items ≡ d
  pub ends_length : length row.ends.items ≡ d
  pub costs : (i : ℕ) → i < d → slice_index row.costs.items i ≡ cost i d
  pub ends : (i : ℕ) → i < d → slice_index row.ends.items i ≡ d

-- The row of one span more than the row `before`: at each of the d places the least cost and its least end.
pub record IsNextRow (cost : ℕ → ℕ → ℕ) (d : ℕ) (before : List ℕ) (row : Row) : Type 0 where
  pub costs_length : length row.costs.items ≡ d
  pub ends_length : length row.ends.items ≡ d
  pub filled : IsFilledWithin cost d before row.costs.items row.ends.items 0 d
