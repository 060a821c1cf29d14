-- Rows that are filled place by place, from the last place on.
use Rattle.std.specs.Prelude.{◌≡◌, ℕ, suc, ◌+◌, ◌^◌, ◌/◌, ◌<◌, ◌≤◌, List, length, slice_index}
use Rattle.class_tuner.specs.declared.fits.place_filling.Memory.{Memory}
use Rattle.potential_check.specs.{Footprints.Bounds.{AreRowBounds, AreZeros, IsSlack}, declared.footprints.slack.TheConstants.{BLOCK}}
use Rattle.tuner_theory.specs.{Lists.{lists_of}, Rows.{HasShape, IsLeastEnd, number_at}}

-- The first row and the later ones are least rows from place `start` on.
pub record AreLeastRowsFrom (cost : ℕ → ℕ → ℕ) (d limit start : ℕ) (rows ends : ℕ → ℕ → ℕ) : Type 0 where
  pub first_row : (i : ℕ) → 1 ≤ limit → start ≤ i → i < d → (rows 1 i ≡ cost i d) × (ends 1 i ≡ d)
  pub later_row : (k i : ℕ) → 1 ≤ k → k < limit → start ≤ i → i < d
      → IsLeastEnd (λ j. cost i j + rows k j) i d (ends (suc k) i)
      × (rows (suc k) i ≡ cost i (ends (suc k) i) + rows k (ends (suc k) i))

-- The costs of the spans from a place, by their ends. Those to later places are small enough to add a number to them.
pub record AreCostsFrom (d place : ℕ) (costs : List ℕ) : Type 0 where
  pub within : place < d
  pub size : length costs ≡ d + 1
  pub small : (j : ℕ) → place < j → j ≤ d → slice_index costs j ≤ 2 ^ 60

-- The costs of the spans from the next place: none of them is above that of the span from this place to the same end.
pub record AreOlderCosts (d place : ℕ) (older costs : List ℕ) : Type 0 where
  pub size : length older ≡ d + 1
  pub grow : (j : ℕ) → place + 1 < j → j ≤ d → slice_index older j ≤ slice_index costs j

-- So many rows of d numbers, each small, and their ends.
pub record AreRowsSoFar (d limit : ℕ) (rows ends : List (List ℕ)) : Type 0 where
  pub rows_shape : HasShape rows limit d
  pub ends_shape : HasShape ends limit d
  pub small : (k j : ℕ) → number_at rows k j ≤ 2 ^ 60

-- What is added up for an end of a place.
abbrev pub end_cost : List ℕ → (ℕ → ℕ) → ℕ → ℕ
end_cost costs before j = slice_index costs j + before j

-- Of the ends of a place the first that costs least, with what it costs.
pub record IsLeastOf (costs before : List ℕ) (place number end : ℕ) : Type 0 where
  pub first : IsLeastEnd (end_cost costs (slice_index before)) place (length before) end
  pub value : number ≡ end_cost costs (slice_index before) end
  pub small : number ≤ slice_index costs (length before)

-- A place is filled in the rows up to row `stop`; the numbers and ends of other places are kept.
pub record IsPlaceFilled (costs : List ℕ) (d place stop : ℕ) (old_rows rows old_ends ends : List (List ℕ)) : Type 0 where
  pub rows_kept : (k j : ℕ) → (j ≡ place → ⊥) → number_at rows k j ≡ number_at old_rows k j
  pub ends_kept : (k j : ℕ) → (j ≡ place → ⊥) → number_at ends k j ≡ number_at old_ends k j
  pub first : (number_at rows 1 place ≡ slice_index costs d) × (number_at ends 1 place ≡ d)
  pub later : (k : ℕ) → 1 ≤ k → k < stop
      → IsLeastEnd (end_cost costs (number_at old_rows k)) place d (number_at ends (suc k) place)
      × (number_at rows (suc k) place ≡ end_cost costs (number_at old_rows k) (number_at ends (suc k) place))

-- No block of ends has a bound yet, and each has a slack. There are two lists with room for the costs from a place.
pub record IsFresh (limit d : ℕ) (memory : Memory) : Type 0 where
  pub bounds : AreZeros limit (d / BLOCK + 1) (lists_of memory.bounds.items)
  pub slack : IsSlack d memory.slack.items
  pub from : length memory.from.items ≡ d + 1
  pub older : length memory.older.items ≡ d + 1

-- What place `start` leaves for the place before it: the costs from place `start`, the slack and the bounds of its blocks, the rows so far.
pub record AreReady (costs slacks : List ℕ) (start d limit : ℕ) (numbers ends blocks : List (List ℕ)) : Type 0 where
  pub slack : IsSlack d slacks
  pub rows : AreRowsSoFar d limit numbers ends
  pub bounds : AreRowBounds costs slacks start d limit (number_at numbers) blocks
