-- The rows of a tuner: row k has, for each place, the least cost of serving the places above it with at most k classes. They are filled row
-- by row, and give the table.
use Rattle.std.specs.Prelude.{◌≡◌, ℕ, zero, suc, ◌+◌, ◌-◌, ◌<◌, ◌≤◌, nat_lt, if◌then◌else◌, List, [], ◌∷◌, length, slice_index}
use Rattle.std.specs.Prelude.{slice_index_or, All}

-- The number in row k, counted from 1, at place i; 0 past the row's end.
abbrev pub number_at : List (List ℕ) → ℕ → ℕ → ℕ
number_at rows k i = slice_index (slice_index_or rows (k - 1) []) i

-- So many rows of d numbers.
pub record HasShape (rows : List (List ℕ)) (limit d : ℕ) : Type 0 where
  pub row_count : length rows ≡ limit
  pub row_lengths : All (λ row. length row ≡ d) rows

-- Of the ends from low to high, `end` is the first at which the cost is least.
pub record IsLeastWithin (cost : ℕ → ℕ) (low high end : ℕ) : Type 0 where
  pub from : low ≤ end
  pub to : end ≤ high
  pub least : (j : ℕ) → low ≤ j → j ≤ high → cost end ≤ cost j
  pub first : (j : ℕ) → low ≤ j → j < end → cost end < cost j

-- Of the ends after place i, up to d, `end` is the first at which the cost is least.
abbrev pub IsLeastEnd : (ℕ → ℕ) → ℕ → ℕ → ℕ → Type 0
IsLeastEnd cost i d end = IsLeastWithin cost (suc i) d end

-- Rows of least costs with their least ends, over d places, where `cost i j` is what one class for the places above i up to j costs: row 1
-- has one class up to the last place. A later row has the best first class, and after the end of that class the row before.
pub record AreLeastRows (cost : ℕ → ℕ → ℕ) (d limit : ℕ) (rows ends : ℕ → ℕ → ℕ) : Type 0 where
  pub at_end : (k : ℕ) → rows k d ≡ 0
  pub first_row : (i : ℕ) → 1 ≤ limit → i < d → (rows 1 i ≡ cost i d) × (ends 1 i ≡ d)
  pub later_row : (k i : ℕ) → 1 ≤ k → k < limit → i < d
      → IsLeastEnd (λ j. cost i j + rows k j) i d (ends (suc k) i)
      × (rows (suc k) i ≡ cost i (ends (suc k) i) + rows k (ends (suc k) i))

-- Each end of `limit` rows over d places is after its place.
abbrev pub AreLaterEnds : ℕ → ℕ → (ℕ → ℕ → ℕ) → Type 0
AreLaterEnds d limit ends = (k i : ℕ) → 1 ≤ k → k ≤ limit → i < d → (i < ends k i) × (ends k i ≤ d)

-- Least rows and their ends as lists.
pub record IsFilled (cost : ℕ → ℕ → ℕ) (d limit : ℕ) (rows ends : List (List ℕ)) : Type 0 where
  pub rows_shape : HasShape rows limit d
  pub ends_shape : HasShape ends limit d
  pub least : AreLeastRows cost d limit (number_at rows) (number_at ends)

-- The table that the ends give for the places above i, beginning with row k. The need at the end that row k has at place i is a class. The
-- table goes on from that end in row k - 1, until an end is the last place.
abbrev pub table_of_ends : (ℕ → ℕ) → (ℕ → ℕ → ℕ) → ℕ → ℕ → ℕ → List ℕ
table_of_ends need ends d zero i = []
table_of_ends need ends d (suc k) i = if nat_lt i d then need (ends (suc k) i) ∷ table_of_ends need ends d k (ends (suc k) i) else []
