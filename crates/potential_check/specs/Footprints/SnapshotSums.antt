-- The sums of a history's snapshots up to each place of its peaks.
use Rattle.std.specs.Prelude.{◌≡◌, ℕ, ◌+◌, ◌-◌, ◌*◌, ◌<◌, ◌≤◌, max, List, [], ◌∷◌, length, slice_index, slice_index_or, take}
use Rattle.class_table.specs.{Sizes.{granule_bytes}, Steps.{IsStep}}
use Rattle.history_count.specs.CountedLines.{IsCutAt}
use Rattle.potential_check.specs.Certificates.Spanned.{AreSumsUpTo}
use Rattle.tuner_theory.specs.{Footprint.{blocks_between, footprint_between}, Histories.{AreSnapshots, most, peaks}, Waste.{sum_below}}
use Rattle.tuner_theory.specs.{Profiles.{AreCounts, Covers}, Spans.{counted_up_to, need_at, places}}

-- For each snapshot, how many blocks are live whose rounded need is at most that of each place.
pub record AreSnapshotSums (snapshots : List (List ℕ)) (counts : List ℕ) (step : ℕ) (sums : List (List ℕ)) : Type 0 where
  pub size : length sums ≡ length snapshots
  pub each : (t : ℕ) → t < length snapshots
      → AreSumsUpTo (counted_up_to (slice_index_or snapshots t []) step) counts step (slice_index_or sums t [])

-- For each place, how many lines the classes up to it serve.
pub record AreCuts (sizes counts : List ℕ) (step : ℕ) (cuts : List ℕ) : Type 0 where
  pub size : length cuts ≡ places counts step
  pub each : (p : ℕ) → p < places counts step → IsCutAt sizes (slice_index cuts p) (granule_bytes * need_at counts step (p + 1) - (granule_bytes - 1))

-- The sums of a column up to each cut, after 0.
pub record AreColumnSums (column cuts sums : List ℕ) : Type 0 where
  pub size : length sums ≡ length cuts + 1
  pub none : slice_index sums 0 ≡ 0
  pub each : (p : ℕ) → p < length cuts → slice_index sums (p + 1) ≡ sum_below (slice_index column) (slice_index cuts p)

-- What is kept of a history and the places of some counts, which have the sizes of its peaks.
pub record HoldsSnapshots (snapshots : List (List ℕ)) (counts : List ℕ) (step : ℕ) (sums : List (List ℕ)) : Type 0 where
  pub is_step : IsStep step
  pub are : AreSnapshots snapshots
  pub are_counts : AreCounts counts
  pub covers : Covers counts (peaks snapshots)
  pub sums_are : AreSnapshotSums snapshots counts step sums

-- No sum after place i is below that at it.
abbrev pub Ascends : List ℕ → ℕ → Type 0
Ascends sums i = (j : ℕ) → i < j → j < length sums → slice_index sums i ≤ slice_index sums j

-- From place i on, each number is at least what the sums grow from place i on, and otherwise what it was.
pub record IsRaised (sums : List ℕ) (i stop : ℕ) (old new : List ℕ) : Type 0 where
  pub size : length new ≡ length old
  pub raised : (j : ℕ) → i < j → j < stop → slice_index new j ≡ max (slice_index old j) (slice_index sums j - slice_index sums i)
  pub kept : (j : ℕ) → stop ≤ j → slice_index new j ≡ slice_index old j

-- A number, raised to what some rows of sums grow from place i to place j.
abbrev pub raised_to : List (List ℕ) → ℕ → ℕ → ℕ → ℕ
raised_to [] i j x = x
raised_to (row ∷ rows) i j x = raised_to rows i j (max x (slice_index row j - slice_index row i))

-- Rows that go up to below `stop`, and whose sums after place i are not below that at it.
abbrev pub MayRaise : List (List ℕ) → ℕ → ℕ → Type 0
MayRaise [] i stop = Unit {0}
MayRaise (row ∷ rows) i stop = ((stop ≤ length row) × Ascends row i) × MayRaise rows i stop

-- The numbers are those of the places from `start` on. Up to below `stop` they are raised to what the rows grow from place i on.
pub record IsRaisedBy (rows : List (List ℕ)) (i start stop : ℕ) (old new : List ℕ) : Type 0 where
  pub size : length new ≡ length old
  pub raised : (j : ℕ) → start ≤ j → j < stop → slice_index new (j - start) ≡ raised_to rows i j (slice_index old (j - start))
  pub kept : (m : ℕ) → stop - start ≤ m → slice_index new m ≡ slice_index old m

-- The most blocks of each interval from place i on at the first t snapshots.
pub record AreMostBlocks (snapshots : List (List ℕ)) (counts : List ℕ) (step i t : ℕ) (numbers : List ℕ) : Type 0 where
  pub size : length numbers ≡ places counts step + 1
  pub numbers_are : (j : ℕ) → i < j → j ≤ places counts step
      → slice_index numbers j ≡ most (blocks_between step (need_at counts step i) (need_at counts step j)) (take t snapshots)

-- The same of the numbers of the places from `start` to below `stop`.
pub record AreMostIn (snapshots : List (List ℕ)) (counts : List ℕ) (step i start stop t : ℕ) (numbers : List ℕ) : Type 0 where
  pub numbers_are : (j : ℕ) → start ≤ j → j < stop
      → slice_index numbers (j - start) ≡ most (blocks_between step (need_at counts step i) (need_at counts step j)) (take t snapshots)

-- From place i on, the numbers up to below `stop` are what the intervals take, and the others the most blocks of them.
pub record AreScaled (snapshots : List (List ℕ)) (counts : List ℕ) (step i stop : ℕ) (numbers : List ℕ) : Type 0 where
  pub size : length numbers ≡ places counts step + 1
  pub scaled : (j : ℕ) → i < j → j < stop
      → slice_index numbers j ≡ footprint_between snapshots step (need_at counts step i) (need_at counts step j)
  pub others : (j : ℕ) → i < j → stop ≤ j → j ≤ places counts step
      → slice_index numbers j ≡ most (blocks_between step (need_at counts step i) (need_at counts step j)) snapshots

-- From place i on, the numbers up to below `stop` are what the intervals take.
pub record AreWritten (snapshots : List (List ℕ)) (counts : List ℕ) (step i stop : ℕ) (numbers : List ℕ) : Type 0 where
  pub size : length numbers ≡ places counts step + 1
  pub written : (j : ℕ) → i < j → j < stop
      → slice_index numbers j ≡ footprint_between snapshots step (need_at counts step i) (need_at counts step j)

-- The sums of a snapshot, one for each place from 0 on.
pub record AreSumsAt (snapshots : List (List ℕ)) (counts : List ℕ) (step : ℕ) (sums : List (List ℕ)) (t : ℕ) (row : List ℕ) : Type 0 where
  pub within : t < length snapshots
  pub read : row ≡ slice_index_or sums t []
  pub size : length row ≡ places counts step + 1
  pub ascend : (i : ℕ) → Ascends row i

-- Rows of numbers that were taken over in a narrower type: all, where there are any.
abbrev pub AreNarrow : List (List ℕ) → List (List ℕ) → Type 0
AreNarrow narrow rows = 0 < length narrow → narrow ≡ rows
