-- Timelines: the requests and frees of a run in their order, by size alone. Their moments, and the tables of least footprint over all of them.
use Rattle.std.specs.{List.{count_by, range_with_len}, Prelude.{ℕ, ◌+◌, ◌-◌, ◌≤◌, ◌==◌, Bool, false, List, length, map, take, All}}
use Rattle.class_table.specs.Sizes.{largest_counted}
use Rattle.tuner_theory.specs.{Footprint.{IsLeastFootprint, footprint_of}, Histories.{most}, Profiles.{greatest_count}}
use Rattle.tuner_theory.specs.declared.{most_snapshots.TheConstants.{MOST_SNAPSHOTS}, size_event.SizeEvent.{SizeEvent}}
use Rattle.tuner_theory.specs.declared.size_event.SizeEvent.TheVariants.{Request, Free}

-- Whether it requests n bytes;
abbrev pub is_request : ℕ → SizeEvent → Bool
is_request n (Request size) = size == n
is_request n (Free size) = false

-- whether it frees a block of n bytes.
abbrev pub is_free : ℕ → SizeEvent → Bool
is_free n (Request size) = false
is_free n (Free size) = size == n

-- How many blocks of n bytes were requested and freed in these events.
abbrev pub requested : List SizeEvent → ℕ → ℕ
requested events n = count_by (is_request n) events

abbrev pub freed : List SizeEvent → ℕ → ℕ
freed events n = count_by (is_free n) events

-- A timeline: each free finds a live block of its size. So after no number of events were more blocks of a size freed than requested. Of sizes
-- above the largest that is counted nothing is said, and they count for nothing.
pub record IsTimeline (events : List SizeEvent) : Type 0 where
  pub few : length events ≤ greatest_count
  pub live : (moment n : ℕ) → n ≤ largest_counted → freed (take moment events) n ≤ requested (take moment events) n

-- The moment after so many events: for each size that is counted, the blocks that are live, which were requested and not freed.
unfoldable pub snapshot_at : List SizeEvent → ℕ → List ℕ
snapshot_at events moment =
    map (λ n. requested (take moment events) n - freed (take moment events) n) (range_with_len 0 (largest_counted + 1))

-- All moments: before the first event, and after each.
unfoldable pub moments : List SizeEvent → List (List ℕ)
moments events = map (snapshot_at events) (range_with_len 0 (length events + 1))

-- The most that a measure is at the moments up to this one.
abbrev pub most_to : (List ℕ → ℕ) → List SizeEvent → ℕ → ℕ
most_to measure events moment = most measure (map (snapshot_at events) (range_with_len 0 (moment + 1)))

-- What a table takes over a timeline: for each class its block size times the most of its blocks that are live at a moment.
abbrev pub footprint_over : List SizeEvent → List ℕ → ℕ
footprint_over events classes = footprint_of (moments events) classes

-- A table of least footprint over all moments, of those that are legal for the step, have at most `limit` classes and serve each size that
-- is live at a moment, and where the largest class is forced the largest size too.
abbrev pub IsLeastOver : Bool → List SizeEvent → ℕ → ℕ → List ℕ → Type 0
IsLeastOver forced events step limit classes = IsLeastFootprint forced (moments events) step limit classes

-- Some moments of a timeline, by their numbers, at most as many as a history has snapshots.
pub record AreMoments (events : List SizeEvent) (numbers : List ℕ) : Type 0 where
  pub some : 1 ≤ length numbers
  pub few : length numbers ≤ MOST_SNAPSHOTS
  pub within : All (λ number. number ≤ length events) numbers

-- The history of these moments.
abbrev pub history_at : List SizeEvent → List ℕ → List (List ℕ)
history_at events numbers = map (snapshot_at events) numbers
