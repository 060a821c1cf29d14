-- Which sizes were requested, event by event: the largest one, and the least that a table does not serve.
use Rattle.std.specs.Prelude.{◌≡◌, ℕ, ◌+◌, ◌-◌, ◌<◌, ◌≤◌, None, IsSome, List, length, slice_index, take}
use Rattle.class_table.specs.{Sizes.{largest_counted}, Tables.{class_for}}
use Rattle.tuner_theory.specs.{Histories.{peaks}, Timelines.{history_at, moments, requested, snapshot_at}, Waste.{Serves}}
use Rattle.tuner_theory.specs.declared.size_event.SizeEvent.{SizeEvent}

-- Whatever serves a history that has this moment serves the timeline.
abbrev pub Decides : List SizeEvent → ℕ → Type 0
Decides events moment =
    (numbers classes : List ℕ) (k : ℕ) → k < length numbers → slice_index numbers k ≡ moment
    → Serves (peaks (history_at events numbers)) classes → Serves (peaks (moments events)) classes

-- The largest requested size that is counted.
pub record IsLargest (events : List SizeEvent) (size : ℕ) : Type 0 where
  pub counted : size ≤ largest_counted
  pub some : 0 < requested events size
  pub greatest : (n : ℕ) → n ≤ largest_counted → 0 < requested events n → n ≤ size

-- The first moment at which a block of this size is live.
pub record IsFirstLive (events : List SizeEvent) (size moment : ℕ) : Type 0 where
  pub live : 0 < slice_index (snapshot_at events moment) size
  pub before : (earlier : ℕ) → earlier < moment → slice_index (snapshot_at events earlier) size ≡ 0

-- Of the first k events: each counted size that was requested is below `above`, and the size before that was, and is first live at a moment.
pub record IsLargestSoFar (events : List SizeEvent) (k above moment : ℕ) : Type 0 where
  pub within : moment ≤ k
  pub counted : above ≤ largest_counted + 1
  pub below : (n : ℕ) → n ≤ largest_counted → 0 < requested (take k events) n → n < above
  pub some : 0 < above → 0 < requested (take k events) (above - 1)
  pub first : 0 < above → IsFirstLive events (above - 1) moment
  pub none : above ≡ 0 → moment ≡ 0

-- The least requested size that is counted and has no class.
pub record IsLeastUnserved (events : List SizeEvent) (classes : List ℕ) (size : ℕ) : Type 0 where
  pub counted : size ≤ largest_counted
  pub some : 0 < requested events size
  pub no_class : class_for classes size ≡ None
  pub least : (n : ℕ) → n < size → 0 < requested events n → IsSome (class_for classes n)

-- Of the first k events: no requested size below `least` lacks a class, and it lacks one itself, if it is counted.
pub record IsLeastSoFar (events : List SizeEvent) (classes : List ℕ) (k least : ℕ) : Type 0 where
  pub within : least ≤ largest_counted + 1
  pub below : (n : ℕ) → n < least → 0 < requested (take k events) n → IsSome (class_for classes n)
  pub some : least ≤ largest_counted → 0 < requested (take k events) least
  pub no_class : least ≤ largest_counted → class_for classes least ≡ None
