-- An index of a timeline: the sizes that are requested, and by stretches of so many events how many blocks of each are live.
use Rattle.std.specs.Prelude.{◌≡◌, ◌↔◌, ℕ, zero, suc, ◌+◌, ◌-◌, ◌*◌, ◌^◌, ◌<◌, ◌≤◌, max, List, length, map, slice_index, slice_index_or}
use Rattle.std.specs.Prelude.{take, []}
use Rattle.class_table.specs.Sizes.{granule_bytes, largest_counted}
use Rattle.tuner_theory.specs.{Lists.{lists_of}, Profiles.{greatest_count}, Timelines.{IsTimeline, most_to, requested, snapshot_at}}
use Rattle.tuner_theory.specs.declared.size_event.SizeEvent.{SizeEvent}
use Rattle.history_count.specs.{CountedLines.{AreSizes, IsCutAt}, Timelines.LiveBlocks.{IsFirst}, Timelines.Requests.{IsLargestSoFar}}
use Rattle.history_count.specs.declared.timelines.{peaks.Peak.{Peak}, peaks.Span.{Span}, requested_sizes.RequestedSizes.{RequestedSizes}}
use Rattle.history_count.specs.declared.timelines.stretches.Stretches.{Stretches}

-- ---- the requested sizes

-- Of the first k events: a counted size has a mark exactly if it was requested. Each size that 16 bits hold has a place.
pub record AreSeen (events : List SizeEvent) (k : ℕ) (seen : List ℕ) : Type 0 where
  pub len : length seen ≡ 2 ^ 16
  pub marks : (n : ℕ) → n ≤ largest_counted → 0 < slice_index seen n ↔ 0 < requested (take k events) n

-- A size is that of a line.
pub record IsLineOf (sizes : List ℕ) (n line : ℕ) : Type 0 where
  pub within : line < length sizes
  pub there : slice_index sizes line ≡ n

-- The marked sizes below n, and the line of each.
pub record AreLinesBelow (seen : List ℕ) (n : ℕ) (sizes lines : List ℕ) : Type 0 where
  pub lines_len : length lines ≡ largest_counted + 1
  pub few : length sizes ≤ n
  pub sizes_are : AreSizes sizes
  pub below : (k : ℕ) → k < length sizes → slice_index sizes k < n
  pub marked : (k : ℕ) → k < length sizes → 0 < slice_index seen (slice_index sizes k)
  pub line : (m : ℕ) → m < n → 0 < slice_index seen m → IsLineOf sizes m (slice_index lines m)

-- The requested sizes that are counted, the line of each, and the largest of them.
pub record AreRequested (events : List SizeEvent) (r : RequestedSizes) : Type 0 where
  pub sizes_are : AreSizes r.sizes.items
  pub lines_len : length r.lines.items ≡ largest_counted + 1
  pub some : (k : ℕ) → k < length r.sizes.items → 0 < requested events (slice_index r.sizes.items k)
  pub line : (n : ℕ) → n ≤ largest_counted → 0 < requested events n → IsLineOf r.sizes.items n (slice_index r.lines.items n)
  pub largest : IsLargestSoFar events (length events) r.largest.above r.largest.moment

-- ---- stretches

-- The counts of some sizes in a snapshot.
abbrev pub column_of : List ℕ → List ℕ → List ℕ
column_of sizes snapshot = map (λ n. slice_index snapshot n) sizes

-- From a moment to another no size has more live blocks than that.
pub record Bounds (events : List SizeEvent) (sizes : List ℕ) (from to : ℕ) (counts : List ℕ) : Type 0 where
  pub len : length counts ≡ length sizes
  pub few : (k : ℕ) → slice_index counts k ≤ greatest_count
  pub above : (m k : ℕ) → from ≤ m → m ≤ to → k < length sizes
      → slice_index (snapshot_at events m) (slice_index sizes k) ≤ slice_index counts k

-- The stretches of the first so many events.
pub record AreStretchesTo (events : List SizeEvent) (sizes : List ℕ) (to : ℕ) (starts : List ℕ) (before most : List (List ℕ)) : Type 0 where
  pub ends : length starts ≡ length most + 1
  pub rows : length before ≡ length starts
  pub first : slice_index starts 0 ≡ 0
  pub last : slice_index starts (length most) ≡ to
  pub up : (b : ℕ) → b < length most → slice_index starts b ≤ slice_index starts (b + 1)
  pub within : (b : ℕ) → b < length starts → slice_index starts b ≤ length events
  pub before_are : (b : ℕ) → b < length starts
      → slice_index_or before b [] ≡ column_of sizes (snapshot_at events (slice_index starts b))
  pub most_are : (b : ℕ) → b < length most
      → Bounds events sizes (slice_index starts b) (slice_index starts (b + 1)) (slice_index_or most b [])

-- The stretches of all events.
abbrev pub AreStretches : List SizeEvent → List ℕ → Stretches → Type 0
AreStretches events sizes s = AreStretchesTo events sizes (length events) s.starts.items (lists_of s.before.items) (lists_of s.most.items)

-- What an index keeps of a timeline.
pub record IsIndex (events : List SizeEvent) (r : RequestedSizes) (s : Stretches) : Type 0 where
  pub timeline : IsTimeline events
  pub requested_are : AreRequested events r
  pub stretches_are : AreStretches events r.sizes.items s

-- ---- the peak of some sizes

-- The first size that the class of a number may serve, in bytes.
abbrev pub class_start : List ℕ → ℕ → ℕ
class_start classes zero = 0
class_start classes (suc number) = granule_bytes * slice_index classes number - (granule_bytes - 1)

-- Two sizes up to the one after the largest that is counted.
pub record AreInOrder (low end : ℕ) : Type 0 where
  pub order : low ≤ end
  pub small : end ≤ largest_counted + 1

-- The lines of a span are those of its sizes.
pub record IsSpan (sizes : List ℕ) (span : Span) : Type 0 where
  pub in_order : AreInOrder span.low span.end
  pub order : span.start ≤ span.stop
  pub from : IsCutAt sizes span.start span.low
  pub to : IsCutAt sizes span.stop span.end

-- The most that a measure is up to a moment, or `floor` if that is more; and the first moment at which it is so much.
pub record IsPeakTo (measure : List ℕ → ℕ) (events : List SizeEvent) (floor moment : ℕ) (peak : Peak) : Type 0 where
  pub is : peak.most ≡ max floor (most_to measure events moment)
  pub first : floor < peak.most → IsFirst measure events moment peak.most peak.first
  pub none : peak.most ≡ floor → peak.first ≡ 0

-- A peak up to a moment, where another is that up to an earlier one.
abbrev pub IsPeakAfter : (List ℕ → ℕ) → List SizeEvent → ℕ → ℕ → Peak → Peak → Type 0
IsPeakAfter measure events from to peak next =
    (floor : ℕ) → IsPeakTo measure events floor from peak → IsPeakTo measure events floor to next
