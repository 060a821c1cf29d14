-- What the blocks of a table come to over a timeline: the bytes of those that are live, and the freed ones.
use Rattle.std.specs.Prelude.{◌≡◌, ℕ, zero, suc, ◌+◌, ◌-◌, ◌*◌, ◌<◌, ◌≤◌, max, List, length, slice_index, sum_by}
use Rattle.class_table.specs.Sizes.{granule_bytes}
use Rattle.tuner_theory.specs.{Footprint.{blocks}, Profiles.{greatest_count}, Timelines.{most_to, snapshot_at}}
use Rattle.tuner_theory.specs.declared.size_event.SizeEvent.{SizeEvent}
use Rattle.history_count.specs.declared.timelines.counting.{BlockMove.{BlockMove}, BlockMove.TheVariants.{Nothing, New, Again, Freed}}
use Rattle.history_count.specs.declared.timelines.sums.Sums.{Sums}

-- The bytes of all live blocks at a snapshot.
abbrev pub live_bytes : List ℕ → List ℕ → ℕ
live_bytes classes snapshot = sum_by (λ class. granule_bytes * class * blocks classes class snapshot) classes

-- How many blocks are live at a moment.
abbrev pub live_blocks : List SizeEvent → List ℕ → ℕ → ℕ
live_blocks events classes moment = sum_by (λ class. blocks classes class (snapshot_at events moment)) classes

-- How many blocks there are at a moment, live or freed. A class gives out its freed blocks before it has a new one, so it has as many as
-- were live at once so far.
abbrev pub made_blocks : List SizeEvent → List ℕ → ℕ → ℕ
made_blocks events classes moment = sum_by (λ class. most_to (blocks classes class) events moment) classes

-- How many are freed, and not given out again.
abbrev pub freed_blocks : List SizeEvent → List ℕ → ℕ → ℕ
freed_blocks events classes moment = made_blocks events classes moment - live_blocks events classes moment

-- The most of an amount at the moments up to this one.
abbrev pub greatest_to : (ℕ → ℕ) → ℕ → ℕ
greatest_to amount zero = amount zero
greatest_to amount (suc moment) = max (greatest_to amount moment) (amount (suc moment))

-- The most blocks that are freed at a moment.
abbrev pub most_freed : List SizeEvent → List ℕ → ℕ
most_freed events classes = greatest_to (freed_blocks events classes) (length events)

-- The sums after so many events.
pub record AreSums (events : List SizeEvent) (classes : List ℕ) (moment : ℕ) (sums : Sums) : Type 0 where
  pub made : sums.made ≡ made_blocks events classes moment
  pub live : sums.live ≡ live_blocks events classes moment
  pub bytes : sums.bytes ≡ live_bytes classes (snapshot_at events moment)
  pub most_bytes : sums.most_bytes ≡ most_to (live_bytes classes) events moment
  pub most_freed : sums.most_freed ≡ greatest_to (freed_blocks events classes) moment
  pub few : sums.made ≤ moment
  pub small : sums.bytes ≤ 16384 * moment

-- What their sums with one block more need to fit in 64 bits.
pub record AreSmall (sums : Sums) : Type 0 where
  pub made : sums.made ≤ greatest_count
  pub bytes : sums.bytes ≤ 16384 * greatest_count

-- The sums where these blocks and bytes come after them.
abbrev pub sums_after : Sums → ℕ → ℕ → ℕ → Sums
sums_after sums made live bytes = record {
  made = made;
  live = live;
  bytes = bytes;
  most_bytes = max sums.most_bytes bytes;
  most_freed = max sums.most_freed (made - live);
}

-- The sums after an event that did this to the blocks of its class,
abbrev pub moved_sums : List ℕ → Sums → BlockMove → Sums
moved_sums classes sums Nothing = sums_after sums sums.made sums.live sums.bytes
moved_sums classes sums (New number) =
    sums_after sums (sums.made + 1) (sums.live + 1) (sums.bytes + granule_bytes * slice_index classes number)
moved_sums classes sums (Again number) =
    sums_after sums sums.made (sums.live + 1) (sums.bytes + granule_bytes * slice_index classes number)
moved_sums classes sums (Freed number) =
    sums_after sums sums.made (sums.live - 1) (sums.bytes - granule_bytes * slice_index classes number)

-- and what they are before it.
abbrev pub MayMove : List ℕ → Sums → BlockMove → Type 0
MayMove classes sums Nothing = sums.live ≤ sums.made
MayMove classes sums (New number) = number < length classes × sums.live ≤ sums.made
MayMove classes sums (Again number) = number < length classes × sums.live < sums.made
MayMove classes sums (Freed number) =
    number < length classes × granule_bytes * slice_index classes number ≤ sums.bytes × 1 ≤ sums.live × sums.live - 1 ≤ sums.made
