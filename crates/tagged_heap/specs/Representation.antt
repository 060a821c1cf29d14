-- How a heap is kept: in headers, in lists that are linked through them, and in a counter for each class. `IsKept` says it of the parts
-- that change while slots are released, and `IsKeptIn` (heap_theory) follows from it for a heap at rest.
use Rattle.std.specs.Prelude.{◌≡◌, ◌≢◌, ℕ, ◌+◌, ◌<◌, ◌≤◌, nat_lt, List, length, slice_index, IsFalse, IsTrue}
use Rattle.machine_theory.specs.Memory.{Granule, IsMemory}
use Rattle.class_table.specs.Layout.{Partition, slot_count, first_slot}
use Rattle.heap_theory.specs.{Header.{Standing, Header, standing_where, header_with}, Links.{IsLinked, list_of}, Sound.{IsSoundHeap}}
use Rattle.heap_theory.specs.{QueueAndLists.{AgreeWithMarksFrom}, Region.{Region, region_of, header_in, next_in}}
use Rattle.heap_theory.specs.State.{State, Heap, slot_in, state_at, is_fresh, without_headers, IsSlot, is_dead, mark_of}
use Rattle.heap_theory.specs.State.State.{Fresh as NeverGiven}
use Rattle.quarantine_core.specs.Queue.{Queue, AreQueued}

-- `new` is `old` with `header` as the header of slot s. The other headers are the same, and without header bytes `new` is `seen`.
pub record IsRewritten (layout : Partition) (old new : List Granule) (s : ℕ) (header : Header) (seen : List Granule)
    : Type 0 where
  pub own : header_in (region_of layout new) s ≡ header
  pub others : (r : ℕ) → r < slot_count layout → r ≢ s → header_in (region_of layout new) r ≡ header_in (region_of layout old) r
  pub seen_is : without_headers layout new ≡ seen

-- ---- headers

-- how a slot stands in a state: a dead slot is in the quarantine if its mark is at least `from`
abbrev pub standing_from : ℕ → State → Standing
standing_from from state = standing_where (nat_lt (mark_of state) from) state

-- the header of slot s in that state
abbrev pub header_from : Partition → ℕ → ℕ → State → ℕ → Header
header_from layout from s state next = header_with layout s (standing_from from state) state next

-- Each header shows its slot's state, and the links of slots that are not dead are 0.
pub record HasHeaders (heap : Heap) (region : Region) (from : ℕ) : Type 0 where
  pub headers : (s : ℕ) → IsSlot heap s →
      header_in region s ≡ header_from heap.layout from s (state_at heap s) (next_in region s)
  pub unlinked : (s : ℕ) → IsSlot heap s → IsFalse (is_dead (state_at heap s)) → next_in region s ≡ 0

-- Each slot with a lower number than this has the header of a slot that was never given out.
abbrev pub AreFreshBelow : Partition → List Granule → ℕ → Type 0
AreFreshBelow layout memory n = (s : ℕ) → s < n → header_in (region_of layout memory) s ≡ header_from layout 0 s NeverGiven 0

-- ---- lists

-- From each class's front the links show its list.
pub record AreListed (next : ℕ → ℕ) (fronts : List ℕ) (lists : List (List ℕ)) : Type 0 where
  pub long : length fronts ≡ length lists
  pub linked : (number : ℕ) → number < length lists → IsLinked next (slice_index fronts number) (list_of lists number)

-- ---- the heap

-- The parts of a heap that change while slots are released from its quarantine.
pub record Parts : Type 0 where
  pub memory : List Granule
  pub quarantine : Queue
  pub fronts : List ℕ

-- A heap's state in headers, links and fronts, over the parts, at rest and while slots are released. The queue has the dead slots from a
-- mark on, and the lists have the others. While slots are released the queue may have more bytes than the limit. Where it has no more,
-- `IsKeptIn` (heap_theory) follows, which is over the heap and its memory alone.
pub record IsKept (heap : Heap) (parts : Parts) : Type 0 where
  pub from : ℕ
  pub queue : List ℕ
  pub lists : List (List ℕ)
  pub sound : IsSoundHeap heap
  pub memory_is : IsMemory parts.memory
  pub seen : without_headers heap.layout parts.memory ≡ heap.memory
  pub headers : HasHeaders heap (region_of heap.layout parts.memory) from
  pub queued : AreQueued parts.quarantine heap.layout (region_of heap.layout parts.memory) queue
  pub listed : AreListed (next_in (region_of heap.layout parts.memory)) parts.fronts lists
  pub agree : AgreeWithMarksFrom heap from queue lists
  pub limit : parts.quarantine.limit ≡ heap.quarantine

-- some heap of this layout is kept so
abbrev pub SomeIsKept : Partition → Parts → Type 0
SomeIsKept layout parts = (heap : Heap) × IsKept (record heap { layout = layout }) parts

-- For each class a number of a slot: those slots of the class that are below it were given out, and the others never.
pub record AreFirstFresh (heap : Heap) (counters : List ℕ) : Type 0 where
  pub long : length counters ≡ length heap.layout.classes
  pub from : (number : ℕ) → number < length counters → first_slot heap.layout number ≤ slice_index counters number
  pub to : (number : ℕ) → number < length counters → slice_index counters number ≤ first_slot heap.layout (number + 1)
  pub given : (number s : ℕ) → number < length counters → IsSlot heap s →
      (slot_in heap s).class ≡ slice_index heap.layout.classes number → s < slice_index counters number →
      IsFalse (is_fresh (state_at heap s))
  pub fresh : (number s : ℕ) → number < length counters → IsSlot heap s →
      (slot_in heap s).class ≡ slice_index heap.layout.classes number → slice_index counters number ≤ s →
      IsTrue (is_fresh (state_at heap s))
