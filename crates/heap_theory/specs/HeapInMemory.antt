-- How the headers and links of a region show the slots of a heap at rest: `IsKeptIn`, what callers know of the memory that a heap lends.
use Rattle.std.specs.Prelude.{◌≡◌, ◌≢◌, ℕ, ◌+◌, ◌*◌, ◌<◌, List, length, slice_get, slice_index, Some, AllPairs, Contains, IsFalse}
use Rattle.machine_theory.specs.{Memory.{Granule, word_at}, declared.sizes.TheConstants.{GRANULE_BYTES}}
use Rattle.class_table.specs.Layout.{Partition, slot_count, slot_of}
use Rattle.heap_theory.specs.{Header.{header_for}, Links.{IsLinked, list_of}, QueueAndLists.{HoldsQuarantined, HoldsReleased}}
use Rattle.heap_theory.specs.{Region.{Region, header_in, next_in, region_of}, State.{Heap, state_at, IsSlot, is_dead}}

-- The region of a heap at rest, over the heap and its memory alone: its headers, and the queue and lists that are linked through them.
pub record IsKeptIn (heap : Heap) (region : Region) : Type 0 where
  -- the granules without header bytes are the heap's memory, and each header shows its slot's state
  pub seen : region.granules ≡ heap.memory
  pub headers : (s : ℕ) → IsSlot heap s → header_in region s ≡ header_for heap s (next_in region s)
  pub unlinked : (s : ℕ) → IsSlot heap s → IsFalse (is_dead (state_at heap s)) → next_in region s ≡ 0
  -- from the quarantine's front the links meet each quarantined slot once, in ascending mark, and end
  pub front : ℕ
  pub queue : List ℕ
  pub queue_linked : IsLinked (next_in region) front queue
  pub queue_holds : HoldsQuarantined heap queue
  pub queue_once : AllPairs (λ s r. s ≢ r) queue
  -- from each class's front they meet each of its released slots once, in descending mark, and end
  pub fronts : List ℕ
  pub lists : List (List ℕ)
  pub fronts_long : length fronts ≡ length heap.layout.classes
  pub list_linked : (number : ℕ) → number < length fronts → IsLinked (next_in region) (slice_index fronts number) (list_of lists number)
  pub list_holds : (number class : ℕ) → slice_get heap.layout.classes number ≡ Some class → HoldsReleased heap class (list_of lists number)
  pub list_once : (number : ℕ) → number < length fronts → AllPairs (λ s r. s ≢ r) (list_of lists number)
  -- no slot is in two lists, or in a list and in the queue
  pub one_list : (a b s : ℕ) → a < length fronts → b < length fronts → Contains (list_of lists a) s → Contains (list_of lists b) s → a ≡ b
  pub apart : (number s : ℕ) → number < length fronts → Contains queue s → Contains (list_of lists number) s → ⊥

-- ---- the words of headers

-- The two words of each slot's header are in one memory as in the other.
pub record HaveSameHeaderWords (layout : Partition) (memory other : List Granule) : Type 0 where
  pub first : (s : ℕ) → s < slot_count layout →
      word_at other (GRANULE_BYTES * (slot_of layout s).start) ≡ word_at memory (GRANULE_BYTES * (slot_of layout s).start)
  pub second : (s : ℕ) → s < slot_count layout →
      word_at other (GRANULE_BYTES * (slot_of layout s).start + 8) ≡ word_at memory (GRANULE_BYTES * (slot_of layout s).start + 8)

-- Header words stay from one heap to another: if one memory keeps the first heap and another memory keeps the second, both memories have
-- the same words in each slot's header. So this holds for the memories that `Heap::memory` lends before and after.
abbrev pub HeaderWordsStay : Heap → Heap → Type 0
HeaderWordsStay before after =
    (memory new : List Granule) → IsKeptIn before (region_of before.layout memory) → IsKeptIn after (region_of after.layout new) →
    HaveSameHeaderWords before.layout memory new

-- Two heaps with the same layout, slots, total and limit.
pub record HaveSameSlots (heap other : Heap) : Type 0 where
  pub layout : other.layout ≡ heap.layout
  pub states : other.states ≡ heap.states
  pub total : other.total ≡ heap.total
  pub quarantine : other.quarantine ≡ heap.quarantine
