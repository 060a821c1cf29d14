-- The freed slots: a queue for the quarantine and a list for each class, and how they agree with the marks in the slots' states.
use Rattle.std.specs.Prelude.{◌≡◌, ◌↔◌, ℕ, ◌+◌, ◌-◌, ◌<◌, ◌≤◌, List, [], ◌∷◌, length, slice_get, slice_index, sum_by, Some, IsTrue}
use Rattle.std.specs.Prelude.{AllPairs, Contains, ⊤}
use Rattle.class_table.specs.Layout.{Partition, block_bytes, slot_of}
use Rattle.heap_theory.specs.{Links.{list_of}, State.{State, Heap, slot_in, state_at, IsSlot, is_released, is_quarantined, mark_of}}
use Rattle.heap_theory.specs.State.State.{Fresh, Live, Dead}

-- ---- what the lists hold

-- The queue has the quarantined slots, the one freed first at its front.
pub record HoldsQuarantined (heap : Heap) (queue : List ℕ) : Type 0 where
  pub slots : (s : ℕ) → Contains queue s ↔ (IsSlot heap s × IsTrue (is_quarantined heap (state_at heap s)))
  pub ascending : AllPairs (λ s r. mark_of (state_at heap s) < mark_of (state_at heap r)) queue

-- A class's list has its released slots, the one freed last at its front.
pub record HoldsReleased (heap : Heap) (class : ℕ) (list : List ℕ) : Type 0 where
  pub slots : (s : ℕ) → Contains list s ↔ (IsSlot heap s × ((slot_in heap s).class ≡ class) × IsTrue (is_released heap (state_at heap s)))
  pub descending : AllPairs (λ s r. mark_of (state_at heap r) < mark_of (state_at heap s)) list

-- ---- how they are kept: a condition that each step of a call keeps

-- the slot is dead, with this mark
abbrev pub HasMark : State → ℕ → Type 0
HasMark Fresh mark = ⊥
HasMark (Live size tag) mark = ⊥
HasMark (Dead size tag own) mark = own ≡ mark

-- Dead slots, the first with the mark `from`, each freed just after the one before it, and the last one last of all.
abbrev pub IsChain : Heap → ℕ → List ℕ → Type 0
IsChain heap from [] = from ≡ heap.total
IsChain heap from (s ∷ rest) = IsSlot heap s × HasMark (state_at heap s) from × IsChain heap (from + block_bytes (slot_in heap s)) rest

-- Dead slots of a class, each freed before the one in front of it, and the first before the mark `bound`.
abbrev pub IsFreedList : Heap → ℕ → ℕ → List ℕ → Type 0
IsFreedList heap class bound [] = ⊤
IsFreedList heap class bound (s ∷ rest) =
    (mark : ℕ) × IsSlot heap s × ((slot_in heap s).class ≡ class) × HasMark (state_at heap s) mark × (mark < bound)
    × IsFreedList heap class mark rest

-- the bytes of the blocks of some slots
abbrev pub bytes_of : Partition → List ℕ → ℕ
bytes_of layout slots = sum_by (λ s. block_bytes (slot_of layout s)) slots

-- The queue has the dead slots from a mark on, and the lists have those before it, which are all released.
pub record AgreeWithMarksFrom (heap : Heap) (from : ℕ) (queue : List ℕ) (lists : List (List ℕ)) : Type 0 where
  pub chain : IsChain heap from queue
  pub long : length lists ≡ length heap.layout.classes
  pub freed : (number : ℕ) → number < length lists → IsFreedList heap (slice_index heap.layout.classes number) from (list_of lists number)
  pub queued : (s mark : ℕ) → IsSlot heap s → HasMark (state_at heap s) mark → from ≤ mark → Contains queue s
  pub listed : (s mark number : ℕ) → IsSlot heap s → HasMark (state_at heap s) mark → mark < from →
      slice_get heap.layout.classes number ≡ Some (slot_in heap s).class → Contains (list_of lists number) s
  pub released : (s mark : ℕ) → IsSlot heap s → HasMark (state_at heap s) mark → mark < from → heap.quarantine < heap.total - mark

-- And no slot of the queue is to be released.
pub record AgreeWithMarks (heap : Heap) (queue : List ℕ) (lists : List (List ℕ)) : Type 0 where
  pub from : ℕ
  pub agree : AgreeWithMarksFrom heap from queue lists
  pub held : bytes_of heap.layout queue ≤ heap.quarantine
