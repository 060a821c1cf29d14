-- What is true of every heap.
use Rattle.std.specs.Prelude.{◌≡◌, ◌≢◌, ℕ, ◌+◌, ◌%◌, ◌<◌, ◌≤◌, List, length, ⊤}
use Rattle.machine_theory.specs.Memory.{Granule, tag_at}
use Rattle.class_table.specs.Layout.{IsPartition, Slot, end_of, slot_count, Covers, AreInOrder}
use Rattle.heap_theory.specs.{State.{State, Heap, slot_in, state_at, chunk_granules_of, IsSlot}, State.State.{Fresh, Live, Dead}}

-- a tag that a slot of this number may take: not 0, and odd where the number is even
pub record IsTagOf (s tag : ℕ) : Type 0 where
  pub below : tag < 16
  pub not_zero : 0 < tag
  pub other_parity : (s + tag) % 2 ≡ 1

-- the one tag of a slot's chunk granules: of a live slot the tag that it was given out with, of a dead one another tag that it may take
abbrev pub IsChunkTag : ℕ → State → ℕ → Type 0
IsChunkTag s Fresh tag = ⊤
IsChunkTag s (Live size given) tag = IsTagOf s given × (tag ≡ given)
IsChunkTag s (Dead size given mark) tag = IsTagOf s given × IsTagOf s tag × (tag ≢ given)

-- The tags of a slot's granules: its chunk granules share one, and its header and its tail have tag 0.
pub record IsTaggedSlot (memory : List Granule) (s : ℕ) (slot : Slot) (state : State) : Type 0 where
  pub room : chunk_granules_of state < slot.class
  pub chunk_tag : ℕ
  pub is_chunk_tag : IsChunkTag s state chunk_tag
  pub header : tag_at memory slot.start ≡ 0
  pub chunk : (g : ℕ) → slot.start < g → g ≤ slot.start + chunk_granules_of state → tag_at memory g ≡ chunk_tag
  pub tail : (g : ℕ) → slot.start + chunk_granules_of state < g → g < end_of slot → tag_at memory g ≡ 0

-- the fact holds of the slot's mark, if it is dead
abbrev pub IfDead : State → (ℕ → Type 0) → Type 0
IfDead Fresh P = ⊤
IfDead (Live size given) P = ⊤
IfDead (Dead size given mark) P = P mark

pub record IsSoundHeap (heap : Heap) : Type 0 where
  pub partition : IsPartition heap.layout
  pub slots : AreInOrder heap.layout
  pub long : length heap.memory ≡ heap.layout.granules
  pub states : length heap.states ≡ slot_count heap.layout
  pub tag_below : heap.tag < 16
  pub tagged : (s : ℕ) → IsSlot heap s → IsTaggedSlot heap.memory s (slot_in heap s) (state_at heap s)
  pub slack : (g : ℕ) → ((s : ℕ) → IsSlot heap s → Covers (slot_in heap s) g → ⊥) → tag_at heap.memory g ≡ 0
  pub marks : (s : ℕ) → IfDead (state_at heap s) (λ mark. mark < heap.total)
  pub marks_differ : (s r : ℕ) → s ≢ r → IfDead (state_at heap s) (λ mark. IfDead (state_at heap r) (λ other. mark ≢ other))
