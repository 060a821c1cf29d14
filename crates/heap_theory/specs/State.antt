-- What a heap holds.
use Rattle.std.specs.List.{range_with_len, list_any}
use Rattle.std.specs.Prelude.{[], map, replicate, slice_index_or, ⊤, ℕ, ◌+◌, ◌-◌, ◌*◌, ◌<◌, Bool, true, false, ◌&&◌, ◌==◌, nat_lt, nat_le}
use Rattle.std.specs.Prelude.{if◌then◌else◌, List}
use Rattle.machine_theory.specs.{Address.{region_start, with_tag}, Memory.{Granule, no_granule, new_granule, each_granule}}
use Rattle.machine_theory.specs.declared.sizes.TheConstants.{GRANULE_BYTES}
use Rattle.class_table.specs.{Layout.{Partition, Slot, slots_of, slot_count, slot_of}, Sizes.{chunk_granules}}

-- A slot was never given out; or it was, for a request of `size` bytes under `tag`; or it was freed since. A freed one keeps both, and
-- its mark is the bytes of all blocks that were freed before it.
pub data State : Type 0 where
  Fresh : State
  Live : (size tag : ℕ) → State
  Dead : (size tag mark : ℕ) → State

pub record Heap : Type 0 where
  pub layout : Partition  -- where its slots lie
  pub quarantine : ℕ  -- how many bytes its quarantine may hold
  pub states : List State  -- one for each slot
  pub memory : List Granule  -- without the bytes of headers
  pub total : ℕ  -- the bytes of all blocks that were ever freed
  pub seed : ℕ  -- RGSR_EL1.SEED
  pub tag : ℕ  -- RGSR_EL1.TAG, the tag that was drawn last

-- ---- slots

abbrev pub IsSlot : Heap → ℕ → Type 0
IsSlot heap s = s < slot_count heap.layout

abbrev pub slot_in : Heap → ℕ → Slot
slot_in heap s = slot_of heap.layout s

abbrev pub state_at : Heap → ℕ → State
state_at heap s = slice_index_or heap.states s Fresh

abbrev pub is_fresh : State → Bool
is_fresh Fresh = true
is_fresh (Live size tag) = false
is_fresh (Dead size tag mark) = false

abbrev pub IsLive : State → Type 0
IsLive Fresh = ⊥
IsLive (Live size tag) = ⊤
IsLive (Dead size tag mark) = ⊥

abbrev pub is_dead : State → Bool
is_dead Fresh = false
is_dead (Live size tag) = false
is_dead (Dead size tag mark) = true

-- the mark of a dead slot, or 0
abbrev pub mark_of : State → ℕ
mark_of Fresh = 0
mark_of (Live size tag) = 0
mark_of (Dead size tag mark) = mark

-- whether the slot is dead, and more bytes than the quarantine's limit were freed from its free on, its own among them
abbrev pub is_released : Heap → State → Bool
is_released heap state = is_dead state && nat_lt heap.quarantine (heap.total - mark_of state)

-- whether the slot is dead, and still held back
abbrev pub is_quarantined : Heap → State → Bool
is_quarantined heap state = is_dead state && nat_le (heap.total - mark_of state) heap.quarantine

-- the tag that the slot was last given out with, or 0
abbrev pub last_tag : State → ℕ
last_tag Fresh = 0
last_tag (Live size tag) = tag
last_tag (Dead size tag mark) = tag

-- ---- chunks

-- how many granules of the slot's payload are its chunk: the first ones
abbrev pub chunk_granules_of : State → ℕ
chunk_granules_of Fresh = 0
chunk_granules_of (Live size tag) = chunk_granules size
chunk_granules_of (Dead size tag mark) = chunk_granules size

-- the first granule of the payload
abbrev pub payload_start : Slot → ℕ
payload_start slot = slot.start + 1

-- the place of the payload's first byte
abbrev pub payload_place : Slot → ℕ
payload_place slot = region_start + GRANULE_BYTES * payload_start slot

-- the address of the payload, under the tag that the slot was last given out with
abbrev pub pointer_to : Heap → ℕ → ℕ
pointer_to heap s = with_tag (payload_place (slot_in heap s)) (last_tag (state_at heap s))

-- ---- memory without header bytes, which is what a heap's caller may know of

-- whether granule g is the first one of a slot, which has its header
abbrev pub is_header_granule : Partition → ℕ → Bool
is_header_granule layout g = list_any (λ slot. slot.start == g) (slots_of layout)

unfoldable pub without_headers : Partition → List Granule → List Granule
without_headers layout memory =
    each_granule (λ g granule. if is_header_granule layout g then record granule { bytes = [] } else granule) memory

-- a new memory, without header bytes
unfoldable pub first_memory : Partition → List Granule
first_memory layout = map (λ g. if is_header_granule layout g then no_granule else new_granule) (range_with_len 0 layout.granules)

-- A heap of which nothing was given out, with this seed and this limit of its quarantine.
unfoldable pub first_heap : Partition → ℕ → ℕ → Heap
first_heap layout seed quarantine = record {
  layout = layout;
  quarantine = quarantine;
  states = replicate (slot_count layout) Fresh;
  memory = first_memory layout;
  total = 0;
  seed = seed;
  tag = 0;
}
