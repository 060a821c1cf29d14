-- What a granule is to the heap.
use Rattle.std.specs.Prelude.{◌≡◌, ◌↔◌, ℕ, ◌+◌, ◌<◌, ◌≤◌, ◌==◌, if◌then◌else◌, Option, Some, None, IsTrue, ⊤}
use Rattle.machine_theory.specs.Memory.{is_among}
use Rattle.class_table.specs.Layout.{Slot, slot_over, end_of, Covers}
use Rattle.heap_theory.specs.State.{State, Heap, IsLive, is_dead, slot_in, state_at, chunk_granules_of, payload_start, IsSlot}
use Rattle.heap_theory.specs.{State.State.{Fresh, Live, Dead}, declared.place_kind.PlaceKind.{PlaceKind}}
use Rattle.heap_theory.specs.declared.place_kind.PlaceKind.TheVariants.{Slack, Header, Tail, Dead as DeadChunk, Other}

-- a granule of a chunk; a fresh slot has none
abbrev pub kind_of_chunk : State → PlaceKind
kind_of_chunk Fresh = Tail
kind_of_chunk (Live size tag) = Other
kind_of_chunk (Dead size tag mark) = DeadChunk

abbrev pub kind_in_slot : Slot → State → ℕ → PlaceKind
kind_in_slot slot state g =
    if slot.start == g then Header
    else if is_among (payload_start slot) (chunk_granules_of state) g then kind_of_chunk state
    else Tail

abbrev pub kind_at : Heap → Option ℕ → ℕ → PlaceKind
kind_at heap None g = Slack
kind_at heap (Some s) g = kind_in_slot (slot_in heap s) (state_at heap s) g

-- the number by which a kind is shown
abbrev pub kind_number : PlaceKind → ℕ
kind_number Slack = 0
kind_number Header = 1
kind_number Tail = 2
kind_number DeadChunk = 3
kind_number Other = 4

-- What granule g is.
unfoldable pub place_kind : Heap → ℕ → PlaceKind
place_kind heap g = kind_at heap (slot_over heap.layout g) g

-- ---- what the kinds mean

-- granule g is of the chunk of slot s, which is live or dead
pub record IsChunkGranule (heap : Heap) (s g : ℕ) : Type 0 where
  pub in_range : IsSlot heap s
  pub from : (slot_in heap s).start < g
  pub to : g ≤ (slot_in heap s).start + chunk_granules_of (state_at heap s)

-- it is of the payload of slot s
pub record IsPayloadGranule (heap : Heap) (s g : ℕ) : Type 0 where
  pub in_range : IsSlot heap s
  pub from : (slot_in heap s).start < g
  pub to : g < end_of (slot_in heap s)

-- What the kind of granule g means, exactly.
pub record IsOfItsKind (heap : Heap) (g : ℕ) : Type 0 where
  -- Slack is in no slot,
  pub slack : (place_kind heap g ≡ Slack) ↔ ((s : ℕ) → IsSlot heap s → Covers (slot_in heap s) g → ⊥)
  -- a header is the first granule of a slot,
  pub header : (place_kind heap g ≡ Header) ↔ ((s : ℕ) × IsSlot heap s × ((slot_in heap s).start ≡ g))
  -- a live or a dead chunk is that of a live or a dead slot,
  pub other : (place_kind heap g ≡ Other) ↔ ((s : ℕ) × IsLive (state_at heap s) × IsChunkGranule heap s g)
  pub dead : (place_kind heap g ≡ DeadChunk) ↔ ((s : ℕ) × IsTrue (is_dead (state_at heap s)) × IsChunkGranule heap s g)
  -- and a tail is the rest of a slot's payload, all of it where the slot is fresh.
  pub tail : (place_kind heap g ≡ Tail) ↔ ((s : ℕ) × IsPayloadGranule heap s g × (IsChunkGranule heap s g → ⊥))

-- the kinds of granules that are of no chunk
abbrev pub IsBookkeeping : PlaceKind → Type 0
IsBookkeeping Slack = ⊤
IsBookkeeping Header = ⊤
IsBookkeeping Tail = ⊤
IsBookkeeping DeadChunk = ⊥
IsBookkeeping Other = ⊥
