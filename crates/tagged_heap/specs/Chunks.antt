-- What is written of the chunk of one slot.
use Rattle.std.specs.Prelude.{◌≡◌, ℕ, ◌^◌, ◌<◌, ◌≤◌, bit_or, length, slice_get, List, Some}
use Rattle.machine_theory.specs.{Instructions.{drawn_tag}, Machine.{Machine}, Memory.{Granule, IsMemory}}
use Rattle.class_table.specs.{Layout.{Partition, slot_count, slot_of, end_of}, Sizes.{largest_counted, chunk_granules}}
use Rattle.class_table.specs.declared.table.TheConstants.{MOST_CLASSES}
use Rattle.heap_theory.specs.{Calls.{parity_exclude}, Header.{Header, class_number}, Header.Standing.{Live, Quarantined}}
use Rattle.heap_theory.specs.{Region.{region_of, header_in}, State.{Heap, slot_in, state_at, IsSlot}, State.State.{Live as Given}}
use Rattle.tagged_heap.specs.declared.freeing.Chunk.{Chunk}

-- the tag that the machine draws for a slot, by what its header says of its last one
abbrev pub tag_for : Partition → Machine → ℕ → ℕ
tag_for layout machine s =
    drawn_tag machine.tag machine.seed (bit_or (parity_exclude s) (2 ^ (header_in (region_of layout machine.memory) s).tag))

-- the header once the slot is given out
abbrev pub given_header : Header → ℕ → ℕ → Header
given_header header n tag = record { standing = Live; size = n; tag = tag; class = header.class; next = 0; mark = 0 }

-- the header once the slot is taken back
abbrev pub retired_header : Header → ℕ → Header
retired_header header mark = record header { standing = Quarantined; next = 0; mark = mark }

-- A live chunk of the heap, with its slot's place and the number of its class.
pub record IsChunk (heap : Heap) (chunk : Chunk) : Type 0 where
  pub slot : IsSlot heap chunk.slot
  pub start : chunk.start ≡ (slot_in heap chunk.slot).start
  pub class : chunk.class ≡ (slot_in heap chunk.slot).class
  pub number : slice_get heap.layout.classes chunk.number ≡ Some (slot_in heap chunk.slot).class
  pub numbered : chunk.number ≡ class_number heap.layout chunk.slot
  pub live : state_at heap chunk.slot ≡ Given chunk.size chunk.tag

-- a slot of the layout in this memory, with room for the chunk of n bytes
pub record HasRoom (layout : Partition) (memory : List Granule) (s n : ℕ) : Type 0 where
  pub slot : s < slot_count layout
  pub region : length memory ≡ layout.granules
  pub inside : end_of (slot_of layout s) ≤ layout.granules
  pub memory_is : IsMemory memory
  pub size : n ≤ largest_counted
  pub room : chunk_granules n < (slot_of layout s).class
  pub header : (header_in (region_of layout memory) s).class < MOST_CLASSES
