-- The calls of the heap: how each changes it, and what each returns; and what a store leaves.
use Rattle.std.specs.Prelude.{ℕ, ◌+◌, ◌-◌, ◌*◌, ◌^◌, ◌%◌, min, Bool, false, ◌==◌, if◌then◌else◌, List, replicate, bit_or, slice_set, length}
use Rattle.std.specs.{Prelude.{Option, Some, None, Result, Ok, Err}, Result.{result_map_both, result_ok}}
use Rattle.machine_theory.specs.{Access.{access_fault, stored}, Instructions.{drawn_tag}, Memory.{Granule, tagged, written, bytes_at}}
use Rattle.machine_theory.specs.{Seed.{next_seed}, declared.fault.Fault.{Fault}, declared.sizes.TheConstants.{GRANULE_BYTES}}
use Rattle.class_table.specs.{Layout.{Slot, block_bytes}, Sizes.{chunk_granules}}
use Rattle.heap_theory.specs.{Lookups.{Chunk, class_for_request, slot_for_request, chunk_at}, State.State.{Live, Dead}}
use Rattle.heap_theory.specs.{State.{Heap, slot_in, state_at, last_tag, payload_start, pointer_to}, declared.refusal.FreeError.{FreeError}}
use Rattle.heap_theory.specs.declared.refusal.{NullCause.{NullCause}, ReallocError.{ReallocError}, ReallocError.TheVariants.{Null, Refused}}

-- ---- tags

-- a slot with an even number takes odd tags, one with an odd number even tags other than 0
abbrev pub parity_exclude : ℕ → ℕ
parity_exclude s = if s % 2 == 0 then 0x5555 else 0xAAAB

-- the tags that a slot does not take next: those that it never takes, and the one that it was last given out with
abbrev pub exclude_at : Heap → ℕ → ℕ
exclude_at heap s = bit_or (parity_exclude s) (2 ^ last_tag (state_at heap s))

-- the tag that IRG draws for the slot
abbrev pub next_tag : Heap → ℕ → ℕ
next_tag heap s = drawn_tag heap.tag heap.seed (exclude_at heap s)

-- the memory in which the chunk of a request of n bytes has the tag, and the rest of the slot's payload has tag 0
abbrev pub chunk_tagged : Slot → ℕ → ℕ → List Granule → List Granule
chunk_tagged slot n tag memory =
    tagged (payload_start slot + chunk_granules n) (slot.class - 1 - chunk_granules n) 0
    (tagged (payload_start slot) (chunk_granules n) tag memory)

-- ---- what is made of a heap

-- the heap in which slot s was given out for n bytes, under a tag that was drawn for it
unfoldable pub given_out : Heap → ℕ → ℕ → Heap
given_out heap s n = record heap {
  states = slice_set heap.states s (Live n (next_tag heap s));
  memory = chunk_tagged (slot_in heap s) n (next_tag heap s) heap.memory;
  seed = next_seed heap.seed;
  tag = next_tag heap s;
}

-- the heap in which the chunk of n bytes in slot s was freed: its granules have another tag, and its block is the last one freed
unfoldable pub freed : Heap → ℕ → ℕ → Heap
freed heap s n = record heap {
  states = slice_set heap.states s (Dead n (last_tag (state_at heap s)) heap.total);
  memory = tagged (payload_start (slot_in heap s)) (chunk_granules n) (next_tag heap s) heap.memory;
  total = heap.total + block_bytes (slot_in heap s);
  seed = next_seed heap.seed;
  tag = next_tag heap s;
}

-- the heap in which the chunk in slot s has n bytes, under the tag that it has
unfoldable pub resized : Heap → ℕ → ℕ → Heap
resized heap s n = record heap {
  states = slice_set heap.states s (Live n (last_tag (state_at heap s)));
  memory = chunk_tagged (slot_in heap s) n (last_tag (state_at heap s)) heap.memory;
}

-- the heap with these bytes at the front of the slot's payload
unfoldable pub with_payload : Heap → ℕ → List ℕ → Heap
with_payload heap s bytes = record heap { memory = written (GRANULE_BYTES * payload_start (slot_in heap s)) bytes heap.memory }

-- the first n bytes of the slot's payload
abbrev pub payload_bytes : Heap → ℕ → ℕ → List ℕ
payload_bytes heap s n = bytes_at heap.memory (GRANULE_BYTES * payload_start (slot_in heap s)) n

-- the heap in which a chunk has moved to slot s with n bytes: that slot was given out, as many bytes as both sizes have were copied, and
-- then the chunk was freed
unfoldable pub moved : Heap → Chunk → ℕ → ℕ → Heap
moved heap chunk s n = freed (with_payload (given_out heap s n) s (payload_bytes heap chunk.slot (min chunk.size n))) chunk.slot chunk.size

-- ---- the calls

-- the heap after a call, and the call's result
pub record Step (A : Type 0) : Type 0 where
  pub heap : Heap
  pub answer : A

-- a call that is refused changes nothing
abbrev pub refusal : {A E : Type 0} → Heap → E → Step (Result A E)
refusal heap error = record { heap = heap; answer = Err error }

abbrev pub malloc_with : Heap → ℕ → Result ℕ NullCause → Step (Result ℕ NullCause)
malloc_with heap n (Ok s) = record { heap = given_out heap s n; answer = Ok (pointer_to (given_out heap s n) s) }
malloc_with heap n (Err cause) = refusal heap cause

-- A chunk of n bytes; its bytes keep their values.
unfoldable pub malloc_step : Heap → ℕ → Step (Result ℕ NullCause)
malloc_step heap n = malloc_with heap n (slot_for_request heap n)

abbrev pub calloc_with : Heap → ℕ → Result ℕ NullCause → Step (Result ℕ NullCause)
calloc_with heap n (Ok s) = record {
  heap = with_payload (given_out heap s n) s (replicate (GRANULE_BYTES * chunk_granules n) 0);
  answer = Ok (pointer_to (given_out heap s n) s);
}
calloc_with heap n (Err cause) = refusal heap cause

-- A chunk of n bytes, all bytes of its granules 0.
unfoldable pub calloc_step : Heap → ℕ → Step (Result ℕ NullCause)
calloc_step heap n = calloc_with heap n (slot_for_request heap n)

abbrev pub free_with : Heap → Result Chunk FreeError → Step (Result (Unit {0}) FreeError)
free_with heap (Ok chunk) = record { heap = freed heap chunk.slot chunk.size; answer = Ok tt }
free_with heap (Err error) = refusal heap error

-- Nothing at null; else the chunk at p is freed.
unfoldable pub free_step : Heap → ℕ → Step (Result (Unit {0}) FreeError)
free_step heap p = if p == 0 then record { heap = heap; answer = Ok tt } else free_with heap (chunk_at heap p)

abbrev pub is_class_of : Slot → Result ℕ NullCause → Bool
is_class_of slot (Ok class) = class == slot.class
is_class_of slot (Err cause) = false

-- whether n bytes are of the class that the chunk's slot has
abbrev pub stays_in_class : Heap → Chunk → ℕ → Bool
stays_in_class heap chunk n = is_class_of (slot_in heap chunk.slot) (class_for_request heap n)

-- the slot to which a realloc to n bytes moves the chunk at its pointer, if it moves one
abbrev pub slot_if_moved : Heap → ℕ → Result Chunk FreeError → Option ℕ
slot_if_moved heap n (Ok chunk) = if stays_in_class heap chunk n then None else result_ok (slot_for_request heap n)
slot_if_moved heap n (Err error) = None

abbrev pub move_with : Heap → Chunk → ℕ → Result ℕ NullCause → Step (Result ℕ ReallocError)
move_with heap chunk n (Ok s) = record { heap = moved heap chunk s n; answer = Ok (pointer_to (given_out heap s n) s) }
move_with heap chunk n (Err cause) = refusal heap (Null cause)

abbrev pub realloc_with : Heap → ℕ → ℕ → Result Chunk FreeError → Step (Result ℕ ReallocError)
realloc_with heap p n (Err error) = refusal heap (Refused error)
realloc_with heap p n (Ok chunk) =
    if stays_in_class heap chunk n then record { heap = resized heap chunk.slot n; answer = Ok p } else move_with heap chunk n
    (slot_for_request heap n)

abbrev pub as_realloc : Step (Result ℕ NullCause) → Step (Result ℕ ReallocError)
as_realloc step = record { heap = step.heap; answer = result_map_both (λ p. p) Null step.answer }

-- At null a new chunk; else the chunk at p gets n bytes, in place where they are of its class, and in another slot where not.
unfoldable pub realloc_step : Heap → ℕ → ℕ → Step (Result ℕ ReallocError)
realloc_step heap p n = if p == 0 then as_realloc (malloc_step heap n) else realloc_with heap p n (chunk_at heap p)

-- ---- a store

abbrev pub store_with : Heap → ℕ → List ℕ → Option Fault → Heap
store_with heap address bytes None = record heap { memory = stored heap.memory address bytes }
store_with heap address bytes (Some fault) = heap

-- A store: nothing changes where the access is a fault.
unfoldable pub store_step : Heap → ℕ → List ℕ → Heap
store_step heap address bytes = store_with heap address bytes (access_fault heap.memory address (length bytes))
